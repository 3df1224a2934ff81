use Rattle.std.proofs.Common.{arith}
use Rattle.std.proofs.lemmas.Result.{err_from_is_err_and}
use Rattle.page_text.specs.Pieces.{shown_unit}
use Rattle.page_text.proofs.Writing.{copy_goes_on, copy_stops, items_end, shown_so}
use Rattle.page_text.proofs.pieces.write_shown.Goals as goal

pub returns-in_err-write_shown_unit : goal.returns-in_err-write_shown_unit
returns-in_err-write_shown_unit g c =
    let p = err_from_is_err_and c.from_residual.result c.from_residual.ensures.1 in
    let plain = c.are_printable-plain.result in
    rw p.1 (shown_so c.args.units.now plain _ _ _ c.are_printable-plain.ensures
    (copy_stops (shown_unit plain) c.args.units.now c.loop-unit.unit-index 0 (omega arith) c.loop-unit.invariant c.in_err-write_shown_unit.ensures))

pub loop-unit-preserved : goal.loop-unit-preserved
loop-unit-preserved g c =
    copy_goes_on (shown_unit c.are_printable-plain.result) c.args.units.now c.loop-unit.unit-index 0 (omega arith) c.loop-unit.invariant c.in_ok-write_shown_unit.ensures

pub returns : goal.returns
returns g c =
    let plain = c.are_printable-plain.result in
    shown_so c.args.units.now plain _ _ _ c.are_printable-plain.ensures
    (items_end (shown_unit plain) c.args.units.now c.loop-unit.unit-index (omega arith) c.loop-unit.invariant)
