use Rattle.std.proofs.Common.{arith}
use Rattle.std.proofs.lemmas.Result.{err_from_is_err_and}
use Rattle.jx_base.specs.Texts.{unit_text}
use Rattle.page_text.proofs.Writing.{copy_goes_on, copy_stops, items_end}
use Rattle.page_text.proofs.pieces.write_units.Goals as goal

pub returns-in_err-write_unit : goal.returns-in_err-write_unit
returns-in_err-write_unit g c =
    let p = err_from_is_err_and c.from_residual.result c.from_residual.ensures.1 in
    rw p.1 (copy_stops unit_text c.args.units.now c.loop-unit.unit-index 0 (omega arith) c.loop-unit.invariant c.in_err-write_unit.ensures)

pub loop-unit-preserved : goal.loop-unit-preserved
loop-unit-preserved g c = copy_goes_on unit_text c.args.units.now c.loop-unit.unit-index 0 (omega arith) c.loop-unit.invariant c.in_ok-write_unit.ensures

pub returns : goal.returns
returns g c = items_end unit_text c.args.units.now c.loop-unit.unit-index (omega arith) c.loop-unit.invariant
