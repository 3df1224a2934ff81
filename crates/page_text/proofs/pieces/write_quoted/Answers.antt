use Rattle.std.proofs.lemmas.Result.{err_from_is_err_and}
use Rattle.jx_base.specs.Texts.{quoted}
use Rattle.page_text.proofs.Writing.{writes_then, writes_stop}
use Rattle.page_text.proofs.pieces.write_quoted.Goals as goal

pub returns-in_err-write_byte : goal.returns-in_err-write_byte
unfolding quoted
returns-in_err-write_byte g c =
    let p = err_from_is_err_and c.from_residual.result c.from_residual.ensures.1 in
    rw p.1 (writes_stop _ _ c.in_err-write_byte.ensures)

pub returns-in_err-write_units : goal.returns-in_err-write_units
unfolding quoted
returns-in_err-write_units g c =
    let p = err_from_is_err_and c.from_residual-in_err-write_units.result c.from_residual-in_err-write_units.ensures.1 in
    rw p.1 (writes_then c.in_ok-write_byte.ensures (writes_stop _ _ c.in_err-write_units.ensures))

pub returns : goal.returns
unfolding quoted
returns g c = writes_then c.in_ok-write_byte.ensures (writes_then c.in_ok-write_units.ensures c.write_byte-2.ensures)
