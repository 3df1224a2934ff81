use Rattle.std.proofs.lemmas.Result.{err_from_is_err_and}
use Rattle.page_text.proofs.Writing.{writes_then, writes_stop}
use Rattle.audit_lines.proofs.words.write_with_parcel.Goals as goal

pub returns-in_err-write_behind : goal.returns-in_err-write_behind
returns-in_err-write_behind g c =
    let p = err_from_is_err_and c.from_residual.result c.from_residual.ensures.1 in
    rw p.1 (writes_stop _ _ c.in_err-write_behind.ensures)

pub returns-in_err-write_byte : goal.returns-in_err-write_byte
returns-in_err-write_byte g c =
    let p = err_from_is_err_and c.from_residual-in_err-write_byte.result c.from_residual-in_err-write_byte.ensures.1 in
    rw p.1 (writes_then c.in_ok-write_behind.ensures (writes_stop _ _ c.in_err-write_byte.ensures))

pub returns : goal.returns
returns g c = writes_then c.in_ok-write_behind.ensures (writes_then c.in_ok-write_byte.ensures (c.write_parcel.ensures))
