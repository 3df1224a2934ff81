use Rattle.std.proofs.lemmas.Result.{err_from_is_err_and}
use Rattle.page_text.proofs.Writing.{writes_then, writes_stop}
use Rattle.audit_lines.proofs.parcels.write_spaced_word.Goals as goal

pub returns-in_err-write_byte : goal.returns-in_err-write_byte
returns-in_err-write_byte g c =
    let p = err_from_is_err_and c.from_residual.result c.from_residual.ensures.1 in
    rw p.1 (writes_stop _ _ c.in_err-write_byte.ensures)

pub returns : goal.returns
returns g c = writes_then c.in_ok-write_byte.ensures (c.write_word.ensures)
