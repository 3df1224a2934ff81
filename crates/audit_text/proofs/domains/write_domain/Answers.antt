use Rattle.std.proofs.lemmas.Result.{err_from_is_err_and}
use Rattle.audit_text.specs.Rendering.{whole_line}
use Rattle.page_text.proofs.Writing.{writes_then, writes_stop}
use Rattle.audit_text.proofs.domains.write_domain.Goals as goal

pub returns-in_err-write_origin : goal.returns-in_err-write_origin
unfolding whole_line
returns-in_err-write_origin g c =
    let p = err_from_is_err_and c.from_residual.result c.from_residual.ensures.1 in
    rw p.1 (writes_stop _ _ c.in_err-write_origin.ensures)

pub returns-in_err-write_standing : goal.returns-in_err-write_standing
unfolding whole_line
returns-in_err-write_standing g c =
    let p = err_from_is_err_and c.from_residual-in_err-write_standing.result c.from_residual-in_err-write_standing.ensures.1 in
    rw p.1 (writes_then c.in_ok-write_origin.ensures (writes_stop _ _ c.in_err-write_standing.ensures))

pub returns : goal.returns
unfolding whole_line
returns g c = writes_then c.in_ok-write_origin.ensures (writes_then c.in_ok-write_standing.ensures c.write_byte.ensures)
