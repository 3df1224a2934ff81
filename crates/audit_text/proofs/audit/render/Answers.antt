use Rattle.std.proofs.lemmas.Result.{err_from_is_err_and}
use Rattle.page_text.proofs.Writing.{puts_new_page, puts_new_page_stopped}
use Rattle.audit_text.proofs.audit.render.Goals as goal

pub returns-in_err-write_audit : goal.returns-in_err-write_audit
returns-in_err-write_audit g c =
    let p = err_from_is_err_and c.from_residual.result c.from_residual.ensures.1 in
    rw p.1 (puts_new_page_stopped c.new-page.ensures c.in_err-write_audit.ensures)

pub returns : goal.returns
returns g c = puts_new_page c.new-page.ensures c.in_ok-write_audit.ensures c.flush.ensures.puts
