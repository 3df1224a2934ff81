use Rattle.std.proofs.lemmas.Result.{err_from_is_err_and}
use Rattle.page_text.proofs.Writing.{puts_new_page, puts_new_page_stopped}
use Rattle.page_text.proofs.pieces.put_line.Goals as goal

pub returns-in_err-write_line : goal.returns-in_err-write_line
returns-in_err-write_line g c =
    let p = err_from_is_err_and c.from_residual.result c.from_residual.ensures.1 in
    rw p.1 (puts_new_page_stopped c.new-page.ensures c.in_err-write_line.ensures)

pub returns : goal.returns
returns g c = puts_new_page c.new-page.ensures c.in_ok-write_line.ensures c.flush.ensures.puts
