use Rattle.std.proofs.lemmas.Result.{err_from_is_err_and}
use Rattle.jx_base.specs.Texts.{line}
use Rattle.page_text.proofs.Writing.{writes_then, writes_stop}
use Rattle.page_text.proofs.pieces.write_line.Goals as goal

pub returns-in_err-write_words : goal.returns-in_err-write_words
unfolding line
returns-in_err-write_words g c =
    let p = err_from_is_err_and c.from_residual.result c.from_residual.ensures.1 in
    rw p.1 (writes_stop _ _ c.in_err-write_words.ensures)

pub returns : goal.returns
unfolding line
returns g c = writes_then c.in_ok-write_words.ensures c.write_byte.ensures
