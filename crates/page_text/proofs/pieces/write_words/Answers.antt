use Rattle.std.proofs.lemmas.Result.{err_from_is_err_and}
use Rattle.page_text.proofs.Writing.{writes_then, writes_stop, writes_nothing, spaced-pieces, spaced-none}
use Rattle.page_text.proofs.pieces.write_words.Goals as goal

pub returns-in_err-write_piece-in-Some : goal.returns-in_err-write_piece-in-Some
returns-in_err-write_piece-in-Some g c =
    let p = err_from_is_err_and c.from_residual.result c.from_residual.ensures.1 in
    rw (p.1, spaced-pieces c.args.words.now c.in-Some.first.now c.in-Some.rest.now c.in-Some.ensures.cases.0) (writes_stop _ _ c.in_err-write_piece-in-Some.ensures)

pub returns-in-None : goal.returns-in-None
returns-in-None g c = rw (spaced-none c.args.words.now c.in-None.ensures.cases) writes_nothing

pub returns-in_ok-write_piece-in-Some : goal.returns-in_ok-write_piece-in-Some
returns-in_ok-write_piece-in-Some g c =
    rw (spaced-pieces c.args.words.now c.in-Some.first.now c.in-Some.rest.now c.in-Some.ensures.cases.0) (writes_then c.in_ok-write_piece-in-Some.ensures c.write_behind.ensures)
