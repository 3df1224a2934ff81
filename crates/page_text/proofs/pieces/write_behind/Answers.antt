use Rattle.std.proofs.Common.{arith}
use Rattle.std.proofs.lemmas.Result.{err_from_is_err_and}
use Rattle.page_text.specs.Pieces.{spaced_piece}
use Rattle.page_text.proofs.Writing.{copy_goes_on, copy_stops, items_end}
use Rattle.page_text.proofs.pieces.write_behind.Goals as goal

pub returns-in_err-write_spaced : goal.returns-in_err-write_spaced
returns-in_err-write_spaced g c =
    let p = err_from_is_err_and c.from_residual.result c.from_residual.ensures.1 in
    rw p.1 (copy_stops spaced_piece c.args.pieces.now c.loop-piece.piece-index _ (omega arith) c.loop-piece.invariant c.in_err-write_spaced.ensures)

pub loop-piece-preserved : goal.loop-piece-preserved
loop-piece-preserved g c = copy_goes_on spaced_piece c.args.pieces.now c.loop-piece.piece-index _ (omega arith) c.loop-piece.invariant c.in_ok-write_spaced.ensures

pub returns : goal.returns
returns g c = items_end spaced_piece c.args.pieces.now c.loop-piece.piece-index (omega arith) c.loop-piece.invariant
