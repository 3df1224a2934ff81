use Rattle.page_text.specs.Pieces.{spaced_piece}
use Rattle.page_text.proofs.Writing.{WritesRest}
use Rattle.page_text.proofs.pieces.write_behind.Given as goal

abbrev pub invariant-loop-piece : goal.invariant-loop-piece
invariant-loop-piece g l =
    WritesRest
    spaced_piece
    l.pieces
    l.piece-index
    (l.initial.page, g.K.Sink.state l.initial.sink)
    (l.page, g.K.Sink.state l.sink)
