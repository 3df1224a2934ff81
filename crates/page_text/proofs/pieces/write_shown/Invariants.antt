use Rattle.page_text.specs.Pieces.{shown_unit}
use Rattle.page_text.proofs.Writing.{WritesRest}
use Rattle.page_text.proofs.pieces.write_shown.Given as goal

abbrev pub invariant-loop-unit : goal.invariant-loop-unit
invariant-loop-unit g l =
    WritesRest
    (shown_unit l.plain)
    l.units
    l.unit-index
    (l.initial.page, g.K.Sink.state l.initial.sink)
    (l.page, g.K.Sink.state l.sink)
