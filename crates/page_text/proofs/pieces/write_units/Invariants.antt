use Rattle.jx_base.specs.Texts.{unit_text}
use Rattle.page_text.proofs.Writing.{WritesRest}
use Rattle.page_text.proofs.pieces.write_units.Given as goal

abbrev pub invariant-loop-unit : goal.invariant-loop-unit
invariant-loop-unit g l =
    WritesRest
    unit_text
    l.units
    l.unit-index
    (l.initial.page, g.K.Sink.state l.initial.sink)
    (l.page, g.K.Sink.state l.sink)
