use Rattle.audit_lines.specs.LineParts.{spaced_word}
use Rattle.page_text.proofs.Writing.{WritesRest}
use Rattle.audit_lines.proofs.parcels.write_words_behind.Given as goal

abbrev pub invariant-loop-word : goal.invariant-loop-word
invariant-loop-word g l =
    WritesRest
    spaced_word
    l.words
    l.word-index
    (l.initial.page, g.K.Sink.state l.initial.sink)
    (l.page, g.K.Sink.state l.sink)
