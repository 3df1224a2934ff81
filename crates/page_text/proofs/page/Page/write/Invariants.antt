use Rattle.std.proofs.Common.{drop}
use Rattle.page_text.proofs.Writing.{Completes}
use Rattle.page_text.proofs.page.Page.write.Given as goal

abbrev pub invariant-loop-byte : goal.invariant-loop-byte
invariant-loop-byte g l =
    Completes
    (drop l.byte-index l.bytes)
    l.bytes
    (l.initial.self, g.K.Sink.state l.initial.sink)
    (l.self, g.K.Sink.state l.sink)
