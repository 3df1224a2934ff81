use Rattle.audit_model.specs.AuditText.{console_line}
use Rattle.page_text.proofs.Writing.{WritesRest}
use Rattle.audit_text.proofs.console.write_console.Given as goal

abbrev pub invariant-loop-entry : goal.invariant-loop-entry
invariant-loop-entry g l =
    WritesRest
    console_line
    l.entries
    l.entry-index
    (l.initial.page, g.K.Sink.state l.initial.sink)
    (l.page, g.K.Sink.state l.sink)
