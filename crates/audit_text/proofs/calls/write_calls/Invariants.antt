use Rattle.audit_text.specs.CallTables.{entry_call_line}
use Rattle.page_text.proofs.Writing.{WritesRest}
use Rattle.audit_text.proofs.calls.write_calls.Given as goal

abbrev pub invariant-loop-entry : goal.invariant-loop-entry
invariant-loop-entry g l =
    WritesRest
    (entry_call_line l.tables)
    l.entries
    l.entry-index
    (l.initial.page, g.K.Sink.state l.initial.sink)
    (l.page, g.K.Sink.state l.sink)
