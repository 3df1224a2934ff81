use Rattle.std.proofs.Common.{◌≡◌, ◌+◌, drop}
use Rattle.audit_model.specs.AuditText.{entry_lines}
use Rattle.page_text.proofs.Writing.{Completes}
use Rattle.audit_lines.proofs.entries.write_entries.Given as goal

abbrev pub invariant-loop-entry : goal.invariant-loop-entry
invariant-loop-entry g l = record {
  number : l.n ≡ l.entry-index;
  lines : Completes
      (entry_lines l.system (l.n + 1) (drop l.entry-index l.entries))
      (entry_lines l.system 1 l.entries)
      (l.initial.page, g.K.Sink.state l.initial.sink)
      (l.page, g.K.Sink.state l.sink);
}
