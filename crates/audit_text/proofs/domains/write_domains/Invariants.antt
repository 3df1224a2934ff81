use Rattle.std.proofs.Common.{◌+◌, ◌≤◌, drop, reverse}
use Rattle.audit_text.proofs.Sums.{entry_sum}
use Rattle.audit_text.proofs.BirthCounts.{birth_count}
use Rattle.audit_text.proofs.BirthLines.{born, line_after, made}
use Rattle.page_text.proofs.Writing.{Completes}
use Rattle.audit_text.proofs.domains.write_domains.Given as goal

abbrev pub invariant-loop-entry : goal.invariant-loop-entry
invariant-loop-entry g l = record {
  few : l.domains ≤ l.entry-index;
  below : l.domains + entry_sum birth_count (drop l.entry-index l.entries) ≤ 64;
  lines : Completes
      (born (made l.system) (line_after l.system (reverse l.entries)) l.domains (drop l.entry-index l.entries))
      (born (made l.system) (line_after l.system (reverse l.entries)) 0 l.entries)
      (l.initial.page, g.K.Sink.state l.initial.sink)
      (l.page, g.K.Sink.state l.sink);
}
