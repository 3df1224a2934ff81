use Rattle.std.proofs.Common.{◌≡◌, ◌+◌, ◌*◌, ◌≤◌, drop, reverse}
use Rattle.audit_text.specs.Rendering.{total}
use Rattle.audit_text.proofs.Sums.{entry_sum}
use Rattle.audit_text.proofs.BirthLines.{born}
use Rattle.audit_text.proofs.BirthCounts.{birth_count}
use Rattle.audit_text.proofs.SupportedActs.{created}
use Rattle.audit_text.proofs.UsedGranules.{granules_after}
use Rattle.audit_text.proofs.totals.used_granules.Given as goal

abbrev pub invariant-loop-entry : goal.invariant-loop-entry
invariant-loop-entry l = record {
  few : l.domains ≤ l.entry-index;
  made : l.domains + entry_sum birth_count (drop l.entry-index l.entries) ≤ 64;
  sum : l.used + total (born created (granules_after l.system (reverse l.entries)) l.domains (drop l.entry-index l.entries))
      ≡ total (born created (granules_after l.system (reverse l.entries)) 0 l.entries);
  small : l.used + 536870912 * entry_sum birth_count (drop l.entry-index l.entries) ≤ 536870912 * 64;
}
