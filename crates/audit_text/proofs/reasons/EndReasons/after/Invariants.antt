use Rattle.std.proofs.Common.{reverse, take}
use Rattle.audit_text.specs.Rendering.{HasReasons}
use Rattle.audit_text.proofs.reasons.EndReasons.after.Given as goal

abbrev pub invariant-loop-entry : goal.invariant-loop-entry
invariant-loop-entry l = HasReasons l.reasons.by_number (reverse (take l.entry-index l.entries))
