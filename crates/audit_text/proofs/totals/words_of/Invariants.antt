use Rattle.std.proofs.Common.{◌≡◌, ◌+◌, drop}
use Rattle.jx_model.specs.Journal.{entry_words}
use Rattle.audit_text.proofs.Sums.{entry_sum}
use Rattle.audit_text.proofs.totals.words_of.Given as goal

abbrev pub invariant-loop-entry : goal.invariant-loop-entry
invariant-loop-entry l =
    l.words + entry_sum entry_words (drop l.entry-index l.entries) ≡ entry_sum entry_words l.entries
