use Rattle.std.proofs.Common.{◌≡◌, ◌<◌, ℕ, length}
use Rattle.linker_search.specs.Walked.{distinct_supers, list_at}
use Rattle.linker_search.proofs.supers.all_supers.Given as goal

abbrev pub invariant-loop-class : goal.invariant-loop-class
invariant-loop-class l = (length l.supers.items ≡ l.class) × ((c : ℕ) → c < l.class → list_at l.supers.items c ≡ distinct_supers l.system c)
