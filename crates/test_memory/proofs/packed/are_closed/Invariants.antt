use Rattle.std.proofs.Common.{◌≡◌, ℕ, ◌<◌, true, length}
use Rattle.std.specs.List.{list_all}
use Rattle.program_model.specs.Parcels.{cells_at}
use Rattle.test_memory.specs.Checks.{is_placed}
use Rattle.test_memory.proofs.packed.are_closed.Given as goal

abbrev pub invariant-loop-object : goal.invariant-loop-object
invariant-loop-object l = (k : ℕ) → k < l.object → list_all (is_placed (length l.heap.objects)) (cells_at l.heap.objects k) ≡ true
