use Rattle.std.proofs.Common.{◌≡◌, ℕ, List, ◌++◌, take}
use Rattle.jx_base.specs.Basics.{firsts}
use Rattle.program_model.specs.Parcels.{references_of}
use Rattle.param_copy.proofs.walking.add_references.Given as goal

abbrev pub invariant-loop-value : goal.invariant-loop-value
invariant-loop-value l =
    (mentioned : List ℕ) → l.initial.walk.keys ≡ firsts mentioned → l.walk.keys ≡ firsts (mentioned ++ references_of l.exports (take l.value-index l.values))
