use Rattle.std.proofs.Common.{◌≡◌, ℕ, List, ◌++◌, take}
use Rattle.jx_base.specs.Basics.{firsts}
use Rattle.machine_start.proofs.classes.add_classes.Given as goal

abbrev pub invariant-loop-class : goal.invariant-loop-class
invariant-loop-class l =
    (mentioned : List ℕ) → l.initial.met.keys ≡ firsts mentioned → l.met.keys ≡ firsts (mentioned ++ take l.class-index l.classes)
