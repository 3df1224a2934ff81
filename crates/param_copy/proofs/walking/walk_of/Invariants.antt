use Rattle.std.proofs.Common.{◌≡◌, ◌-◌, ◌≤◌, ◌++◌, length, take}
use Rattle.jx_base.specs.Basics.{firsts}
use Rattle.program_model.specs.Parcels.{references_of, object_references, walk_of}
use Rattle.program_model.proofs.WalkRounds.{Begins}
use Rattle.param_copy.specs.Copies.{walk_words}
use Rattle.param_copy.proofs.walking.walk_of.Given as goal

abbrev pub invariant-loop-object : goal.invariant-loop-object
invariant-loop-object l = record {
  closed : l.walk.keys ≡ firsts (references_of l.exports l.roots ++ object_references l.heap.objects l.exports (take l.next l.walk.keys));
  begins : Begins l.walk.keys (walk_of l.heap.objects l.exports (references_of l.exports l.roots));
  within : l.next ≤ length l.walk.keys;
  few : l.next ≤ 1024;
  counted : l.words ≡ walk_words l.heap.objects (length l.roots) (take l.next l.walk.keys);
  small : l.words ≤ 4096;
}

abbrev pub decreases-loop-object : goal.decreases-loop-object
decreases-loop-object l = 1024 - l.next
