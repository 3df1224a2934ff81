use Rattle.std.proofs.Common.{◌≡◌, map, take}
use Rattle.program_model.specs.Parcels.{value_of}
use Rattle.param_copy.proofs.unpacking.values_of.Given as goal

abbrev pub invariant-loop-word : goal.invariant-loop-word
invariant-loop-word l = l.values.items ≡ map (value_of l.first) (take l.word-index l.words)
