use Rattle.std.proofs.Common.{◌≡◌, map, take}
use Rattle.program_model.specs.Parcels.{word_of}
use Rattle.param_copy.proofs.packing.words_of.Given as goal

abbrev pub invariant-loop-value : goal.invariant-loop-value
invariant-loop-value l = l.words.items ≡ map (word_of l.exports l.walk.keys) (take l.value-index l.values)
