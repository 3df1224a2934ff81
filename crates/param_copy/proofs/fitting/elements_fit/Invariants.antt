use Rattle.std.proofs.Common.{◌≡◌, true, take, length, replicate}
use Rattle.program_model.specs.Parcels.{cells_fit}
use Rattle.param_copy.proofs.fitting.elements_fit.Given as goal

abbrev pub invariant-loop-word : goal.invariant-loop-word
invariant-loop-word l = cells_fit l.system l.nodes (take l.word-index l.words) (take l.word-index (replicate (length l.words) l.kind)) ≡ true
