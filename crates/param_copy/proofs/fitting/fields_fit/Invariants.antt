use Rattle.std.proofs.Common.{◌≡◌, true, take, map}
use Rattle.program_model.specs.Parcels.{cells_fit}
use Rattle.param_copy.proofs.fitting.fields_fit.Given as goal

abbrev pub invariant-loop-place : goal.invariant-loop-place
invariant-loop-place l = cells_fit l.system l.nodes (take l.place l.words) (take l.place (map (λ f. f.descriptor) l.fields)) ≡ true
