use Rattle.std.proofs.Common.{sym, ap, ◌∙◌, ℕ, Option}
use Rattle.std.specs.Option.{unwrap_or}
use Rattle.param_copy.proofs.Visits.{same_position}
use Rattle.param_copy.proofs.packing.place_of.Goals as goal

pub returns-in-Some : goal.returns-in-Some
returns-in-Some c = ap (λ (o : Option ℕ). unwrap_or o 0) (sym c.in-Some.is ∙ c.get_index_of.ensures.index ∙ same_position c.args.walk.now.keys c.args.object)

pub returns-in-None : goal.returns-in-None
returns-in-None c = ap (λ (o : Option ℕ). unwrap_or o 0) (sym c.in-None.is ∙ c.get_index_of.ensures.index ∙ same_position c.args.walk.now.keys c.args.object)
