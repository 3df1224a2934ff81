use Rattle.std.proofs.Common.{◌∙◌, sym, ap, []}
use Rattle.std.specs.List.{cons_option}
use Rattle.jx_base.specs.Basics.{all_added}
use Rattle.linker_faults.specs.Hierarchies.{joined}
use Rattle.linker_faults.proofs.Growing.{inserted}
use Rattle.linker_faults.proofs.hierarchy.add_place.Goals as goal

pub returns-in_ok-insert : goal.returns-in_ok-insert
unfolding all_added
returns-in_ok-insert c =
    c.in_ok-insert.ensures.keys ∙ inserted c.args.places.now.keys c.in-Some.place ∙ ap (λ p. joined c.args.places.now.keys (cons_option p [])) (sym c.in-Some.is ∙ c.place.ensures)

pub returns-in_default : goal.returns-in_default
unfolding all_added
returns-in_default c = ap (λ p. joined c.args.places.now.keys (cons_option p [])) (sym c.in_default.is ∙ c.place.ensures)
