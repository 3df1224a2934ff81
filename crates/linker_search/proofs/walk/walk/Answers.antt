use Rattle.std.proofs.Common.{◌≡◌, ◌∙◌, ◌++◌, [], sym, ap, length, reverse, nat_eq, arith}
use Rattle.std.specs.Map.{keys_of}
use Rattle.std.proofs.lemmas.List.{append-nil}
use Rattle.indexmap.specs.IndexMap.{keys}
use Rattle.jx_base.specs.Basics.{all_added}
use Rattle.program_model.specs.Lookup.{class_count, supers_of, supers_within}
use Rattle.linker_search.specs.Visits.{to_come}
use Rattle.linker_search.proofs.Added.{none_added}
use Rattle.linker_search.proofs.Turns.{nothing_in}
use Rattle.linker_search.proofs.walk.walk.Goals as goal

pub loop-visit-init : goal.loop-visit-init
unfolding class_count supers_of
loop-visit-init c =
    let s = c.args.system.now in
    let class = c.args.class in
    let steps = length c.as_slice-steps.result.now in (
      c.in_ok-enter.ensures.order
          ∙ ap (λ vs. all_added nat_eq (keys c.new-followed.result) (supers_within s steps class ++ to_come s (reverse vs))) c.new-visits.ensures.items
          ∙ ap (λ es. all_added nat_eq (keys_of es) (supers_within s steps class ++ [])) c.new-followed.ensures.empty
          ∙ ap (all_added nat_eq []) (append-nil (supers_within s steps class) ∙ ap (λ ks. supers_within s (length ks) class) c.as_slice-steps.ensures),
      c.in_ok-enter.ensures.followed,
      c.in_ok-enter.ensures.owed,
    )

pub returns : goal.returns
returns c =
    let s = c.args.system.now in
    let none : c.loop-visit.visits.items ≡ [] = nothing_in c.loop-visit.visits.items (omega (arith, c.in_default.ensures.cases.0)) in
    none_added (keys c.loop-visit.followed) ∙ ap (λ vs. all_added nat_eq (keys c.loop-visit.followed) (to_come s (reverse vs))) (sym none) ∙ c.loop-visit.invariant.0
