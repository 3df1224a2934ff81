use Rattle.std.proofs.Common.{◌≡◌, ◌∙◌, refl, sym, ap, [], ◌∷◌, List, length, arith}
use Rattle.std.specs.Vec.Iter.{into_iter_items}
use Rattle.asm_constants.specs.declared.content.Content.{Content}
use Rattle.asm_constants.specs.Pools.{with_all_new}
use Rattle.asm_constants.proofs.pool.Pool.add_all.Goals as goal
use Rattle.jx_base.specs.Basics.{all_added}

nothing_left : (contents : List Content) → length contents ≡ 0 → contents ≡ []
nothing_left [] h = refl
nothing_left (c ∷ contents) h = absurd (omega arith)

pub loop-content-preserved : goal.loop-content-preserved
unfolding all_added
loop-content-preserved c =
    let pool = c.loop-content.self in
    let rest = into_iter_items c.next.new.self in (
      tt,
      tt,
      ap (λ (ps : List Content). with_all_new ps rest) c.in_ok-add_one.ensures
          ∙ (sym (ap (with_all_new pool) c.in-Some.ensures.steps.0) ∙ c.loop-content.invariant.2),
    )

pub returns : goal.returns
unfolding all_added
returns c =
    let none = nothing_left _ (sym c.loop-content.content-iterator.rest.ok.0 ∙ c.in-None.ensures.steps.0) in
    sym (ap (with_all_new c.loop-content.self) none) ∙ c.loop-content.invariant.2
