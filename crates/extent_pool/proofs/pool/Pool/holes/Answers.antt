use Rattle.std.proofs.Common.{◌≡◌, ◌∙◌, ◌+◌, sym, ap, subst, List, ℕ, length}
use Rattle.extent_pool.specs.declared.hole.Hole.{Hole}
use Rattle.extent_pool.specs.Holes.{granules_of, AreApart}
use Rattle.extent_pool.proofs.Views.{granules_length}
use Rattle.extent_pool.proofs.pool.Pool.holes.Goals as goal

pub returns-clause-free : goal.returns-clause-free
returns-clause-free c =
    let p = c.self.inside in
    let total : length c.args.self.now ≡ p.granules = ap length (sym c.self.view_is) ∙ granules_length p.granules p.holes.items in
    sym c.self.view_is
    ∙ ap (λ (n : ℕ). granules_of n p.holes.items) (sym total)
    ∙ ap (λ (hs : List Hole). granules_of (length c.args.self.now) hs) (sym c.as_slice.ensures.value)

pub returns-clause-apart : goal.returns-clause-apart
returns-clause-apart c =
    let p = c.self.inside in
    let total : length c.args.self.now ≡ p.granules = ap length (sym c.self.view_is) ∙ granules_length p.granules p.holes.items in
    subst (λ (n : ℕ). AreApart 0 (n + 1) c.as_slice.result.now) (sym total)
    (subst (λ (hs : List Hole). AreApart 0 (p.granules + 1) hs) (sym c.as_slice.ensures.value) c.self.invariant.apart)
