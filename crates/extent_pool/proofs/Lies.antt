-- Which granules lie in a hole.
use Rattle.std.proofs.Common.{◌≡◌, refl, ◌∙◌, ap, ℕ, suc, zero, ◌+◌, ◌<◌, ◌≤◌, Bool, true, false, ◌||◌, List, [], ◌∷◌, Some, arith, slice_get}
use Rattle.std.proofs.lemmas.Bool.Decides.{nat_tests}
use Rattle.jx_model.specs.Granules.{lies_in}
use Rattle.extent_pool.specs.declared.hole.Hole.{Hole}
use Rattle.extent_pool.specs.Holes.{lies_in_hole, lies_in_holes}

pub lies : (g p n : ℕ) → p ≤ g → g < p + n → lies_in g (p, n) ≡ true
unfolding lies_in
lies g p n l m = grind (arith, nat_tests)

pub lies_before : (g p n : ℕ) → g < p → lies_in g (p, n) ≡ false
unfolding lies_in
lies_before g p n l = grind (arith, nat_tests)

pub lies_behind : (g p n : ℕ) → p + n ≤ g → lies_in g (p, n) ≡ false
unfolding lies_in
lies_behind g p n l = grind (arith, nat_tests)

pub within : (g p n : ℕ) → lies_in g (p, n) ≡ true → (p ≤ g) × (g < p + n)
unfolding lies_in
within g p n e = (grind (arith, nat_tests), grind (arith, nat_tests))

-- a run of granules as two
pub lies_sum : (g p m n : ℕ) → lies_in g (p, m + n) ≡ (lies_in g (p, m) || lies_in g (p + m, n))
unfolding lies_in
lies_sum g p m n = grind (arith, nat_tests)

-- a granule of a hole lies in the holes
pub lies_at : (holes : List Hole) (i g : ℕ) (h : Hole) → slice_get holes i ≡ Some h → lies_in_hole g h ≡ true → lies_in_holes holes g ≡ true
lies_at [] i g h e l = cc
lies_at (q ∷ holes) zero g h e l = ap (λ (x : Hole). lies_in_hole g x || lies_in_holes holes g) q_is ∙ ap (λ (b : Bool). b || lies_in_holes holes g) l
  where
    q_is : q ≡ h
    q_is = cc
lies_at (q ∷ holes) (suc i) g h e l = by (lies_in_hole g q) (lies_at holes i g h e l)
  where
    by : (b : Bool) → lies_in_holes holes g ≡ true → (b || lies_in_holes holes g) ≡ true
    by true r = refl
    by false r = r
