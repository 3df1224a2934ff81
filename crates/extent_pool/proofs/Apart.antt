-- Holes that lie apart.
use Rattle.std.proofs.Common.{◌≡◌, refl, ◌∙◌, ap, ℕ, suc, zero, ◌+◌, ◌*◌, ◌^◌, ◌<◌, ◌≤◌, Bool, false, ◌||◌, List, [], ◌∷◌, length, Some, arith, slice_get, sum_by, All}
use Rattle.std.proofs.lemmas.List.Sums.{sum_by-cons}
use Rattle.extent_pool.specs.declared.hole.Hole.{Hole}
use Rattle.extent_pool.specs.Holes.{lies_in_holes, AreApart}
use Rattle.extent_pool.specs.Joins.{HasEnd}
use Rattle.extent_pool.proofs.Lies.{lies_before, lies_behind}

pub apart_lower : (low from limit : ℕ) (holes : List Hole) → low ≤ from → AreApart from limit holes → AreApart low limit holes
apart_lower low from limit [] l a = tt
apart_lower low from limit (h ∷ holes) l a = (omega (arith, l, a.0), a.1, a.2, a.3)

-- below the first and from the limit on there is no free granule
pub none_below : (low limit g : ℕ) (holes : List Hole) → AreApart low limit holes → g < low → lies_in_holes holes g ≡ false
none_below low limit g [] a l = refl
none_below low limit g (h ∷ holes) a l =
    ap (λ (b : Bool). b || lies_in_holes holes g) (lies_before g h.at h.count (omega (arith, l, a.0)))
    ∙ none_below (h.at + h.count + 1) limit g holes a.3 (omega (arith, l, a.0))

pub none_above : (low limit g : ℕ) (holes : List Hole) → AreApart low limit holes → limit ≤ g + 1 → lies_in_holes holes g ≡ false
none_above low limit g [] a l = refl
none_above low limit g (h ∷ holes) a l =
    ap (λ (b : Bool). b || lies_in_holes holes g) (lies_behind g h.at h.count (omega (arith, l, a.2)))
    ∙ none_above (h.at + h.count + 1) limit g holes a.3 l

-- each hole lies where the holes do
pub hole_within : (low limit i : ℕ) (h : Hole) (holes : List Hole) → AreApart low limit holes → slice_get holes i ≡ Some h →
    (low ≤ h.at) × (0 < h.count) × (h.at + h.count < limit)
hole_within low limit i h [] a e = cc
hole_within low limit zero h (q ∷ holes) a e =
    let same : q ≡ h = cc in (
      omega (arith, a.0, ap (λ (x : Hole). x.at) same),
      omega (arith, a.1, ap (λ (x : Hole). x.count) same),
      omega (arith, a.2, ap (λ (x : Hole). x.at) same, ap (λ (x : Hole). x.count) same),
    )
hole_within low limit (suc i) h (q ∷ holes) a e =
    let later = hole_within (q.at + q.count + 1) limit i h holes a.3 e in
    (omega (arith, a.0, later.0), later.1, later.2)

-- the granules of the holes, with one behind each, lie below the limit
pub sum_bound : (low limit : ℕ) (holes : List Hole) → AreApart low limit holes → low ≤ limit →
    low + sum_by (λ (h : Hole). h.count) holes + length holes ≤ limit
sum_bound low limit [] a l = omega (arith, l)
sum_bound low limit (h ∷ holes) a l =
    let later = sum_bound (h.at + h.count + 1) limit holes a.3 (omega (arith, a.2)) in
    omega (arith, later, a.0, sum_by-cons (λ (h : Hole). h.count) h holes)

-- so holes are few
pub length_bound : (low limit : ℕ) (holes : List Hole) → AreApart low limit holes → low ≤ limit → low + 2 * length holes ≤ limit
length_bound low limit [] a l = omega (arith, l)
length_bound low limit (h ∷ holes) a l =
    let later = length_bound (h.at + h.count + 1) limit holes a.3 (omega (arith, a.2)) in
    omega (arith, later, a.0, a.1)

-- all lie in the pool, so there are no more free granules than granules
pub sum_within : (n : ℕ) (holes : List Hole) → AreApart 0 (n + 1) holes → sum_by (λ (h : Hole). h.count) holes ≤ n
sum_within n [] a = omega arith
sum_within n (h ∷ holes) a = let all = sum_bound 0 (n + 1) (h ∷ holes) a (omega arith) in omega (arith, all)

pub have_ends : (n : ℕ) (holes : List Hole) (low : ℕ) → n < 2 ^ 32 → AreApart low (n + 1) holes → All HasEnd holes
have_ends n [] low s a k d l = absurd (omega (arith, l))
have_ends n (h ∷ holes) low s a zero d l = omega (arith, a.2, s)
have_ends n (h ∷ holes) low s a (suc k) d l = have_ends n holes (h.at + h.count + 1) s a.3 k d (omega (arith, l))
