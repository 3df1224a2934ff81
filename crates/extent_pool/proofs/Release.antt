-- Holes once granules between them are free.
use Rattle.std.proofs.Common.{◌≡◌, refl, sym, ◌∙◌, ap, ap, subst, ℕ, ◌+◌, ◌<◌, ◌≤◌, Bool, true, false, not, ◌||◌, List, [], ◌∷◌, ◌++◌, arith, if◌then◌else◌, ◌==◌, sum_by, All}
use Rattle.std.specs.Prelude.{nat_lt}
use Rattle.std.proofs.lemmas.List.Sums.{sum_by-cons}
use Rattle.std.proofs.lemmas.List.Elements.{All-head, All-tail}
use Rattle.std.proofs.lemmas.Bool.Decides.{nat_tests}
use Rattle.jx_base.proofs.BasicLaws.{eq_of, differs}
use Rattle.jx_model.specs.Granules.{lies_in}
use Rattle.extent_pool.specs.declared.hole.Hole.{Hole}
use Rattle.extent_pool.specs.Holes.{lies_in_hole, lies_in_holes, AreApart}
use Rattle.extent_pool.specs.Joins.{hole_end, before_holes, joined}
use Rattle.extent_pool.proofs.Lies.{lies, lies_sum}

abbrev both : Hole → Hole → Hole
both h next = record { at = h.at; count = h.count + next.count }

both_lies : (g : ℕ) (h next : Hole) → (hole_end h == next.at) ≡ true → lies_in_hole g (both h next) ≡ (lies_in_hole g h || lies_in_hole g next)
both_lies g h next e =
    lies_sum g h.at h.count next.count
    ∙ ap (λ (x : ℕ). lies_in g (h.at, h.count) || lies_in g (x, next.count)) (eq_of (hole_end h) next.at e)

-- ---- before others

before_apart : (low limit : ℕ) (h : Hole) (holes : List Hole) → low ≤ h.at → 0 < h.count → hole_end h < limit → AreApart (hole_end h) limit holes →
    AreApart low limit (before_holes h holes)
before_apart low limit h [] l m u a = (l, m, u, tt)
before_apart low limit h (next ∷ holes) l m u a = by (hole_end h == next.at) refl
  where
    by : (b : Bool) → (hole_end h == next.at) ≡ b → AreApart low limit (if b then both h next ∷ holes else h ∷ next ∷ holes)
    by true e =
        let q = eq_of (hole_end h) next.at e in
        (l, omega (arith, m), omega (arith, q, a.2), subst (λ (x : ℕ). AreApart x limit holes) (omega (arith, q)) a.3)
    by false e = let d = differs (hole_end h) next.at e in (l, m, u, (omega (arith, a.0, d), a.1, a.2, a.3))

before_lies : (g : ℕ) (h : Hole) (holes : List Hole) → lies_in_holes (before_holes h holes) g ≡ (lies_in_hole g h || lies_in_holes holes g)
before_lies g h [] = refl
before_lies g h (next ∷ holes) = by (hole_end h == next.at) refl
  where
    shuffle : (x y z : Bool) → ((x || y) || z) ≡ (x || (y || z))
    shuffle true y z = refl
    shuffle false y z = refl

    by : (b : Bool) → (hole_end h == next.at) ≡ b →
        lies_in_holes (if b then both h next ∷ holes else h ∷ next ∷ holes) g ≡ (lies_in_hole g h || lies_in_holes (next ∷ holes) g)
    by true e =
        ap (λ (b : Bool). b || lies_in_holes holes g) (both_lies g h next e)
        ∙ shuffle (lies_in_hole g h) (lies_in_hole g next) (lies_in_holes holes g)
    by false e = refl

before_sum : (h : Hole) (holes : List Hole) → sum_by (λ (x : Hole). x.count) (before_holes h holes) ≡ h.count + sum_by (λ (x : Hole). x.count) holes
before_sum h [] = omega arith
before_sum h (next ∷ holes) = by (hole_end h == next.at) refl
  where
    by : (b : Bool) → (hole_end h == next.at) ≡ b →
        sum_by (λ (x : Hole). x.count) (if b then both h next ∷ holes else h ∷ next ∷ holes) ≡ h.count + sum_by (λ (x : Hole). x.count) (next ∷ holes)
    by true e = omega (arith, sum_by-cons (λ (x : Hole). x.count) (both h next) holes, sum_by-cons (λ (x : Hole). x.count) next holes)
    by false e = sum_by-cons (λ (x : Hole). x.count) h (next ∷ holes)

-- ---- between others

pub joined_apart : (low limit : ℕ) (before : List Hole) (h : Hole) (after : List Hole) → low ≤ h.at → 0 < h.count → hole_end h < limit →
    AreApart low (h.at + 1) before → AreApart (hole_end h) limit after → AreApart low limit (joined before h after)
joined_apart low limit [] h after l m u a b = before_apart low limit h after l m u b
joined_apart low limit (left ∷ []) h after l m u a b = by (hole_end left == h.at) refl
  where
    by : (t : Bool) → (hole_end left == h.at) ≡ t → AreApart low limit (if t then before_holes (both left h) after else left ∷ before_holes h after)
    by true e =
        let q = eq_of (hole_end left) h.at e in
        before_apart low limit (both left h) after a.0 (omega (arith, m)) (omega (arith, q, u)) (subst (λ (x : ℕ). AreApart x limit after) (omega (arith, q)) b)
    by false e =
        let d = differs (hole_end left) h.at e in
        (a.0, a.1, omega (arith, a.2, u), before_apart (left.at + left.count + 1) limit h after (omega (arith, a.2, d)) m u b)
joined_apart low limit (left ∷ next ∷ before) h after l m u a b =
    let rest = a.3 in
    (a.0, a.1, omega (arith, a.2, u), joined_apart (left.at + left.count + 1) limit (next ∷ before) h after (omega (arith, rest.0, rest.1, rest.2)) m u rest b)

pub joined_lies : (g : ℕ) (before : List Hole) (h : Hole) (after : List Hole) →
    lies_in_holes (joined before h after) g ≡ (lies_in_holes before g || (lies_in_hole g h || lies_in_holes after g))
joined_lies g [] h after = before_lies g h after
joined_lies g (left ∷ []) h after = by (hole_end left == h.at) refl
  where
    shuffle : (x y z : Bool) → ((x || y) || z) ≡ ((x || false) || (y || z))
    shuffle true y z = refl
    shuffle false y z = refl

    plain : (x y : Bool) → (x || y) ≡ ((x || false) || y)
    plain true y = refl
    plain false y = refl

    by : (t : Bool) → (hole_end left == h.at) ≡ t → lies_in_holes (if t then before_holes (both left h) after else left ∷ before_holes h after) g
        ≡ ((lies_in_hole g left || false) || (lies_in_hole g h || lies_in_holes after g))
    by true e =
        before_lies g (both left h) after
        ∙ ap (λ (b : Bool). b || lies_in_holes after g) (both_lies g left h e)
        ∙ shuffle (lies_in_hole g left) (lies_in_hole g h) (lies_in_holes after g)
    by false e =
        ap (λ (b : Bool). lies_in_hole g left || b) (before_lies g h after)
        ∙ plain (lies_in_hole g left) (lies_in_hole g h || lies_in_holes after g)
joined_lies g (left ∷ next ∷ before) h after =
    ap (λ (b : Bool). lies_in_hole g left || b) (joined_lies g (next ∷ before) h after)
    ∙ shuffle (lies_in_hole g left) (lies_in_holes (next ∷ before) g) (lies_in_hole g h || lies_in_holes after g)
  where
    shuffle : (x y z : Bool) → (x || (y || z)) ≡ ((x || y) || z)
    shuffle true y z = refl
    shuffle false y z = refl

pub joined_sum : (before : List Hole) (h : Hole) (after : List Hole) →
    sum_by (λ (x : Hole). x.count) (joined before h after) ≡ sum_by (λ (x : Hole). x.count) before + h.count + sum_by (λ (x : Hole). x.count) after
joined_sum [] h after = omega (arith, before_sum h after)
joined_sum (left ∷ []) h after = by (hole_end left == h.at) refl
  where
    by : (t : Bool) → (hole_end left == h.at) ≡ t → sum_by (λ (x : Hole). x.count) (if t then before_holes (both left h) after else left ∷ before_holes h after)
        ≡ sum_by (λ (x : Hole). x.count) (left ∷ []) + h.count + sum_by (λ (x : Hole). x.count) after
    by true e = omega (arith, before_sum (both left h) after, sum_by-cons (λ (x : Hole). x.count) left [])
    by false e = omega (arith, before_sum h after, sum_by-cons (λ (x : Hole). x.count) left (before_holes h after), sum_by-cons (λ (x : Hole). x.count) left [])
joined_sum (left ∷ next ∷ before) h after =
    omega (
      arith,
      joined_sum (next ∷ before) h after,
      sum_by-cons (λ (x : Hole). x.count) left (joined (next ∷ before) h after),
      sum_by-cons (λ (x : Hole). x.count) left (next ∷ before),
    )

-- where the last hole before is known
pub joined_last : (before : List Hole) (left h : Hole) (after : List Hole) →
    joined (before ++ left ∷ []) h after
    ≡ before ++ (if hole_end left == h.at then before_holes (record { at = left.at; count = left.count + h.count }) after else left ∷ before_holes h after)
joined_last [] left h after = refl
joined_last (x ∷ []) left h after = refl
joined_last (x ∷ y ∷ before) left h after = ap (λ (xs : List Hole). x ∷ xs) (joined_last (y ∷ before) left h after)

-- ---- granules that are taken

-- holes that begin before a granule that isn't free end before it
pub ends_before : (low limit at : ℕ) (holes : List Hole) → AreApart low limit holes → All (λ h. h.at < at) holes → lies_in_holes holes at ≡ false →
    AreApart low (at + 1) holes
ends_before low limit at [] a b f = tt
ends_before low limit at (h ∷ holes) a b f =
    let here = All-head (λ (h : Hole). h.at < at) h holes b in
    let apart = parts (lies_in_hole at h) (lies_in_holes holes at) f in (
      a.0,
      a.1,
      by (nat_lt at (h.at + h.count)) refl here apart.0,
      ends_before (h.at + h.count + 1) limit at holes a.3 (All-tail (λ (h : Hole). h.at < at) h holes b) apart.1,
    )
  where
    parts : (x y : Bool) → (x || y) ≡ false → (x ≡ false) × (y ≡ false)
    parts true y e = cc
    parts false y e = (refl, e)

    by : (t : Bool) → nat_lt at (h.at + h.count) ≡ t → h.at < at → lies_in_hole at h ≡ false → h.at + h.count < at + 1
    by true e here f =
        let m : at < h.at + h.count = grind (arith, nat_tests) in
        cc (lies at h.at h.count (omega (arith, here)) m, f)
    by false e here f = grind (arith, nat_tests)

-- holes that begin from there on begin behind granules that aren't free
pub begin_behind : (low limit at n : ℕ) (holes : List Hole) → AreApart low limit holes → All (λ h. at ≤ h.at) holes →
    ((g : ℕ) → at ≤ g → g < at + n → lies_in_holes holes g ≡ false) → AreApart (at + n) limit holes
begin_behind low limit at n [] a b f = tt
begin_behind low limit at n (h ∷ holes) a b f =
    let here = All-head (λ (h : Hole). at ≤ h.at) h holes b in
    (by (nat_lt h.at (at + n)) refl here, a.1, a.2, a.3)
  where
    first_lies : lies_in_holes (h ∷ holes) h.at ≡ true
    first_lies = ap (λ (b : Bool). b || lies_in_holes holes h.at) (lies h.at h.at h.count (omega arith) (omega (arith, a.1)))

    by : (t : Bool) → nat_lt h.at (at + n) ≡ t → at ≤ h.at → at + n ≤ h.at
    by true e here =
        let m : h.at < at + n = grind (arith, nat_tests) in
        cc (f h.at here m, first_lies)
    by false e here = grind (arith, nat_tests)

-- whether each granule is taken, afterwards
pub joined_granule : (g : ℕ) (before : List Hole) (h : Hole) (after : List Hole) (old : Bool) → old ≡ (lies_in_holes before g || lies_in_holes after g) →
    not (lies_in_holes (joined before h after) g) ≡ (if lies_in g (h.at, h.count) then false else not old)
joined_granule g before h after old e =
    ap not (joined_lies g before h after)
    ∙ by (lies_in_holes before g) (lies_in_hole g h) (lies_in_holes after g)
    ∙ ap (λ (b : Bool). if lies_in g (h.at, h.count) then false else not b) (sym e)
  where
    by : (x y z : Bool) → not (x || (y || z)) ≡ (if y then false else not (x || z))
    by true true z = refl
    by true false z = refl
    by false true z = refl
    by false false z = refl
