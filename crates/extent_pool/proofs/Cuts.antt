-- What is left of holes once the first granules of one of them are taken.
use Rattle.std.proofs.Common.{◌≡◌, refl, sym, ◌∙◌, ap, subst, ℕ, suc, zero, ◌+◌, ◌-◌, ◌≤◌, Bool, true, false, not, ◌||◌, List, [], ◌∷◌, ◌++◌, take, drop, set, Some, arith, if◌then◌else◌, ◌==◌, slice_get, sum_by}
use Rattle.std.proofs.lemmas.List.Sums.{sum_by-cons}
use Rattle.jx_base.proofs.BasicLaws.{eq_of, differs, same_number}
use Rattle.jx_model.specs.Granules.{lies_in}
use Rattle.extent_pool.specs.declared.hole.Hole.{Hole}
use Rattle.extent_pool.specs.Holes.{lies_in_hole, lies_in_holes, AreApart}
use Rattle.extent_pool.specs.Joins.{shortened, cut_front}
use Rattle.extent_pool.proofs.Lies.{lies_sum, lies_behind, within}
use Rattle.extent_pool.proofs.Apart.{apart_lower, none_below, hole_within}

-- ---- the first hole

abbrev less : ℕ → Hole → Hole
less n h = record { at = h.at + n; count = h.count - n }

short_apart : (n low limit : ℕ) (h : Hole) (holes : List Hole) → n ≤ h.count → AreApart low limit (h ∷ holes) → AreApart (h.at + n) limit (shortened n h holes)
short_apart n low limit h holes l a = by (h.count == n) refl
  where
    by : (b : Bool) → (h.count == n) ≡ b → AreApart (h.at + n) limit (if b then holes else less n h ∷ holes)
    by true e = apart_lower (h.at + n) (h.at + h.count + 1) limit holes (omega (arith, l)) a.3
    by false e =
        let d = differs h.count n e in
        (omega arith, omega (arith, l, d), omega (arith, l, a.2), subst (λ (x : ℕ). AreApart x limit holes) (omega (arith, l)) a.3)

short_lies : (n g : ℕ) (h : Hole) (holes : List Hole) → n ≤ h.count →
    lies_in_holes (h ∷ holes) g ≡ (lies_in g (h.at, n) || lies_in_holes (shortened n h holes) g)
short_lies n g h holes l = by (h.count == n) refl
  where
    shuffle : (x y z : Bool) → ((x || y) || z) ≡ (x || (y || z))
    shuffle true y z = refl
    shuffle false y z = refl

    by : (b : Bool) → (h.count == n) ≡ b → lies_in_holes (h ∷ holes) g ≡ (lies_in g (h.at, n) || lies_in_holes (if b then holes else less n h ∷ holes) g)
    by true e = ap (λ (x : ℕ). lies_in g (h.at, x) || lies_in_holes holes g) (eq_of h.count n e)
    by false e =
        let whole : h.count ≡ n + (h.count - n) = omega (arith, l) in
        ap (λ (b : Bool). b || lies_in_holes holes g) (ap (λ (x : ℕ). lies_in g (h.at, x)) whole ∙ lies_sum g h.at n (h.count - n))
        ∙ shuffle (lies_in g (h.at, n)) (lies_in g (h.at + n, h.count - n)) (lies_in_holes holes g)

short_sum : (n : ℕ) (h : Hole) (holes : List Hole) → n ≤ h.count →
    sum_by (λ (x : Hole). x.count) (shortened n h holes) + n ≡ sum_by (λ (x : Hole). x.count) (h ∷ holes)
short_sum n h holes l = by (h.count == n) refl
  where
    by : (b : Bool) → (h.count == n) ≡ b → sum_by (λ (x : Hole). x.count) (if b then holes else less n h ∷ holes) + n ≡ sum_by (λ (x : Hole). x.count) (h ∷ holes)
    by true e = omega (arith, eq_of h.count n e, sum_by-cons (λ (x : Hole). x.count) h holes)
    by false e = omega (arith, l, sum_by-cons (λ (x : Hole). x.count) h holes, sum_by-cons (λ (x : Hole). x.count) (less n h) holes)

-- ---- any hole

pub cut_apart : (n low limit i : ℕ) (h : Hole) (holes : List Hole) → slice_get holes i ≡ Some h → n ≤ h.count → AreApart low limit holes →
    AreApart low limit (cut_front n holes i)
cut_apart n low limit i h [] e l a = tt
cut_apart n low limit zero h (q ∷ holes) e l a =
    let same : h ≡ q = cc in
    apart_lower low (q.at + n) limit (shortened n q holes) (omega (arith, a.0)) (short_apart n low limit q holes (omega (arith, l, ap (λ (x : Hole). x.count) same)) a)
cut_apart n low limit (suc i) h (q ∷ holes) e l a = (a.0, a.1, a.2, cut_apart n (q.at + q.count + 1) limit i h holes e l a.3)

-- the granules that were free are those that are taken now, and those that are free still
pub cut_lies : (n i g : ℕ) (h : Hole) (holes : List Hole) → slice_get holes i ≡ Some h → n ≤ h.count →
    lies_in_holes holes g ≡ (lies_in g (h.at, n) || lies_in_holes (cut_front n holes i) g)
cut_lies n i g h [] e l = cc
cut_lies n zero g h (q ∷ holes) e l =
    let same : q ≡ h = cc in
    short_lies n g q holes (omega (arith, l, ap (λ (x : Hole). x.count) same))
    ∙ ap (λ (x : Hole). lies_in g (x.at, n) || lies_in_holes (shortened n q holes) g) same
cut_lies n (suc i) g h (q ∷ holes) e l =
    ap (λ (b : Bool). lies_in_hole g q || b) (cut_lies n i g h holes e l)
    ∙ shuffle (lies_in_hole g q) (lies_in g (h.at, n)) (lies_in_holes (cut_front n holes i) g)
  where
    shuffle : (x y z : Bool) → (x || (y || z)) ≡ (y || (x || z))
    shuffle true true z = refl
    shuffle true false z = refl
    shuffle false true z = refl
    shuffle false false z = refl

-- none is both
pub cut_taken : (n low limit i g : ℕ) (h : Hole) (holes : List Hole) → slice_get holes i ≡ Some h → n ≤ h.count → AreApart low limit holes →
    lies_in g (h.at, n) ≡ true → lies_in_holes (cut_front n holes i) g ≡ false
cut_taken n low limit i g h [] e l a t = refl
cut_taken n low limit zero g h (q ∷ holes) e l a t =
    let same : h ≡ q = cc in let in_run = within g h.at n t in
    none_below (q.at + n) limit g (shortened n q holes) (short_apart n low limit q holes (omega (arith, l, ap (λ (x : Hole). x.count) same)) a)
    (omega (arith, in_run.1, ap (λ (x : Hole). x.at) same))
cut_taken n low limit (suc i) g h (q ∷ holes) e l a t =
    let in_run = within g h.at n t in let lies = hole_within (q.at + q.count + 1) limit i h holes a.3 e in
    ap (λ (b : Bool). b || lies_in_holes (cut_front n holes i) g) (lies_behind g q.at q.count (omega (arith, in_run.0, lies.0)))
    ∙ cut_taken n (q.at + q.count + 1) limit i g h holes e l a.3 t

pub cut_sum : (n i : ℕ) (h : Hole) (holes : List Hole) → slice_get holes i ≡ Some h → n ≤ h.count →
    sum_by (λ (x : Hole). x.count) (cut_front n holes i) + n ≡ sum_by (λ (x : Hole). x.count) holes
cut_sum n i h [] e l = cc
cut_sum n zero h (q ∷ holes) e l =
    let same : h ≡ q = cc in short_sum n q holes (omega (arith, l, ap (λ (x : Hole). x.count) same))
cut_sum n (suc i) h (q ∷ holes) e l =
    omega (arith, cut_sum n i h holes e l, sum_by-cons (λ (x : Hole). x.count) q holes, sum_by-cons (λ (x : Hole). x.count) q (cut_front n holes i))

-- whether each granule is taken, afterwards
pub cut_granule : (n limit i g : ℕ) (h : Hole) (holes : List Hole) → slice_get holes i ≡ Some h → n ≤ h.count → AreApart 0 limit holes →
    not (lies_in_holes (cut_front n holes i) g) ≡ (if lies_in g (h.at, n) then true else not (lies_in_holes holes g))
cut_granule n limit i g h holes e l a = by (lies_in g (h.at, n)) refl
  where
    by : (b : Bool) → lies_in g (h.at, n) ≡ b → not (lies_in_holes (cut_front n holes i) g) ≡ (if b then true else not (lies_in_holes holes g))
    by true t = ap not (cut_taken n 0 limit i g h holes e l a t)
    by false t = ap not (sym (cut_lies n i g h holes e l ∙ ap (λ (b : Bool). b || lies_in_holes (cut_front n holes i) g) t))

-- ---- the code's two ways

pub cut_removed : (n i : ℕ) (h : Hole) (holes : List Hole) → slice_get holes i ≡ Some h → h.count ≡ n → take i holes ++ drop (suc i) holes ≡ cut_front n holes i
cut_removed n i h [] e l = cc
cut_removed n zero h (q ∷ holes) e l =
    let same : q ≡ h = cc in
    let is : (q.count == n) ≡ true = ap (λ (x : ℕ). x == n) (ap (λ (x : Hole). x.count) same ∙ l) ∙ same_number n in
    sym (ap (λ (b : Bool). if b then holes else less n q ∷ holes) is)
cut_removed n (suc i) h (q ∷ holes) e l = ap (λ (xs : List Hole). q ∷ xs) (cut_removed n i h holes e l)

pub cut_set : (n i : ℕ) (h : Hole) (holes : List Hole) → slice_get holes i ≡ Some h → (h.count == n) ≡ false →
    set holes i (record { at = h.at + n; count = h.count - n }) ≡ cut_front n holes i
cut_set n i h [] e l = cc
cut_set n zero h (q ∷ holes) e l =
    let same : q ≡ h = cc in
    let is : (q.count == n) ≡ false = ap (λ (x : Hole). x.count == n) same ∙ l in
    ap (λ (x : Hole). less n x ∷ holes) (sym same) ∙ sym (ap (λ (b : Bool). if b then holes else less n q ∷ holes) is)
cut_set n (suc i) h (q ∷ holes) e l = ap (λ (xs : List Hole). q ∷ xs) (cut_set n i h holes e l)
