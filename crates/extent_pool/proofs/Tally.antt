-- How many granules are free.
use Rattle.std.proofs.Common.{◌≡◌, refl, sym, ◌∙◌, ap, ap, ℕ, suc, zero, ◌+◌, ◌-◌, ◌<◌, ◌≤◌, Bool, true, false, not, cond, ◌||◌, List, [], ◌∷◌, arith, map, sum_by}
use Rattle.std.specs.Prelude.{count_by}
use Rattle.std.specs.List.{range_with_len}
use Rattle.std.proofs.lemmas.List.Sums.{sum_by-cons, sum_by-append}
use Rattle.jx_base.proofs.BasicLaws.{range_append}
use Rattle.extent_pool.specs.declared.hole.Hole.{Hole}
use Rattle.extent_pool.specs.Holes.{lies_in_holes, granules_of, AreApart}
use Rattle.extent_pool.proofs.Lies.{lies, lies_behind}
use Rattle.extent_pool.proofs.Apart.{none_below}

abbrev weight : (ℕ → Bool) → ℕ → ℕ
weight p g = cond (p g) 1 0

-- a count over numbers in a row, of which each passes or fails
count_same : (p : ℕ → Bool) (b : Bool) (from n : ℕ) → ((g : ℕ) → from ≤ g → g < from + n → p g ≡ b) →
    count_by p (range_with_len from n) ≡ cond b n 0
count_same p true from zero f = refl
count_same p false from zero f = refl
count_same p b from (suc n) f =
    let rest = count_same p b (from + 1) n (λ g l m. f g (omega (arith, l)) (omega (arith, m))) in
    sum_by-cons (weight p) from (range_with_len (from + 1) n)
    ∙ ap (λ (x : Bool). cond x 1 0 + count_by p (range_with_len (from + 1) n)) (f from (omega arith) (omega arith))
    ∙ ap (λ (x : ℕ). cond b 1 0 + x) rest
    ∙ by b
  where
    by : (b : Bool) → cond b 1 0 + cond b n 0 ≡ cond b (suc n) 0
    by true = omega arith
    by false = omega arith

-- a count by tests that agree
count_alike : (p q : ℕ → Bool) (from n : ℕ) → ((g : ℕ) → from ≤ g → g < from + n → p g ≡ q g) →
    count_by p (range_with_len from n) ≡ count_by q (range_with_len from n)
count_alike p q from zero f = refl
count_alike p q from (suc n) f =
    sum_by-cons (weight p) from (range_with_len (from + 1) n)
    ∙ ap (λ (x : Bool). cond x 1 0 + count_by p (range_with_len (from + 1) n)) (f from (omega arith) (omega arith))
    ∙ ap (λ (x : ℕ). weight q from + x) (count_alike p q (from + 1) n (λ g l m. f g (omega (arith, l)) (omega (arith, m))))
    ∙ sym (sum_by-cons (weight q) from (range_with_len (from + 1) n))

count_parts : (p : ℕ → Bool) (from n k : ℕ) → count_by p (range_with_len from (n + k)) ≡ count_by p (range_with_len from n) + count_by p (range_with_len (from + n) k)
count_parts p from n k =
    ap (count_by p) (range_append from n k) ∙ sum_by-append (weight p) (range_with_len from n) (range_with_len (from + n) k)

count_lies : (from n low limit : ℕ) (holes : List Hole) → from ≤ low → limit ≡ from + n + 1 → AreApart low limit holes →
    count_by (lies_in_holes holes) (range_with_len from n) ≡ sum_by (λ (h : Hole). h.count) holes
count_lies from n low limit [] l e a = count_same (lies_in_holes []) false from n (λ g u v. refl)
count_lies from n low limit (h ∷ holes) l e a =
    let gap : ℕ = h.at - from in
    let left : ℕ = n - gap - h.count in
    let whole : n ≡ gap + (h.count + left) = omega (arith, l, e, a.0, a.2) in
    let first : from + gap ≡ h.at = omega (arith, l, a.0) in
    let p = lies_in_holes (h ∷ holes) in
    let before : count_by p (range_with_len from gap) ≡ 0 =
    count_same p false from gap (λ g u v. none_below h.at limit g (h ∷ holes) (omega arith, a.1, a.2, a.3) (omega (arith, v, first))) in
    let inside : count_by p (range_with_len h.at h.count) ≡ h.count =
    count_same p true h.at h.count (λ g u v. ap (λ (b : Bool). b || lies_in_holes holes g) (lies g h.at h.count u v)) in
    let behind : count_by p (range_with_len (h.at + h.count) left) ≡ sum_by (λ (x : Hole). x.count) holes =
    count_alike p (lies_in_holes holes) (h.at + h.count) left (λ g u v. ap (λ (b : Bool). b || lies_in_holes holes g) (lies_behind g h.at h.count u))
    ∙ count_lies (h.at + h.count) left (h.at + h.count + 1) limit holes (omega arith) (omega (arith, e, whole, first)) a.3 in
    let parts : count_by p (range_with_len from n)
    ≡ count_by p (range_with_len from gap) + (count_by p (range_with_len h.at h.count) + count_by p (range_with_len (h.at + h.count) left)) =
    ap (λ (x : ℕ). count_by p (range_with_len from x)) whole
    ∙ count_parts p from gap (h.count + left)
    ∙ ap (λ (x : ℕ). count_by p (range_with_len from gap) + count_by p (range_with_len x (h.count + left))) first
    ∙ ap (λ (x : ℕ). count_by p (range_with_len from gap) + x) (count_parts p h.at h.count left) in
    omega (arith, parts, before, inside, behind, sum_by-cons (λ (x : Hole). x.count) h holes)

count_map : (p : ℕ → Bool) (from n : ℕ) → count_by not (map (λ g. not (p g)) (range_with_len from n)) ≡ count_by p (range_with_len from n)
count_map p from zero = refl
count_map p from (suc n) =
    sum_by-cons (λ (b : Bool). cond (not b) 1 0) (not (p from)) (map (λ g. not (p g)) (range_with_len (from + 1) n))
    ∙ ap (λ (b : Bool). cond b 1 0 + count_by not (map (λ g. not (p g)) (range_with_len (from + 1) n))) (twice (p from))
    ∙ ap (λ (x : ℕ). weight p from + x) (count_map p (from + 1) n)
    ∙ sym (sum_by-cons (weight p) from (range_with_len (from + 1) n))
  where
    twice : (b : Bool) → not (not b) ≡ b
    twice true = refl
    twice false = refl

pub count_free : (n : ℕ) (holes : List Hole) → AreApart 0 (n + 1) holes → count_by not (granules_of n holes) ≡ sum_by (λ (h : Hole). h.count) holes
count_free n holes a =
    count_map (lies_in_holes holes) 0 n ∙ count_lies 0 n 0 (n + 1) holes (omega arith) (omega arith) a
