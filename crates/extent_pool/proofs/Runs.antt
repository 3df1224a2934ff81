-- The least place at which granules are free.
use Rattle.std.proofs.Common.{◌≡◌, refl, sym, ◌∙◌, ap, ap, ℕ, suc, zero, ◌+◌, ◌<◌, ◌≤◌, Bool, true, false, not, ◌&&◌, ◌||◌, List, [], ◌∷◌, Option, Some, None, arith, get_or, length, slice_get, ◌==◌}
use Rattle.std.specs.List.{list_all, range_with_len}
use Rattle.std.specs.Prelude.{nat_lt}
use Rattle.std.proofs.lemmas.Bool.Decides.{nat_tests}
use Rattle.jx_base.proofs.BasicLaws.{both, eq_of, differs}
use Rattle.jx_model.specs.Granules.{is_free_run, least_free}
use Rattle.extent_pool.specs.declared.hole.Hole.{Hole}
use Rattle.extent_pool.specs.Holes.{lies_in_hole, lies_in_holes, AreApart}
use Rattle.extent_pool.proofs.Lies.{lies, lies_behind, within, lies_at}
use Rattle.extent_pool.proofs.Apart.{none_below}

-- ---- the definition

not_true : (b : Bool) → not b ≡ true → b ≡ false
not_true true e = cc
not_true false e = refl

pub all_free : (used : ℕ → Bool) (n g : ℕ) → ((k : ℕ) → g ≤ k → k < g + n → used k ≡ false) → is_free_run used n g ≡ true
unfolding is_free_run
all_free used zero g f = refl
all_free used (suc n) g f =
    ap (λ (b : Bool). not b && list_all (λ k. not (used k)) (range_with_len (g + 1) n)) (f g (omega arith) (omega arith))
    ∙ all_free used n (g + 1) (λ k l m. f k (omega (arith, l)) (omega (arith, m)))

pub each_free : (used : ℕ → Bool) (n g : ℕ) → is_free_run used n g ≡ true → (k : ℕ) → g ≤ k → k < g + n → used k ≡ false
unfolding is_free_run
each_free used zero g e k l m = absurd (omega (arith, l, m))
each_free used (suc n) g e k l m =
    let parts = both (not (used g)) (list_all (λ k. not (used k)) (range_with_len (g + 1) n)) e in
    at (g == k) refl (not_true (used g) parts.0) (each_free used n (g + 1) parts.1 k)
  where
    at : (b : Bool) → (g == k) ≡ b → used g ≡ false → (g + 1 ≤ k → k < g + 1 + n → used k ≡ false) → used k ≡ false
    at true q here later = ap used (sym (eq_of g k q)) ∙ here
    at false q here later = let d = differs g k q in later (omega (arith, l, d)) (omega (arith, m))

pub is_least : (used : ℕ → Bool) (n more g r : ℕ) → g ≤ r → r < g + more → is_free_run used n r ≡ true →
    ((k : ℕ) → g ≤ k → k < r → is_free_run used n k ≡ false) → least_free used n more g ≡ Some r
unfolding least_free
is_least used n zero g r l m e f = absurd (omega (arith, l, m))
is_least used n (suc more) g r l m e f =
    at (is_free_run used n g) refl (g == r) refl (λ u. is_least used n more (g + 1) r u (omega (arith, m)) e (λ k v w. f k (omega (arith, v)) w))
  where
    at : (b : Bool) → is_free_run used n g ≡ b → (c : Bool) → (g == r) ≡ c → (g + 1 ≤ r → least_free used n more (g + 1) ≡ Some r) →
        (elim b as (λ _. Option ℕ) [ true ↦ Some g | false ↦ least_free used n more (g + 1) ]) ≡ Some r
    at true p true q later = ap Some (eq_of g r q)
    at true p false q later = let d = differs g r q in cc (p, f g (omega arith) (omega (arith, l, d)))
    at false p true q later = cc (p, ap (is_free_run used n) (eq_of g r q), e)
    at false p false q later = let d = differs g r q in later (omega (arith, l, d))

pub is_none : (used : ℕ → Bool) (n more g : ℕ) → ((k : ℕ) → g ≤ k → k < g + more → is_free_run used n k ≡ false) → least_free used n more g ≡ None
unfolding least_free
is_none used n zero g f = refl
is_none used n (suc more) g f =
    ap (λ (b : Bool). elim b as (λ _. Option ℕ) [ true ↦ Some g | false ↦ least_free used n more (g + 1) ]) (f g (omega arith) (omega arith))
    ∙ is_none used n more (g + 1) (λ k u v. f k (omega (arith, u)) (omega (arith, v)))

-- ---- holes

-- n granules from there on lie in the holes
abbrev pub LieIn : List Hole → ℕ → ℕ → Type 0
LieIn holes n k = (g : ℕ) → k ≤ g → g < k + n → lies_in_holes holes g ≡ true

pub fits_at : (n i : ℕ) (h : Hole) (holes : List Hole) → slice_get holes i ≡ Some h → n ≤ h.count → LieIn holes n h.at
fits_at n i h holes e l = λ g u v. lies_at holes i g h e (lies g h.at h.count u (omega (arith, v, l)))

-- more granules than a hole has lie all in the holes behind it
behind_small : (n low limit k : ℕ) (h : Hole) (holes : List Hole) → h.count < n → AreApart low limit (h ∷ holes) → LieIn (h ∷ holes) n k → LieIn holes n k
behind_small n low limit k h holes s a f = by (lies_in_hole k h) refl
  where
    rest : (g : ℕ) → lies_in_hole g h ≡ false → lies_in_holes (h ∷ holes) g ≡ true → lies_in_holes holes g ≡ true
    rest g e t = ap (λ (b : Bool). b || lies_in_holes holes g) (sym e) ∙ t

    by : (b : Bool) → lies_in_hole k h ≡ b → LieIn holes n k
    by true e =
        let in_run = within k h.at h.count e in
        let end : lies_in_holes holes (h.at + h.count) ≡ true =
        rest (h.at + h.count) (lies_behind (h.at + h.count) h.at h.count (omega arith)) (f (h.at + h.count) (omega (arith, in_run.1)) (omega (arith, in_run.0, s))) in
        cc (end, none_below (h.at + h.count + 1) limit (h.at + h.count) holes a.3 (omega arith))
    by false e = λ g u v.
        let first : lies_in_holes holes k ≡ true = rest k e (f k (omega arith) (omega (arith, s))) in
        rest g (lies_behind g h.at h.count (omega (arith, u, above first (h.at + h.count)))) (f g u v)
      where
        above : lies_in_holes holes k ≡ true → (m : ℕ) → h.at + h.count ≤ k
        above t m = at (nat_lt k (h.at + h.count + 1)) refl
          where
            at : (b : Bool) → nat_lt k (h.at + h.count + 1) ≡ b → h.at + h.count ≤ k
            at true q = cc (t, none_below (h.at + h.count + 1) limit k holes a.3 (grind (arith, nat_tests)))
            at false q = grind (arith, nat_tests)

-- where the holes before one are too small, granules that lie in the holes lie there or behind
pub not_before : (n low limit k i : ℕ) (h : Hole) (holes : List Hole) → 0 < n → slice_get holes i ≡ Some h →
    ((j : ℕ) → j < i → (get_or holes j h).count < n) → AreApart low limit holes → LieIn holes n k → h.at ≤ k
not_before n low limit k i h [] p e s a f = cc
not_before n low limit k zero h (q ∷ holes) p e s a f =
    let same : q ≡ h = cc in
    at (nat_lt k q.at) refl same
  where
    at : (b : Bool) → nat_lt k q.at ≡ b → q ≡ h → h.at ≤ k
    at true t same = cc (f k (omega arith) (omega (arith, p)), none_below q.at limit k (q ∷ holes) (omega arith, a.1, a.2, a.3) (grind (arith, nat_tests)))
    at false t same = let l : q.at ≤ k = grind (arith, nat_tests) in omega (arith, l, ap (λ (x : Hole). x.at) same)
not_before n low limit k (suc i) h (q ∷ holes) p e s a f =
    not_before n (q.at + q.count + 1) limit k i h holes p e (λ j l. s (suc j) (omega (arith, l))) a.3
    (behind_small n low limit k q holes (s 0 (omega arith)) a f)

-- where all holes are too small, there are no such granules
pub none_fit : (n low limit k : ℕ) (holes : List Hole) → 0 < n → ((j : ℕ) (d : Hole) → j < length holes → (get_or holes j d).count < n) → AreApart low limit holes →
    LieIn holes n k → true ≡ false
none_fit n low limit k [] p s a f = sym (f k (omega arith) (omega (arith, p)))
none_fit n low limit k (q ∷ holes) p s a f =
    none_fit n (q.at + q.count + 1) limit k holes p (λ j d l. s (suc j) d (omega (arith, l))) a.3
    (behind_small n low limit k q holes (s 0 q (omega arith)) a f)
