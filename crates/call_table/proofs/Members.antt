-- Numbers in lists, each at most once.
use Rattle.std.proofs.Common.{◌≡◌, ◌≢◌, refl, sym, ◌∙◌, ap, subst, ℕ, true, false, not, cond, ◌||◌, ◌&&◌, nat_eq, List, [], ◌∷◌, ◌++◌, ◌==◌, ◌⊎◌, inl, inr}
use Rattle.std.specs.List.{AllByRecursion, IsDistinct}
use Rattle.jx_base.proofs.BasicLaws.{and_false, eq_of}
use Rattle.table_threads.proofs.Records.{any_append, is_that, not_that, same_or_not}
use Rattle.call_table.specs.QueueLists.{has, without}
use Rattle.call_table.proofs.Lists.{either, neither, or_first, or_second}

-- ---- members

pub has_append : (xs ys : List ℕ) (i : ℕ) → has (xs ++ ys) i ≡ (has xs i || has ys i)
has_append xs ys i = any_append (λ k. i == k) xs ys

-- a number that is in the list stands between two parts of it
pub record HasBetween (xs : List ℕ) (i : ℕ) : Type 0 where
  pub before : List ℕ
  pub after : List ℕ
  pub whole : xs ≡ before ++ i ∷ after

pub between : (xs : List ℕ) (i : ℕ) → has xs i ≡ true → HasBetween xs i
between [] i h = cc
between (x ∷ xs) i h = by (either (i == x) (has xs i) h) (between xs i)
  where
    by : ((i == x) ≡ true) ⊎ (has xs i ≡ true) → (has xs i ≡ true → HasBetween xs i) → HasBetween (x ∷ xs) i
    by (inl e) again = record { before = []; after = xs; whole = ap (λ (k : ℕ). k ∷ xs) (sym (eq_of i x e)) }
    by (inr h) again = let r = again h in record { before = x ∷ r.before; after = r.after; whole = ap (λ (ys : List ℕ). x ∷ ys) r.whole }

-- ---- lists without a number

pub has_without : (i k : ℕ) (xs : List ℕ) → has (without i xs) k ≡ (not (i == k) && has xs k)
has_without i k [] = sym (and_false (not (i == k)))
has_without i k (x ∷ xs) = by (same_or_not i x) (same_or_not i k) (has_without i k xs)
  where
    by : (i ≡ x) ⊎ (i ≢ x) → (i ≡ k) ⊎ (i ≢ k) → has (without i xs) k ≡ (not (i == k) && has xs k) → has (cond (not (i == x)) (x ∷ without i xs) (without i xs)) k ≡ (not (i == k) && ((k == x) || has xs k))
    by (inl e) (inl f) again = rw (is_that i x e, is_that i k f) (again ∙ rw (is_that i k f) refl)
    by (inl e) (inr d) again = rw (is_that i x e, not_that i k (λ z. d (sym z)), not_that k x (λ z. d (e ∙ z))) (again ∙ rw (not_that i k (λ z. d (sym z))) refl)
    by (inr d) (inl f) again = rw (not_that i x (λ z. d (sym z)), is_that i k f, not_that k x (λ z. d (f ∙ sym z))) (again ∙ rw (is_that i k f) refl)
    by (inr d) (inr g) again = rw (not_that i x (λ z. d (sym z)), not_that i k (λ z. g (sym z)), again, not_that i k (λ z. g (sym z))) refl

-- a list that hasn't the number is the same without it
pub without_same : (i : ℕ) (xs : List ℕ) → has xs i ≡ false → without i xs ≡ xs
without_same i [] h = refl
without_same i (x ∷ xs) h = let n = neither (i == x) (has xs i) h in rw n.0 (ap (λ (ys : List ℕ). x ∷ ys) (without_same i xs n.1))

-- the number between two parts that haven't it goes
pub without_between : (i : ℕ) (xs ys : List ℕ) → has xs i ≡ false → has ys i ≡ false → without i (xs ++ i ∷ ys) ≡ xs ++ ys
without_between i [] ys h k = rw (is_that i i refl) (without_same i ys k)
without_between i (x ∷ xs) ys h k = let n = neither (i == x) (has xs i) h in rw n.0 (ap (λ (zs : List ℕ). x ∷ zs) (without_between i xs ys n.1 k))

-- ---- each number once

-- the first one is not among the others
pub distinct_first : (x : ℕ) (xs : List ℕ) → IsDistinct nat_eq (x ∷ xs) → has xs x ≡ false
unfolding IsDistinct
distinct_first x xs h = by xs h.0
  where
    by : (ys : List ℕ) → AllByRecursion (λ y. nat_eq x y ≡ false) ys → has ys x ≡ false
    by [] h = refl
    by (y ∷ ys) h = rw h.0 (by ys h.1)

pub distinct_rest : (x : ℕ) (xs : List ℕ) → IsDistinct nat_eq (x ∷ xs) → IsDistinct nat_eq xs
unfolding IsDistinct
distinct_rest x xs h = h.1

pub distinct_none : IsDistinct nat_eq []
unfolding IsDistinct
distinct_none = tt

pub distinct_more : (x : ℕ) (xs : List ℕ) → has xs x ≡ false → IsDistinct nat_eq xs → IsDistinct nat_eq (x ∷ xs)
unfolding IsDistinct
distinct_more x xs h d = (by xs h, d)
  where
    by : (ys : List ℕ) → has ys x ≡ false → AllByRecursion (λ y. nat_eq x y ≡ false) ys
    by [] h = tt
    by (y ∷ ys) h = let n = neither (x == y) (has ys x) h in (n.0, by ys n.1)

-- no number is in both lists
abbrev pub AreDisjoint : List ℕ → List ℕ → Type 0
AreDisjoint xs ys = (i : ℕ) → has xs i ≡ true → has ys i ≡ false

-- two parts of a list
pub record IsDistinctInParts (xs ys : List ℕ) : Type 0 where
  pub left : IsDistinct nat_eq xs
  pub right : IsDistinct nat_eq ys
  pub disjoint : AreDisjoint xs ys

pub distinct_parts : (xs ys : List ℕ) → IsDistinct nat_eq (xs ++ ys) → IsDistinctInParts xs ys
distinct_parts [] ys h = record { left = distinct_none; right = h; disjoint = λ i e. cc }
distinct_parts (x ∷ xs) ys h =
    let again = distinct_parts xs ys (distinct_rest x (xs ++ ys) h) in
    let n = neither (has xs x) (has ys x) (sym (has_append xs ys x) ∙ distinct_first x (xs ++ ys) h) in
    record {
      left = distinct_more x xs n.0 again.left;
      right = again.right;
      disjoint = λ (i : ℕ) (e : has (x ∷ xs) i ≡ true). by again n.1 i (either (i == x) (has xs i) e);
    }
  where
    by : IsDistinctInParts xs ys → has ys x ≡ false → (i : ℕ) → ((i == x) ≡ true) ⊎ (has xs i ≡ true) → has ys i ≡ false
    by again n i (inl e) = subst (λ (k : ℕ). has ys k ≡ false) (sym (eq_of i x e)) n
    by again n i (inr e) = again.disjoint i e

pub distinct_joined : (xs ys : List ℕ) → IsDistinctInParts xs ys → IsDistinct nat_eq (xs ++ ys)
distinct_joined [] ys h = h.right
distinct_joined (x ∷ xs) ys h =
    let fresh : has (xs ++ ys) x ≡ false =
    has_append xs ys x ∙ rw (distinct_first x xs h.left) (h.disjoint x (or_first (x == x) (has xs x) (is_that x x refl)))
    in
    distinct_more x (xs ++ ys) fresh (distinct_joined xs ys (record {
      left = distinct_rest x xs h.left;
      right = h.right;
      disjoint = λ (i : ℕ) (e : has xs i ≡ true). h.disjoint i (or_second (i == x) (has xs i) e);
    }))

-- one number more
pub distinct_last : (xs : List ℕ) (i : ℕ) → IsDistinct nat_eq xs → has xs i ≡ false → IsDistinct nat_eq (xs ++ i ∷ [])
distinct_last xs i d h =
    distinct_joined xs (i ∷ []) (record {
      left = d;
      right = distinct_more i [] refl distinct_none;
      disjoint = λ (k : ℕ) (e : has xs k ≡ true). by k e (same_or_not k i);
    })
  where
    by : (k : ℕ) → has xs k ≡ true → (k ≡ i) ⊎ (k ≢ i) → has (i ∷ []) k ≡ false
    by k e (inl q) = let same : has xs k ≡ has xs i = ap (has xs) q in cc
    by k e (inr d) = rw (not_that k i (λ z. d (sym z))) refl
