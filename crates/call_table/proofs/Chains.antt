-- Numbers that are linked.
use Rattle.std.proofs.Common.{◌≡◌, ◌≢◌, refl, sym, ◌∙◌, ap, ℕ, suc, zero, ◌<◌, ◌≤◌, true, false, nat_eq, List, [], ◌∷◌, ◌++◌, length, Option, Some, None, slice_get, arith, ◌==◌, ◌⊎◌, inl, inr}
use Rattle.std.specs.List.{IsDistinct}
use Rattle.std.specs.Option.{option_and_then}
use Rattle.std.proofs.lemmas.Option.{slice_get_within}
use Rattle.jx_base.proofs.BasicLaws.{eq_of}
use Rattle.table_threads.proofs.Records.{is_that}
use Rattle.call_table.specs.declared.links.Link.{Link}
use Rattle.call_table.specs.Linked.{IsLinked, first_or, followed, last_or, next_of}
use Rattle.call_table.specs.Links.{with_next, with_prev}
use Rattle.call_table.specs.QueueLists.{has}
use Rattle.call_table.proofs.Lists.{either, get_changed, get_other, or_first, or_second}
use Rattle.call_table.proofs.Members.{distinct_first, distinct_rest}

-- ---- ends of lists

pub first_of_parts : (xs ys : List ℕ) (after : Option ℕ) → first_or (xs ++ ys) after ≡ first_or xs (first_or ys after)
first_of_parts [] ys after = refl
first_of_parts (x ∷ xs) ys after = refl

pub last_of_parts : (before : Option ℕ) (xs ys : List ℕ) → last_or before (xs ++ ys) ≡ last_or (last_or before xs) ys
last_of_parts before [] ys = refl
last_of_parts before (x ∷ xs) ys = last_of_parts (Some x) xs ys

-- the last number is in the list
pub last_within : (xs : List ℕ) (i : ℕ) → last_or None xs ≡ Some i → has xs i ≡ true
last_within [] i h = cc
last_within (x ∷ xs) i h = by x xs h
  where
    by : (x : ℕ) (xs : List ℕ) → last_or (Some x) xs ≡ Some i → has (x ∷ xs) i ≡ true
    by x [] h = or_first (i == x) false (is_that i x (let q : x ≡ i = cc in sym q))
    by x (y ∷ ys) h = or_second (i == x) (has (y ∷ ys) i) (by y ys h)

-- so is the first one
pub first_within : (xs : List ℕ) (i : ℕ) → first_or xs None ≡ Some i → has xs i ≡ true
first_within [] i h = cc
first_within (x ∷ xs) i h = or_first (i == x) (has xs i) (is_that i x (let q : x ≡ i = cc in sym q))

-- ---- links that change

-- the number is not that one
abbrev pub IsNot : Option ℕ → ℕ → Type 0
IsNot o i = o ≢ Some i

pub next_stays : (o next : Option ℕ) (links : List Link) (i : ℕ) → IsNot o i → slice_get (with_next o next links) i ≡ slice_get links i
next_stays None next links i d = refl
next_stays (Some k) next links i d = get_other k i (λ l. record l { next = next }) links (λ e. d (ap Some e))

pub prev_stays : (o prev : Option ℕ) (links : List Link) (i : ℕ) → IsNot o i → slice_get (with_prev o prev links) i ≡ slice_get links i
prev_stays None prev links i d = refl
prev_stays (Some k) prev links i d = get_other k i (λ l. record l { prev = prev }) links (λ e. d (ap Some e))

-- a number outside of the list is not its last one
pub not_last : (xs : List ℕ) (i : ℕ) → has xs i ≡ false → IsNot (last_or None xs) i
not_last xs i h e = let t = last_within xs i e in cc

pub not_first : (xs : List ℕ) (i : ℕ) → has xs i ≡ false → IsNot (first_or xs None) i
not_first xs i h e = let t = first_within xs i e in cc

-- ---- linked numbers

-- links that stay at each number of a list
pub linked_same : (links new : List Link) (before : Option ℕ) (xs : List ℕ) (after : Option ℕ) →
    ((i : ℕ) → has xs i ≡ true → slice_get new i ≡ slice_get links i) → IsLinked links before xs after → IsLinked new before xs after
linked_same links new before [] after same h = tt
linked_same links new before (x ∷ xs) after same h = (
  same x (or_first (x == x) (has xs x) (is_that x x refl)) ∙ h.0,
  linked_same links new (Some x) xs after (λ i e. same i (or_second (i == x) (has xs i) e)) h.1,
)

-- each number has its link
pub linked_within : (links : List Link) (before : Option ℕ) (xs : List ℕ) (after : Option ℕ) (i : ℕ) → IsLinked links before xs after → has xs i ≡ true → i < length links
linked_within links before [] after i h e = cc
linked_within links before (x ∷ xs) after i h e = by (either (i == x) (has xs i) e) (linked_within links (Some x) xs after i h.1)
  where
    by : ((i == x) ≡ true) ⊎ (has xs i ≡ true) → (has xs i ≡ true → i < length links) → i < length links
    by (inl q) again = let l : x < length links = slice_get_within links x (record { prev = before; next = first_or xs after }) h.0 in omega (arith, l, eq_of i x q)
    by (inr q) again = again q

pub linked_left : (links : List Link) (before : Option ℕ) (xs ys : List ℕ) (after : Option ℕ) → IsLinked links before (xs ++ ys) after → IsLinked links before xs (first_or ys after)
linked_left links before [] ys after h = tt
linked_left links before (x ∷ xs) ys after h = (
  h.0 ∙ ap (λ (next : Option ℕ). Some (record { prev = before; next = next })) (first_of_parts xs ys after),
  linked_left links (Some x) xs ys after h.1,
)

pub linked_right : (links : List Link) (before : Option ℕ) (xs ys : List ℕ) (after : Option ℕ) → IsLinked links before (xs ++ ys) after → IsLinked links (last_or before xs) ys after
linked_right links before [] ys after h = h
linked_right links before (x ∷ xs) ys after h = linked_right links (Some x) xs ys after h.1

pub linked_joined : (links : List Link) (before : Option ℕ) (xs ys : List ℕ) (after : Option ℕ) →
    IsLinked links before xs (first_or ys after) → IsLinked links (last_or before xs) ys after → IsLinked links before (xs ++ ys) after
linked_joined links before [] ys after h k = k
linked_joined links before (x ∷ xs) ys after h k = (
  h.0 ∙ ap (λ (next : Option ℕ). Some (record { prev = before; next = next })) (sym (first_of_parts xs ys after)),
  linked_joined links (Some x) xs ys after h.1 k,
)

-- another number follows the last one
pub linked_to : (links : List Link) (before : Option ℕ) (xs : List ℕ) (after next : Option ℕ) →
    IsDistinct nat_eq xs → IsLinked links before xs after → IsLinked (with_next (last_or None xs) next links) before xs next
linked_to links before [] after next d h = tt
linked_to links before (x ∷ []) after next d h =
    (get_changed x (λ l. record l { next = next }) links (record { prev = before; next = after }) h.0, tt)
linked_to links before (x ∷ y ∷ xs) after next d h = (
  next_stays (last_or None (y ∷ xs)) next links x (not_last (y ∷ xs) x (distinct_first x (y ∷ xs) d)) ∙ h.0,
  linked_to links (Some x) (y ∷ xs) after next (distinct_rest x (y ∷ xs) d) h.1,
)

-- another number stands before the first one
pub linked_from : (links : List Link) (before : Option ℕ) (xs : List ℕ) (after prev : Option ℕ) →
    IsDistinct nat_eq xs → IsLinked links before xs after → IsLinked (with_prev (first_or xs None) prev links) prev xs after
linked_from links before [] after prev d h = tt
linked_from links before (x ∷ xs) after prev d h = (
  get_changed x (λ l. record l { prev = prev }) links (record { prev = before; next = first_or xs after }) h.0,
  linked_same links (with_prev (Some x) prev links) (Some x) xs after
      (λ i e. prev_stays (Some x) prev links i (λ q. let same : has xs x ≡ has xs i = ap (has xs) (let z : x ≡ i = cc in z) in let no = distinct_first x xs d in cc)) h.1,
)

-- what follows from the first number on is the list
pub followed_all : (n : ℕ) (links : List Link) (before : Option ℕ) (xs : List ℕ) → length xs ≤ n → IsLinked links before xs None → followed n links (first_or xs None) ≡ xs
followed_all zero links before [] l h = refl
followed_all (suc n) links before [] l h = refl
followed_all zero links before (x ∷ xs) l h = absurd (omega (arith, l))
followed_all (suc n) links before (x ∷ xs) l h =
    let next : next_of links x ≡ first_or xs None = ap (option_and_then (λ (k : Link). k.next)) h.0 in
    ap (λ (ys : List ℕ). x ∷ ys) (ap (followed n links) next ∙ followed_all n links (Some x) xs (omega (arith, l)) h.1)
