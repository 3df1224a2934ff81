-- What stands in a list, and lists without repeats.
use Rattle.std.proofs.Common.{◌≡◌, ℕ, zero, suc, ◌+◌, ◌<◌, ◌≤◌, ◌⊎◌, inl, inr, Bool, true, false, not, ◌&&◌, ◌||◌, cond, List, [], ◌∷◌, ◌++◌, length, map, Option, Some, None, slice_get, refl, sym, ap, ◌∙◌, subst, arith}
use Rattle.std.proofs.lemmas.Bool.Decides.{Decides-ltb}
use Rattle.std.specs.Prelude.{⊤, nat_lt, if◌then◌else◌, flat_map, ◌==◌}
use Rattle.std.specs.List.{list_any, list_all, filter_map, cons_option, position, position_or_len, AllByRecursion, range_with_len}
use Rattle.std.specs.Str.{bytes_eq}
use Rattle.std.proofs.lemmas.Slice.Eq.{bytes_eq-Decides}
use Rattle.std.proofs.lemmas.List.Quantifiers.{position-Some}
use Rattle.std.proofs.lemmas.Option.{get_or_from_slice_get}
use Rattle.std.proofs.Common.{get_or}
use Rattle.jx_base.specs.Basics.{first_some, contains_number, firsts_after, distinct, distinct_after}
use Rattle.program_model.specs.Plans.{first_texts_after, first_texts}
use Rattle.jx_base.proofs.BasicLaws.{eq_of, differs}

-- ---- what stands in a list

-- x stands in the list
abbrev pub Among : {A : Type 0} → List A → A → Type 0
Among [] x = ⊥
Among (y ∷ ys) x = (y ≡ x) ⊎ Among ys x

-- what stands in front stands in the whole
pub among_front : {A : Type 0} (xs ys : List A) (x : A) → Among xs x → Among (xs ++ ys) x
among_front [] ys x h = absurd h
among_front (z ∷ xs) ys x (inl e) = inl e
among_front (z ∷ xs) ys x (inr h) = inr (among_front xs ys x h)

-- what stands behind stands in the whole
pub among_behind : {A : Type 0} (xs ys : List A) (x : A) → Among ys x → Among (xs ++ ys) x
among_behind [] ys x h = h
among_behind (z ∷ xs) ys x h = inr (among_behind xs ys x h)

-- what stands in two lists joined stands in one of them
pub among_either : {A : Type 0} (xs ys : List A) (x : A) → Among (xs ++ ys) x → Among xs x ⊎ Among ys x
among_either [] ys x h = inr h
among_either (z ∷ xs) ys x (inl e) = inl (inl e)
among_either (z ∷ xs) ys x (inr h) = elim (among_either xs ys x h) [ inl k ↦ inl (inr k) | inr k ↦ inr k ]

-- f of an item stands among those of all
pub among_map : {A B : Type 0} (f : A → B) (xs : List A) (x : A) → Among xs x → Among (map f xs) (f x)
among_map f [] x h = absurd h
among_map f (z ∷ xs) x (inl e) = inl (ap f e)
among_map f (z ∷ xs) x (inr h) = inr (among_map f xs x h)

-- what stands among f of the items is f of one
pub from_map : {A B : Type 0} (f : A → B) (xs : List A) (y : B) → Among (map f xs) y → (x : A) × Among xs x × (f x ≡ y)
from_map f [] y h = absurd h
from_map f (z ∷ xs) y (inl e) = (z, inl refl, e)
from_map f (z ∷ xs) y (inr h) = let r = from_map f xs y h in (r.0, inr r.1, r.2)

-- what one item gives stands among what all give
pub among_flat : {A B : Type 0} (f : A → List B) (xs : List A) (x : A) (y : B) → Among xs x → Among (f x) y → Among (flat_map f xs) y
among_flat f [] x y h k = absurd h
among_flat f (z ∷ xs) x y (inl e) k = among_front (f z) (flat_map f xs) y (subst (λ a. Among (f a) y) (sym e) k)
among_flat f (z ∷ xs) x y (inr h) k = among_behind (f z) (flat_map f xs) y (among_flat f xs x y h k)

-- what stands among what all items give is given by one
pub from_flat : {A B : Type 0} (f : A → List B) (xs : List A) (y : B) → Among (flat_map f xs) y → (x : A) × Among xs x × Among (f x) y
from_flat f [] y h = absurd h
from_flat f (z ∷ xs) y h = elim (among_either (f z) (flat_map f xs) y h) [
  | inl k ↦ (z, inl refl, k)
  | inr k ↦ let r = from_flat f xs y k in (r.0, inr r.1, r.2)
]

-- what an item gives stands among what all give
pub among_given : {A B : Type 0} (f : A → Option B) (xs : List A) (x : A) (y : B) → Among xs x → f x ≡ Some y → Among (filter_map f xs) y
among_given f [] x y h k = absurd h
among_given {A} {B} f (z ∷ xs) x y (inl e) k = by (f z) (ap f e ∙ k)
  where
    by : (o : Option B) → o ≡ Some y → Among (cons_option o (filter_map f xs)) y
    by None q = absurd cc
    by (Some b) q = inl cc
among_given {A} {B} f (z ∷ xs) x y (inr h) k = by (f z) (among_given f xs x y h k)
  where
    by : (o : Option B) → Among (filter_map f xs) y → Among (cons_option o (filter_map f xs)) y
    by None q = q
    by (Some b) q = inr q

-- what stands among what all items give is given by one
pub from_given : {A B : Type 0} (f : A → Option B) (xs : List A) (y : B) → Among (filter_map f xs) y → (x : A) × Among xs x × (f x ≡ Some y)
from_given f [] y h = absurd h
from_given {A} {B} f (z ∷ xs) y h = by (f z) refl h (from_given f xs y)
  where
    by : (o : Option B) → f z ≡ o → Among (cons_option o (filter_map f xs)) y
        → (Among (filter_map f xs) y → (x : A) × Among xs x × (f x ≡ Some y)) → (x : A) × Among (z ∷ xs) x × (f x ≡ Some y)
    by None e q again = let r = again q in (r.0, inr r.1, r.2)
    by (Some b) e (inl q) again = (z, inl refl, e ∙ ap Some q)
    by (Some b) e (inr q) again = let r = again q in (r.0, inr r.1, r.2)

-- what stands at a place stands in the list
pub at_among : {A : Type 0} (xs : List A) (i : ℕ) (x : A) → slice_get xs i ≡ Some x → Among xs x
at_among [] i x e = absurd cc
at_among (y ∷ xs) zero x e = inl cc
at_among (y ∷ xs) (suc i) x e = inr (at_among xs i x e)

-- what stands in the list stands at a place
pub among_at : {A : Type 0} (xs : List A) (x : A) → Among xs x → (i : ℕ) × (slice_get xs i ≡ Some x)
among_at [] x h = absurd h
among_at (y ∷ xs) x (inl e) = (0, ap Some e)
among_at (y ∷ xs) x (inr h) = let r = among_at xs x h in (suc r.0, r.1)

-- below the length something stands
pub at_below : {A : Type 0} (xs : List A) (i : ℕ) → i < length xs → (x : A) × (slice_get xs i ≡ Some x)
at_below [] i h = absurd (omega arith)
at_below (y ∷ xs) zero h = (y, refl)
at_below (y ∷ xs) (suc i) h = at_below xs i (omega arith)

-- where something stands is below the length
pub below_length : {A : Type 0} (xs : List A) (i : ℕ) (x : A) → slice_get xs i ≡ Some x → i < length xs
below_length [] i x e = absurd cc
below_length (y ∷ xs) zero x e = omega arith
below_length (y ∷ xs) (suc i) x e = let h = below_length xs i x e in omega (arith, h)

-- in front of a list, places stay
pub at_front : {A : Type 0} (xs ys : List A) (i : ℕ) → i < length xs → slice_get (xs ++ ys) i ≡ slice_get xs i
at_front [] ys i h = absurd (omega arith)
at_front (x ∷ xs) ys zero h = refl
at_front (x ∷ xs) ys (suc i) h = at_front xs ys i (omega arith)

-- behind a list, places go on
pub at_behind : {A : Type 0} (xs ys : List A) (i : ℕ) → slice_get (xs ++ ys) (length xs + i) ≡ slice_get ys i
at_behind [] ys i = ap (slice_get ys) (omega arith)
at_behind (x ∷ xs) ys i = ap (slice_get (x ∷ xs ++ ys)) (shift (length xs) i) ∙ at_behind xs ys i
  where
    shift : (n i : ℕ) → suc n + i ≡ suc (n + i)
    shift n i = omega arith

-- f of what stands at a place
pub at_map : {A B : Type 0} (f : A → B) (xs : List A) (i : ℕ) (x : A) → slice_get xs i ≡ Some x → slice_get (map f xs) i ≡ Some (f x)
at_map f [] i x e = absurd cc
at_map f (y ∷ xs) zero x e = cc
at_map f (y ∷ xs) (suc i) x e = at_map f xs i x e

-- what stands at a place among f of the items is f of what stands there
pub from_map_at : {A B : Type 0} (f : A → B) (xs : List A) (i : ℕ) (y : B) → slice_get (map f xs) i ≡ Some y → (x : A) × (slice_get xs i ≡ Some x) × (f x ≡ y)
from_map_at f [] i y e = absurd cc
from_map_at f (x ∷ xs) zero y e = (x, refl, cc)
from_map_at f (x ∷ xs) (suc i) y e = from_map_at f xs i y e

-- lists of the same length with the same items are the same
pub same_items : {A : Type 0} (xs ys : List A) → length xs ≡ length ys → ((i : ℕ) (x y : A) → slice_get xs i ≡ Some x → slice_get ys i ≡ Some y → x ≡ y) → xs ≡ ys
same_items [] [] e h = refl
same_items [] (y ∷ ys) e h = absurd (omega (arith, e))
same_items (x ∷ xs) [] e h = absurd (omega (arith, e))
same_items (x ∷ xs) (y ∷ ys) e h =
    let one : x ≡ y = h 0 x y refl refl in
    let rest : xs ≡ ys = same_items xs ys (omega (arith, e)) (λ i a b. h (suc i) a b) in cc

-- ---- tests

-- a text that passes the test is the same, and the other way round
pub same_text : (a b : List ℕ) → bytes_eq a b ≡ true → a ≡ b
same_text a b h = (bytes_eq-Decides a b).0 h

-- equal texts pass the test
pub text_same : (a b : List ℕ) → a ≡ b → bytes_eq a b ≡ true
text_same a b h = (bytes_eq-Decides a b).1 h

-- a text passes for itself
pub text_itself : (a : List ℕ) → bytes_eq a a ≡ true
text_itself a = text_same a a refl

-- an item passes
pub any_among : {A : Type 0} (p : A → Bool) (xs : List A) → list_any p xs ≡ true → (x : A) × Among xs x × (p x ≡ true)
any_among p [] h = absurd cc
any_among {A} p (x ∷ xs) h = by (p x) refl h (any_among p xs)
  where
    by : (b : Bool) → p x ≡ b → (b || list_any p xs) ≡ true → (list_any p xs ≡ true → (y : A) × Among xs y × (p y ≡ true)) → (y : A) × Among (x ∷ xs) y × (p y ≡ true)
    by true e k again = (x, inl refl, e)
    by false e k again = let r = again k in (r.0, inr r.1, r.2)

-- where an item passes the test of some passes
pub among_any : {A : Type 0} (p : A → Bool) (xs : List A) (x : A) → Among xs x → p x ≡ true → list_any p xs ≡ true
among_any p [] x h k = absurd h
among_any p (y ∷ xs) x (inl e) k = ap (λ b. b || list_any p xs) (ap p e ∙ k)
among_any p (y ∷ xs) x (inr h) k = by (p y) (among_any p xs x h k)
  where
    by : (b : Bool) → list_any p xs ≡ true → (b || list_any p xs) ≡ true
    by true e = refl
    by false e = e

-- each item passes
pub each_among : {A : Type 0} (p : A → Bool) (xs : List A) (x : A) → list_all p xs ≡ true → Among xs x → p x ≡ true
each_among p [] x h k = absurd k
each_among p (y ∷ xs) x h k = by (p y) refl h k (each_among p xs x)
  where
    by : (b : Bool) → p y ≡ b → (b && list_all p xs) ≡ true → Among (y ∷ xs) x → (list_all p xs ≡ true → Among xs x → p x ≡ true) → p x ≡ true
    by false e q r again = absurd cc
    by true e q (inl r) again = ap p (sym r) ∙ e
    by true e q (inr r) again = again q r

-- a number stands in a list
pub number_among : (xs : List ℕ) (n : ℕ) → contains_number xs n ≡ true → Among xs n
unfolding contains_number
number_among xs n h = let r = any_among (λ x. x == n) xs h in subst (Among xs) (eq_of r.0 n r.2) r.1

-- a list whose items all give nothing
pub none_given : {A B : Type 0} (f : A → Option B) (xs : List A) (x : A) → first_some f xs ≡ None → Among xs x → f x ≡ None
unfolding first_some
none_given f [] x h k = absurd k
none_given {A} {B} f (y ∷ xs) x h k = by (f y) refl h k (none_given f xs x)
  where
    by : (o : Option B) → f y ≡ o → (elim o as (λ _. Option B) [ Some z ↦ Some z | None ↦ first_some f xs ]) ≡ None → Among (y ∷ xs) x
        → (first_some f xs ≡ None → Among xs x → f x ≡ None) → f x ≡ None
    by (Some z) e q r again = absurd cc
    by None e q (inl r) again = ap f (sym r) ∙ e
    by None e q (inr r) again = again q r

-- what holds of all items holds of each
pub of_each : {A : Type 0} (P : A → Type 0) (xs : List A) (x : A) → AllByRecursion P xs → Among xs x → P x
of_each P [] x h k = absurd k
of_each P (y ∷ xs) x h (inl e) = subst P e h.0
of_each P (y ∷ xs) x h (inr k) = of_each P xs x h.1 k

-- what holds of each item holds of all
pub of_all : {A : Type 0} (P : A → Type 0) (xs : List A) → ((x : A) → Among xs x → P x) → AllByRecursion P xs
of_all P [] h = tt
of_all P (y ∷ xs) h = (h y (inl refl), of_all P xs (λ x k. h x (inr k)))

-- ---- first places

-- at the first place that passes stands an item that passes
pub position_at : {A : Type 0} (p : A → Bool) (xs : List A) (i : ℕ) → position p xs ≡ Some i → (x : A) × (slice_get xs i ≡ Some x) × (p x ≡ true)
position_at {A} p [] i h = absurd cc
position_at {A} p (y ∷ xs) i h =
    let r = position-Some p (y ∷ xs) i y h in
    let x = at_below (y ∷ xs) i r.0 in
    (x.0, x.1, ap p (sym (got (y ∷ xs) i x.0 y x.1)) ∙ r.1)
  where
    got : (xs : List A) (i : ℕ) (x d : A) → slice_get xs i ≡ Some x → get_or xs i d ≡ x
    got xs i x d e = get_or_from_slice_get xs i x d e

-- a number below another passes the test
ltb-of : (a b : ℕ) → a < b → nat_lt a b ≡ true
ltb-of a b h = (Decides-ltb a b).1 h

-- the first place is below the length where an item passes
first_below : {A : Type 0} (p : A → Bool) (xs : List A) (x : A) → Among xs x → p x ≡ true → position_or_len p xs < length xs
first_below p [] x h k = absurd h
first_below {A} p (y ∷ xs) x h k = by (p y) refl h (first_below p xs x)
  where
    by : (b : Bool) → p y ≡ b → Among (y ∷ xs) x → (Among xs x → p x ≡ true → position_or_len p xs < length xs) → cond (not b) (1 + position_or_len p xs) 0 < suc (length xs)
    by true e q again = omega arith
    by false e (inl q) again = absurd (clash e (ap p q ∙ k))
      where
        clash : p y ≡ false → p y ≡ true → ⊥
        clash a b = cc
    by false e (inr q) again = omega (arith, again q k)

-- where there is no first place none passes
pub position_none : {A : Type 0} (p : A → Bool) (xs : List A) → position p xs ≡ None → (x : A) → Among xs x → p x ≡ true → ⊥
position_none p xs h x k e = by (nat_lt (position_or_len p xs) (length xs)) (ltb-of (position_or_len p xs) (length xs) (first_below p xs x k e)) h
  where
    by : (b : Bool) → b ≡ true → cond b (Some (position_or_len p xs)) None ≡ None → ⊥
    by true q r = absurd cc
    by false q r = absurd cc

-- where an item passes there is a first place
pub position_there : {A : Type 0} (p : A → Bool) (xs : List A) (x : A) → Among xs x → p x ≡ true → (i : ℕ) × (position p xs ≡ Some i)
position_there {A} p xs x h k = by (position p xs) refl
  where
    by : (o : Option ℕ) → position p xs ≡ o → (i : ℕ) × (position p xs ≡ Some i)
    by (Some i) e = (i, e)
    by None e = absurd (position_none p xs e x h k)

-- ---- lists without repeats

-- no item stands twice in the list
abbrev pub IsOnce : {A : Type 0} → List A → Type 0
IsOnce [] = ⊤
IsOnce (x ∷ xs) = (Among xs x → ⊥) × IsOnce xs

-- two lists without repeats that share nothing, joined
pub once_joined : {A : Type 0} (xs ys : List A) → IsOnce xs → IsOnce ys → ((x : A) → Among xs x → Among ys x → ⊥) → IsOnce (xs ++ ys)
once_joined [] ys h k apart = k
once_joined (x ∷ xs) ys h k apart =
    ((λ a. elim (among_either xs ys x a) [ inl b ↦ h.0 b | inr b ↦ apart x (inl refl) b ]), once_joined xs ys h.1 k (λ y a b. apart y (inr a) b))

-- equal values that are there
pub same_there : {A : Type 0} (x y : A) → Some x ≡ Some y → x ≡ y
same_there x y e = cc

-- in a list without repeats an item has one place
pub one_place : {A : Type 0} (xs : List A) → IsOnce xs → (i j : ℕ) (x : A) → slice_get xs i ≡ Some x → slice_get xs j ≡ Some x → i ≡ j
one_place [] h i j x e f = absurd cc
one_place (y ∷ xs) h zero zero x e f = refl
one_place (y ∷ xs) h zero (suc j) x e f = absurd (h.0 (subst (Among xs) (sym (same_there y x e)) (at_among xs j x f)))
one_place (y ∷ xs) h (suc i) zero x e f = absurd (h.0 (subst (Among xs) (sym (same_there y x f)) (at_among xs i x e)))
one_place (y ∷ xs) h (suc i) (suc j) x e f = ap suc (one_place xs h.1 i j x e f)

-- the texts stand once, in the list, and none was seen
pub record AreFirst (seen ts firsts : List (List ℕ)) : Type 0 where
  pub once : IsOnce firsts
  pub there : (t : List ℕ) → Among firsts t → Among ts t
  pub unseen : (t : List ℕ) → Among firsts t → Among seen t → ⊥
  pub all : (t : List ℕ) → Among ts t → Among firsts t ⊎ Among seen t

-- so are the first texts of a list
pub first_texts_are : (seen ts : List (List ℕ)) → AreFirst seen ts (first_texts_after seen ts)
unfolding distinct_after
first_texts_are seen [] = record { once = tt; there = λ t h. h; unseen = λ t h k. h; all = λ t h. absurd h }
first_texts_are seen (x ∷ ts) = by (list_any (bytes_eq x) seen) refl (first_texts_are seen ts) (first_texts_are (x ∷ seen) ts)
  where
    by : (b : Bool) → list_any (bytes_eq x) seen ≡ b → AreFirst seen ts (first_texts_after seen ts) → AreFirst (x ∷ seen) ts (first_texts_after (x ∷ seen) ts)
        → AreFirst seen (x ∷ ts) (if b then first_texts_after seen ts else (x ∷ first_texts_after (x ∷ seen) ts))
    by true e r s =
        let k = any_among (bytes_eq x) seen e in
        let old : Among seen x = subst (Among seen) (sym (same_text x k.0 k.2)) k.1 in
        record {
          once = r.once;
          there = λ t h. inr (r.there t h);
          unseen = r.unseen;
          all = λ t h. elim h [ inl q ↦ inr (subst (Among seen) q old) | inr q ↦ r.all t q ];
        }
    by false e r s = record {
      once = ((λ h. s.unseen x h (inl refl)), s.once);
      there = λ t h. elim h [ inl q ↦ inl q | inr q ↦ inr (s.there t q) ];
      unseen = λ t h k. elim h [ inl q ↦ new (subst (Among seen) (sym q) k) | inr q ↦ s.unseen t q (inr k) ];
      all = λ t h. elim h [ inl q ↦ inl (inl q) | inr q ↦ elim (s.all t q) [ inl p ↦ inl (inr p) | inr p ↦ elim p [ inl w ↦ inl (inl w) | inr w ↦ inr w ] ] ];
    }
      where
        new : Among seen x → ⊥
        new h = let k = among_any (bytes_eq x) seen x h (text_itself x) in absurd cc

-- a list that is its first texts has no repeats
pub texts_once : (ts : List (List ℕ)) → first_texts ts ≡ ts → IsOnce ts
unfolding distinct
texts_once ts e = subst IsOnce e (first_texts_are [] ts).once

-- the first texts of a list are its texts
pub text_there : (ts : List (List ℕ)) (t : List ℕ) → Among (first_texts ts) t → Among ts t
unfolding distinct
text_there ts t h = (first_texts_are [] ts).there t h

-- the texts of a list are among its first texts
pub text_kept : (ts : List (List ℕ)) (t : List ℕ) → Among ts t → Among (first_texts ts) t
unfolding distinct
text_kept ts t h = elim ((first_texts_are [] ts).all t h) [ inl k ↦ k | inr k ↦ absurd k ]

-- and each stands there once
pub first_once : (ts : List (List ℕ)) → IsOnce (first_texts ts)
unfolding distinct
first_once ts = (first_texts_are [] ts).once

-- ---- numbers

-- the first numbers of a list are numbers of it
pub firsts_there : (xs seen : List ℕ) (x : ℕ) → Among (firsts_after seen xs) x → Among xs x
unfolding distinct_after contains_number
firsts_there [] seen x h = h
firsts_there (y ∷ xs) seen x h = by (contains_number seen y) h (firsts_there xs seen x) (firsts_there xs (y ∷ seen) x)
  where
    by : (b : Bool) → Among (if b then firsts_after seen xs else (y ∷ firsts_after (y ∷ seen) xs)) x
        → (Among (firsts_after seen xs) x → Among xs x) → (Among (firsts_after (y ∷ seen) xs) x → Among xs x) → Among (y ∷ xs) x
    by true q r s = inr (r q)
    by false (inl q) r s = inl q
    by false (inr q) r s = inr (s q)

-- a number of a range
pub in_range : (a n x : ℕ) → a ≤ x → x < a + n → Among (range_with_len a n) x
in_range a zero x l u = absurd (omega arith)
in_range a (suc n) x l u = by (a == x) refl (in_range (a + 1) n x)
  where
    by : (b : Bool) → (a == x) ≡ b → (a + 1 ≤ x → x < a + 1 + n → Among (range_with_len (a + 1) n) x) → Among (a ∷ range_with_len (a + 1) n) x
    by true e again = inl (eq_of a x e)
    by false e again = let d = differs a x e in inr (again (omega (arith, l, d)) (omega (arith, u)))

-- ---- parts of a list

-- what stands at a place of two lists joined stands in the first or behind it
pub at_either : {A : Type 0} (xs ys : List A) (i : ℕ) (x : A) → slice_get (xs ++ ys) i ≡ Some x
    → ((i < length xs) × (slice_get xs i ≡ Some x)) ⊎ ((j : ℕ) × (i ≡ length xs + j) × (slice_get ys j ≡ Some x))
at_either [] ys i x e = inr (i, omega arith, e)
at_either (z ∷ xs) ys zero x e = inl (omega arith, e)
at_either (z ∷ xs) ys (suc i) x e = elim (at_either xs ys i x e) [
  | inl r ↦ inl (omega (arith, r.0), r.1)
  | inr r ↦ inr (r.0, omega (arith, r.1), r.2)
]

-- f of two lists joined
pub map_joined : {A B : Type 0} (f : A → B) (xs ys : List A) → map f (xs ++ ys) ≡ map f xs ++ map f ys
map_joined f [] ys = refl
map_joined f (x ∷ xs) ys = ap (λ zs. f x ∷ zs) (map_joined f xs ys)

-- the first place of an item is that of what f gives of it
pub position_map : {A B : Type 0} (f : A → B) (p : B → Bool) (xs : List A) → position (λ x. p (f x)) xs ≡ position p (map f xs)
position_map {A} {B} f p xs = cc (places xs, lengths xs)
  where
    places : (ys : List A) → position_or_len (λ x. p (f x)) ys ≡ position_or_len p (map f ys)
    places [] = refl
    places (y ∷ ys) = ap (λ n. cond (not (p (f y))) (1 + n) 0) (places ys)

    lengths : (ys : List A) → length ys ≡ length (map f ys)
    lengths [] = refl
    lengths (y ∷ ys) = ap suc (lengths ys)
