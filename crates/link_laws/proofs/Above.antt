-- The classes of a template above a class: no way up comes back.
use Rattle.std.proofs.Common.{◌≡◌, ℕ, zero, suc, ◌+◌, ◌-◌, ◌≤◌, ◌⊎◌, inl, inr, Bool, true, false, List, [], ◌∷◌, length, Option, Some, None, slice_get, refl, sym, ap, ◌∙◌, subst, arith}
use Rattle.std.specs.Prelude.{cond, if◌then◌else◌, ◌==◌}
use Rattle.std.specs.List.{find, position}
use Rattle.std.specs.Str.{bytes_eq}
use Rattle.jx_base.specs.declared.class_file.ClassFile.{ClassFile}
use Rattle.jx_base.specs.declared.program.Plan.{Plan}
use Rattle.jx_base.specs.declared.program.Template.{Template}
use Rattle.link_model.specs.LinkFaults.{next_above, all_above, is_above_itself}
use Rattle.jx_base.specs.Basics.{firsts_after, firsts, contains_number, distinct, distinct_after}
use Rattle.jx_base.proofs.BasicLaws.{same_number}
use Rattle.link_laws.proofs.Lists.{Among, IsOnce, among_front, among_behind, among_either, among_flat, from_flat, at_among, among_any, one_place, position_at, position_there, same_text, same_there, text_itself, number_among, firsts_there}

-- ---- counting

-- a list without one of its items
without : (ys : List ℕ) (x : ℕ) → Among ys x → (zs : List ℕ) × (length ys ≡ suc (length zs)) × ((z : ℕ) → Among ys z → (x ≡ z → ⊥) → Among zs z)
without [] x h = absurd h
without (y ∷ ys) x (inl e) = (ys, refl, λ z h n. elim h [ inl q ↦ absurd (n (sym e ∙ q)) | inr q ↦ q ])
without (y ∷ ys) x (inr h) =
    let r = without ys x h in
    (y ∷ r.0, ap suc r.1, λ z k n. elim k [ inl q ↦ inl q | inr q ↦ inr (r.2 z q n) ])

-- a list without repeats is no longer than one that has its items
pub no_longer : (xs ys : List ℕ) → IsOnce xs → ((x : ℕ) → Among xs x → Among ys x) → length xs ≤ length ys
no_longer [] ys h all = omega arith
no_longer (x ∷ xs) ys h all =
    let r = without ys x (all x (inl refl)) in
    let k = no_longer xs r.0 h.1 (λ z a. r.2 z (all z (inr a)) (λ e. h.0 (subst (Among xs) (sym e) a))) in
    omega (arith, r.1, k)

-- ---- first numbers and finds

-- a number that stands in a list is contained in it
pub number_there : (xs : List ℕ) (n : ℕ) → Among xs n → contains_number xs n ≡ true
unfolding contains_number
number_there xs n h = among_any (λ x. x == n) xs n h (same_number n)

-- a number of a list is one of its first numbers, or was seen
firsts_kept : (xs seen : List ℕ) (x : ℕ) → Among xs x → Among (firsts_after seen xs) x ⊎ Among seen x
unfolding distinct_after contains_number
firsts_kept [] seen x h = absurd h
firsts_kept (y ∷ xs) seen x h = by (contains_number seen y) refl h (firsts_kept xs seen x) (firsts_kept xs (y ∷ seen) x)
  where
    by : (b : Bool) → contains_number seen y ≡ b → Among (y ∷ xs) x → (Among xs x → Among (firsts_after seen xs) x ⊎ Among seen x)
        → (Among xs x → Among (firsts_after (y ∷ seen) xs) x ⊎ Among (y ∷ seen) x)
        → Among (if b then firsts_after seen xs else (y ∷ firsts_after (y ∷ seen) xs)) x ⊎ Among seen x
    by true e (inl q) r t = inr (subst (Among seen) q (number_among seen y e))
    by true e (inr q) r t = r q
    by false e (inl q) r t = inl (inl q)
    by false e (inr q) r t = elim (t q) [ inl k ↦ inl (inr k) | inr k ↦ elim k [ inl w ↦ inl (inl w) | inr w ↦ inr w ] ]

-- a number of a list is one of its first numbers
pub first_kept : (xs : List ℕ) (x : ℕ) → Among xs x → Among (firsts xs) x
unfolding distinct
first_kept xs x h = elim (firsts_kept xs [] x h) [ inl k ↦ k | inr k ↦ absurd k ]

-- the first numbers of a list are in it
pub first_there : (xs : List ℕ) (x : ℕ) → Among (firsts xs) x → Among xs x
unfolding distinct
first_there xs x h = firsts_there xs [] x h

-- the first numbers of a list stand once, and none was seen
firsts_apart : (xs seen : List ℕ) → IsOnce (firsts_after seen xs) × ((x : ℕ) → Among (firsts_after seen xs) x → Among seen x → ⊥)
unfolding distinct_after contains_number
firsts_apart [] seen = (tt, λ x a. absurd a)
firsts_apart (y ∷ xs) seen = by (contains_number seen y) refl (firsts_apart xs seen) (firsts_apart xs (y ∷ seen))
  where
    by : (b : Bool) → contains_number seen y ≡ b → IsOnce (firsts_after seen xs) × ((x : ℕ) → Among (firsts_after seen xs) x → Among seen x → ⊥)
        → IsOnce (firsts_after (y ∷ seen) xs) × ((x : ℕ) → Among (firsts_after (y ∷ seen) xs) x → Among (y ∷ seen) x → ⊥)
        → IsOnce (if b then firsts_after seen xs else (y ∷ firsts_after (y ∷ seen) xs))
        × ((x : ℕ) → Among (if b then firsts_after seen xs else (y ∷ firsts_after (y ∷ seen) xs)) x → Among seen x → ⊥)
    by true e r t = r
    by false e r t =
        (((λ a. t.1 y a (inl refl)), t.0), λ x a b. elim a [ inl q ↦ new (subst (Among seen) (sym q) b) | inr q ↦ t.1 x q (inr b) ])
      where
        new : Among seen y → ⊥
        new a = let k = number_there seen y a in absurd cc

-- so they do in a list of which none was seen
pub firsts_once : (xs : List ℕ) → IsOnce (firsts xs)
unfolding distinct
firsts_once xs = (firsts_apart xs []).0

-- what is found is an item that passes
pub find_some : {A : Type 0} (p : A → Bool) (xs : List A) (x : A) → find p xs ≡ Some x → Among xs x × (p x ≡ true)
find_some p [] x h = absurd cc
find_some {A} p (y ∷ xs) x h = by (p y) refl h (find_some p xs x)
  where
    by : (b : Bool) → p y ≡ b → cond b (Some y) (find p xs) ≡ Some x → (find p xs ≡ Some x → Among xs x × (p x ≡ true)) → Among (y ∷ xs) x × (p x ≡ true)
    by true e k again = let q = same_there y x k in (inl q, ap p (sym q) ∙ e)
    by false e k again = let r = again k in (inr r.0, r.1)

-- where nothing is found no item passes
pub find_none : {A : Type 0} (p : A → Bool) (xs : List A) (x : A) → find p xs ≡ None → Among xs x → p x ≡ false
find_none p [] x h k = absurd k
find_none {A} p (y ∷ xs) x h k = by (p y) refl h k (find_none p xs x)
  where
    by : (b : Bool) → p y ≡ b → cond b (Some y) (find p xs) ≡ None → Among (y ∷ xs) x → (find p xs ≡ None → Among xs x → p x ≡ false) → p x ≡ false
    by true e q r again = absurd cc
    by false e q (inl r) again = ap p (sym r) ∙ e
    by false e q (inr r) again = again q r

-- where an item passes something is found
pub find_there : {A : Type 0} (p : A → Bool) (xs : List A) (x : A) → Among xs x → p x ≡ true → (y : A) × (find p xs ≡ Some y)
find_there {A} p xs x h k = by (find p xs) refl
  where
    by : (o : Option A) → find p xs ≡ o → (y : A) × (find p xs ≡ Some y)
    by (Some y) e = (y, e)
    by None e = let n = find_none p xs x e h in absurd cc

-- the place of a text in a list without repeats
pub position_once : (xs : List (List ℕ)) (i : ℕ) (x : List ℕ) → IsOnce xs → slice_get xs i ≡ Some x → position (bytes_eq x) xs ≡ Some i
position_once xs i x once e =
    let r = position_there (bytes_eq x) xs x (at_among xs i x e) (text_itself x) in
    let k = position_at (bytes_eq x) xs r.0 r.1 in
    r.1 ∙ ap Some (one_place xs once r.0 i x (k.1 ∙ ap Some (sym (same_text x k.0 k.2))) e)

-- ---- the ways up

module _ (plan : Plan) (files : List ClassFile) (t : Template) where
  -- what stands right above is above
  pub above_next : (p k q : ℕ) → Among (next_above plan files t p) q → Among (all_above plan files t p (suc k)) q
  unfolding all_above
  above_next p k q h = first_kept _ q (among_front (next_above plan files t p) _ q h)

  -- what stands right above one above is above
  pub above_more : (p k q r : ℕ) → Among (all_above plan files t p k) q → Among (next_above plan files t q) r → Among (all_above plan files t p (suc k)) r
  unfolding all_above
  above_more p k q r h n = first_kept _ r (among_behind (next_above plan files t p) _ r (among_flat (next_above plan files t) (all_above plan files t p k) q r h n))

  -- more rounds lead to no less
  above_stays : (p k q : ℕ) → Among (all_above plan files t p k) q → Among (all_above plan files t p (suc k)) q
  unfolding all_above
  above_stays p zero q h = absurd h
  above_stays p (suc k) q h = elim (among_either (next_above plan files t p) _ q (first_there _ q h)) [
    | inl a ↦ above_next p (suc k) q a
    | inr a ↦ let r = from_flat (next_above plan files t) (all_above plan files t p k) q a in above_more p (suc k) r.0 q (above_stays p k r.0 r.1) r.2
  ]

  -- nor do many rounds more
  pub above_within : (p k j q : ℕ) → Among (all_above plan files t p k) q → Among (all_above plan files t p (j + k)) q
  above_within p k zero q h = subst (λ n. Among (all_above plan files t p n) q) (omega arith) h
  above_within p k (suc j) q h = subst (λ n. Among (all_above plan files t p n) q) (shift j k) (above_stays p (j + k) q (above_within p k j q h))
    where
      shift : (j k : ℕ) → suc (j + k) ≡ suc j + k
      shift j k = omega arith

  -- a class that comes back within the rounds is above itself
  pub comes_back : (p k : ℕ) → k ≤ length t.classes → Among (all_above plan files t p k) p → is_above_itself plan files t p ≡ true
  unfolding is_above_itself contains_number
  comes_back p k le h =
      among_any (λ x. x == p) (all_above plan files t p (length t.classes)) p
      (subst (λ n. Among (all_above plan files t p n) p) (whole (length t.classes) k le) (above_within p k (length t.classes - k) p h)) (same_number p)
    where
      whole : (n k : ℕ) → k ≤ n → (n - k) + k ≡ n
      whole n k le = omega arith
