-- Lists of numbers under a function that keeps those of a list apart.
use Rattle.std.proofs.Common.{◌≡◌, refl, sym, ◌∙◌, ap, subst, ℕ, zero, suc, ◌+◌, ◌<◌, Bool, true, false, not, cond, ◌||◌, List, [], ◌∷◌, ◌++◌, length, take, Some, None, arith, if◌then◌else◌, ◌==◌, ◌⊎◌, inl, inr, slice_get, map, position}
use Rattle.std.specs.Prelude.{nat_lt}
use Rattle.std.specs.List.{position_or_len}
use Rattle.std.proofs.lemmas.List.{length-map}
use Rattle.std.proofs.lemmas.Bool.Decides.{nat_tests}
use Rattle.jx_base.specs.Basics.{contains_number, firsts, firsts_after, distinct, distinct_after}
use Rattle.std.specs.Option.{unwrap_or}
use Rattle.jx_base.proofs.BasicLaws.{eq_of, differs, same_number}
use Rattle.program_model.proofs.WalkRounds.{Has, has_head, has_tail, has_cases, has_none}

-- what a list has, its first mentions have, or it was seen
kept : (seen xs : List ℕ) (x : ℕ) → Has xs x → Has (firsts_after seen xs) x ⊎ Has seen x
unfolding distinct_after contains_number
kept seen [] x h = has_none x h
kept seen (y ∷ xs) x h = by (contains_number seen y) refl (has_cases y xs x h) (kept seen xs x) (kept (y ∷ seen) xs x)
  where
    after : Has (firsts_after (y ∷ seen) xs) x ⊎ Has (y ∷ seen) x → Has (y ∷ firsts_after (y ∷ seen) xs) x ⊎ Has seen x
    after (inl a) = inl (has_tail y (firsts_after (y ∷ seen) xs) x a)
    after (inr b) = elim (has_cases y seen x b) [
      | inl q ↦ inl (subst (λ (z : ℕ). Has (y ∷ firsts_after (y ∷ seen) xs) z) q (has_head y (firsts_after (y ∷ seen) xs)))
      | inr t ↦ inr t
    ]

    by : (c : Bool) → contains_number seen y ≡ c → (y ≡ x) ⊎ Has xs x → (Has xs x → Has (firsts_after seen xs) x ⊎ Has seen x) → (Has xs x → Has (firsts_after (y ∷ seen) xs) x ⊎ Has (y ∷ seen) x) →
        Has (if c then firsts_after seen xs else y ∷ firsts_after (y ∷ seen) xs) x ⊎ Has seen x
    by true s (inl q) p r = inr (subst (λ (z : ℕ). Has seen z) q s)
    by true s (inr t) p r = p t
    by false s (inl q) p r = inl (subst (λ (z : ℕ). Has (y ∷ firsts_after (y ∷ seen) xs) z) q (has_head y (firsts_after (y ∷ seen) xs)))
    by false s (inr t) p r = after (r t)

pub in_firsts : (xs : List ℕ) (x : ℕ) → Has xs x → Has (firsts xs) x
unfolding distinct
in_firsts xs x h = elim (kept [] xs x h) [ inl a ↦ a | inr b ↦ has_none x b ]

pub has_left : (a b : List ℕ) (x : ℕ) → Has a x → Has (a ++ b) x
has_left [] b x h = has_none x h
has_left (y ∷ a) b x h = elim (has_cases y a x h) [
  | inl q ↦ subst (λ (z : ℕ). Has (y ∷ (a ++ b)) z) q (has_head y (a ++ b))
  | inr t ↦ has_tail y (a ++ b) x (has_left a b x t)
]

pub has_right : (a b : List ℕ) (x : ℕ) → Has b x → Has (a ++ b) x
has_right [] b x h = h
has_right (y ∷ a) b x h = has_tail y (a ++ b) x (has_right a b x h)

-- ---- places

first_at : (xs : List ℕ) (r : ℕ) → Has xs r → (slice_get xs (position_or_len (λ y. y == r) xs) ≡ Some r) × (position_or_len (λ y. y == r) xs < length xs)
first_at [] r h = has_none r h
first_at (y ∷ xs) r h = by (y == r) refl (has_cases y xs r h) (first_at xs r)
  where
    by : (b : Bool) → (y == r) ≡ b → (y ≡ r) ⊎ Has xs r →
        (Has xs r → (slice_get xs (position_or_len (λ y. y == r) xs) ≡ Some r) × (position_or_len (λ y. y == r) xs < length xs)) →
        (slice_get (y ∷ xs) (cond (not b) (1 + position_or_len (λ y. y == r) xs) 0) ≡ Some r) × (cond (not b) (1 + position_or_len (λ y. y == r) xs) 0 < suc (length xs))
    by true e c again = (ap Some (eq_of y r e), omega arith)
    by false e (inl q) again = absurd (differs y r e q)
    by false e (inr t) again =
        let m = again t in
        let n : 1 + position_or_len (λ (y : ℕ). y == r) xs ≡ suc (position_or_len (λ (y : ℕ). y == r) xs) = omega arith in
        (ap (slice_get (y ∷ xs)) n ∙ m.0, omega (arith, m.1))

position_within : (p : ℕ → Bool) (xs : List ℕ) → position_or_len p xs < length xs → unwrap_or (position p xs) 0 ≡ position_or_len p xs
position_within p xs l =
    let t : nat_lt (position_or_len p xs) (length xs) ≡ true = grind (arith, nat_tests) in
    ap (λ (b : Bool). unwrap_or (cond b (Some (position_or_len p xs)) None) 0) t

-- the place of a member
pub at_place : (xs : List ℕ) (r : ℕ) → Has xs r → slice_get xs (unwrap_or (position (λ y. y == r) xs) 0) ≡ Some r
at_place xs r h =
    let m = first_at xs r h in ap (slice_get xs) (position_within (λ (y : ℕ). y == r) xs m.1) ∙ m.0

pub get_map : {A B : Type 0} (f : A → B) (xs : List A) (k : ℕ) (x : A) → slice_get xs k ≡ Some x → slice_get (map f xs) k ≡ Some (f x)
get_map f [] k x e = cc
get_map f (y ∷ xs) zero x e = let q : y ≡ x = cc in ap (λ z. Some (f z)) q
get_map f (y ∷ xs) (suc k) x e = get_map f xs k x e

pub get_from_map : {A B : Type 0} (f : A → B) (xs : List A) (k : ℕ) (y : B) → slice_get (map f xs) k ≡ Some y → (x : A) × (slice_get xs k ≡ Some x) × (f x ≡ y)
get_from_map f [] k y e = cc
get_from_map f (x ∷ xs) zero y e = (x, refl, cc)
get_from_map f (x ∷ xs) (suc k) y e = get_from_map f xs k y e

pub get_right : {A : Type 0} (xs ys : List A) (k : ℕ) → slice_get (xs ++ ys) (length xs + k) ≡ slice_get ys k
get_right [] ys k = ap (slice_get ys) (omega arith)
get_right (x ∷ xs) ys k =
    let n : suc (length xs) + k ≡ suc (length xs + k) = omega arith in
    ap (slice_get (x ∷ (xs ++ ys))) n ∙ get_right xs ys k

-- ---- images

module _ (g : ℕ → ℕ) (w : List ℕ) (apart : (x y : ℕ) → Has w x → Has w y → g x ≡ g y → x ≡ y) where
  same_tests : (x y : ℕ) → Has w x → Has w y → (g x == g y) ≡ (x == y)
  same_tests x y h k = by (x == y) refl
    where
      no : (b : Bool) → (g x == g y) ≡ b → (x == y) ≡ false → b ≡ false
      no false p q = refl
      no true p q = absurd (differs x y q (apart x y h k (eq_of (g x) (g y) p)))

      by : (b : Bool) → (x == y) ≡ b → (g x == g y) ≡ b
      by true q = ap (λ (z : ℕ). g z == g y) (eq_of x y q) ∙ same_number (g y)
      by false q = no (g x == g y) refl q

  pub contains_image : (xs : List ℕ) (x : ℕ) → ((y : ℕ) → Has xs y → Has w y) → Has w x → contains_number (map g xs) (g x) ≡ contains_number xs x
  unfolding contains_number
  contains_image [] x s h = refl
  contains_image (y ∷ xs) x s h =
      ap (λ (b : Bool). b || contains_number (map g xs) (g x)) (same_tests y x (s y (has_head y xs)) h)
      ∙ ap (λ (b : Bool). (y == x) || b) (contains_image xs x (λ z t. s z (has_tail y xs z t)) h)

  firsts_after_image : (seen xs : List ℕ) → ((y : ℕ) → Has seen y → Has w y) → ((y : ℕ) → Has xs y → Has w y) →
      firsts_after (map g seen) (map g xs) ≡ map g (firsts_after seen xs)
  unfolding distinct_after contains_number
  firsts_after_image seen [] s t = refl
  firsts_after_image seen (x ∷ xs) s t =
      let rest = λ (y : ℕ) (h : Has xs y). t y (has_tail x xs y h) in
      let more = λ (y : ℕ) (h : Has (x ∷ seen) y). elim (has_cases x seen y h) as (λ _. Has w y) [ inl q ↦ subst (λ (z : ℕ). Has w z) q (t x (has_head x xs)) | inr u ↦ s y u ] in
      ap (λ (b : Bool). if b then firsts_after (map g seen) (map g xs) else g x ∷ firsts_after (g x ∷ map g seen) (map g xs)) (contains_image seen x s (t x (has_head x xs)))
      ∙ by (contains_number seen x) (firsts_after_image seen xs s rest) (firsts_after_image (x ∷ seen) xs more rest)
    where
      by : (b : Bool) → firsts_after (map g seen) (map g xs) ≡ map g (firsts_after seen xs) → firsts_after (g x ∷ map g seen) (map g xs) ≡ map g (firsts_after (x ∷ seen) xs) →
          (if b then firsts_after (map g seen) (map g xs) else g x ∷ firsts_after (g x ∷ map g seen) (map g xs)) ≡ map g (if b then firsts_after seen xs else x ∷ firsts_after (x ∷ seen) xs)
      by true p q = p
      by false p q = ap (λ (ys : List ℕ). g x ∷ ys) q

  pub firsts_image : (xs : List ℕ) → ((y : ℕ) → Has xs y → Has w y) → firsts (map g xs) ≡ map g (firsts xs)
  unfolding distinct
  firsts_image xs t = firsts_after_image [] xs (λ y h. has_none y h) t

  place_image : (xs : List ℕ) (x : ℕ) → ((y : ℕ) → Has xs y → Has w y) → Has w x → position_or_len (λ y. y == g x) (map g xs) ≡ position_or_len (λ y. y == x) xs
  place_image [] x s h = refl
  place_image (y ∷ xs) x s h =
      ap (λ (b : Bool). cond (not b) (1 + position_or_len (λ y. y == g x) (map g xs)) 0) (same_tests y x (s y (has_head y xs)) h)
      ∙ ap (λ (n : ℕ). cond (not (y == x)) (1 + n) 0) (place_image xs x (λ z t. s z (has_tail y xs z t)) h)

  pub position_image : (x : ℕ) → Has w x → position (λ y. y == g x) (map g w) ≡ position (λ y. y == x) w
  position_image x h =
      let p = place_image w x (λ y t. t) h in let n = length-map w g in
      λ j. cond (nat_lt (p j) (n j)) (Some (p j)) None

-- what an image has
pub has_image : (g : ℕ → ℕ) (xs : List ℕ) (x : ℕ) → Has xs x → Has (map g xs) (g x)
has_image g [] x h = has_none x h
has_image g (y ∷ xs) x h = elim (has_cases y xs x h) [
  | inl q ↦ subst (λ (z : ℕ). Has (map g (y ∷ xs)) (g z)) q (has_head (g y) (map g xs))
  | inr t ↦ has_tail (g y) (map g xs) (g x) (has_image g xs x t)
]

pub take_has : (k : ℕ) (xs : List ℕ) (x : ℕ) → Has (take k xs) x → Has xs x
take_has zero xs x h = has_none x h
take_has (suc k) [] x h = has_none x h
take_has (suc k) (y ∷ xs) x h = elim (has_cases y (take k xs) x h) [
  | inl q ↦ subst (λ (z : ℕ). Has (y ∷ xs) z) q (has_head y xs)
  | inr t ↦ has_tail y xs x (take_has k xs x t)
]

-- the place of a member lies within the list
pub place_below : (xs : List ℕ) (r : ℕ) → Has xs r → unwrap_or (position (λ y. y == r) xs) 0 < length xs
place_below xs r h =
    let m = first_at xs r h in subst (λ (n : ℕ). n < length xs) (sym (position_within (λ (y : ℕ). y == r) xs m.1)) m.1
