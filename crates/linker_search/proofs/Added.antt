-- Numbers that are added, each once.
use Rattle.std.proofs.Common.{◌≡◌, ◌∙◌, refl, sym, ap, ℕ, Bool, true, false, ◌||◌, List, [], ◌∷◌, ◌++◌, Option, Some, None, nat_eq, true≢false, append_assoc, if◌then◌else◌}
use Rattle.std.specs.Prelude.{flat_map}
use Rattle.std.specs.List.{list_any}
use Rattle.std.specs.Option.{option_or}
use Rattle.std.proofs.lemmas.List.{append-nil}
use Rattle.std.proofs.lemmas.List.Folds.{list_any-append}
use Rattle.jx_base.specs.Basics.{added, all_added, first_some}
use Rattle.jx_base.proofs.BasicLaws.{eq_of, same_number}
use Rattle.linker_search.specs.Walked.{has}

-- one of two tests passes where the first does
pub left : (a b : Bool) → a ≡ true → (a || b) ≡ true
left true b h = refl
left false b h = absurd (true≢false (sym h))

-- and where the second does
pub right : (a b : Bool) → b ≡ true → (a || b) ≡ true
right true b h = refl
right false b h = h

-- a list has what one that passes more has
pub any_more : {A : Type 0} (p q : A → Bool) → ((x : A) → p x ≡ true → q x ≡ true) → (xs : List A) → list_any p xs ≡ true → list_any q xs ≡ true
any_more p q more [] h = h
any_more p q more (x ∷ xs) h = by (p x) refl (any_more p q more xs)
  where
    by : (b : Bool) → p x ≡ b → (list_any p xs ≡ true → list_any q xs ≡ true) → (q x || list_any q xs) ≡ true
    by true e again = left (q x) (list_any q xs) (more x e)
    by false e again = right (q x) (list_any q xs) (again (ap (λ b. b || list_any p xs) (sym e) ∙ h))

-- what lists that are put together have
pub any_flat : {A B : Type 0} (p : B → Bool) (f : A → List B) (xs : List A) → list_any p (flat_map f xs) ≡ list_any (λ x. list_any p (f x)) xs
any_flat p f [] = refl
any_flat p f (x ∷ xs) = list_any-append p (f x) (flat_map f xs) ∙ ap (λ b. list_any p (f x) || b) (any_flat p f xs)

-- what was there stays
pub kept : (xs : List ℕ) (x n : ℕ) → has xs n ≡ true → has (added nat_eq xs x) n ≡ true
unfolding added
kept xs x n h = by (has xs x) refl
  where
    by : (b : Bool) → has xs x ≡ b → has (if b then xs else xs ++ x ∷ []) n ≡ true
    by true e = h
    by false e = list_any-append (nat_eq n) xs (x ∷ []) ∙ left (has xs n) (has (x ∷ []) n) h

-- what is added is there
pub comes : (xs : List ℕ) (x : ℕ) → has (added nat_eq xs x) x ≡ true
unfolding added
comes xs x = by (has xs x) refl
  where
    by : (b : Bool) → has xs x ≡ b → has (if b then xs else xs ++ x ∷ []) x ≡ true
    by true e = e
    by false e = list_any-append (nat_eq x) xs (x ∷ []) ∙ right (has xs x) (has (x ∷ []) x) (left (nat_eq x x) false (same_number x))

-- what is there is not added
pub stays : (xs : List ℕ) (x : ℕ) → has xs x ≡ true → added nat_eq xs x ≡ xs
unfolding added
stays xs x h = ap (λ b. if b then xs else xs ++ x ∷ []) h

-- what is not is added behind
pub grows : (xs : List ℕ) (x : ℕ) → has xs x ≡ false → added nat_eq xs x ≡ xs ++ x ∷ []
unfolding added
grows xs x h = ap (λ b. if b then xs else xs ++ x ∷ []) h

-- none are added where all are there
pub all_stay : (xs ys : List ℕ) → ((n : ℕ) → has ys n ≡ true → has xs n ≡ true) → all_added nat_eq xs ys ≡ xs
unfolding all_added
all_stay xs [] h = refl
all_stay xs (y ∷ ys) h =
    ap (λ zs. all_added nat_eq zs ys) (stays xs y (h y (left (nat_eq y y) (has ys y) (same_number y))))
    ∙ all_stay xs ys (λ n e. h n (right (nat_eq n y) (has ys n) e))

-- ---- the first item of which there is something

module _ {B : Type 0} (f : ℕ → Option B) where
  -- that of two lists
  pub first_append : (xs ys : List ℕ) → first_some f (xs ++ ys) ≡ option_or (first_some f xs) (first_some f ys)
  unfolding first_some
  first_append [] ys = refl
  first_append (x ∷ xs) ys = by (f x) (first_append xs ys)
    where
      by : (o : Option B) → first_some f (xs ++ ys) ≡ option_or (first_some f xs) (first_some f ys) → elim o [ Some y ↦ Some y | None ↦ first_some f (xs ++ ys) ] ≡ option_or (elim o [ Some y ↦ Some y | None ↦ first_some f xs ]) (first_some f ys)
      by (Some y) again = refl
      by None again = again

  -- a number that was there already gives nothing new
  repeated : (xs : List ℕ) (x : ℕ) → has xs x ≡ true → option_or (first_some f xs) (first_some f (x ∷ [])) ≡ first_some f xs
  unfolding first_some
  repeated [] x h = absurd (true≢false (sym h))
  repeated (z ∷ zs) x h = by (f z) (nat_eq x z) refl refl (repeated zs x)
    where
      none : (o p : Option B) → p ≡ None → option_or o (elim p [ Some y ↦ Some y | None ↦ None ]) ≡ o
      none (Some y) p e = refl
      none None None e = refl
      none None (Some y) e = e

      by : (o : Option B) (b : Bool) → f z ≡ o → nat_eq x z ≡ b
          → (has zs x ≡ true → option_or (first_some f zs) (first_some f (x ∷ [])) ≡ first_some f zs)
          → option_or (elim o [ Some y ↦ Some y | None ↦ first_some f zs ]) (first_some f (x ∷ [])) ≡ elim o [ Some y ↦ Some y | None ↦ first_some f zs ]
      by (Some y) b p q again = refl
      by None true p q again = none (first_some f zs) (f x) (ap f (eq_of x z q) ∙ p)
      by None false p q again = again (ap (λ b. b || has zs x) (sym q) ∙ h)

  -- one number more
  first_added : (xs : List ℕ) (x : ℕ) → first_some f (added nat_eq xs x) ≡ first_some f (xs ++ x ∷ [])
  first_added xs x = by (has xs x) refl
    where
      by : (b : Bool) → has xs x ≡ b → first_some f (added nat_eq xs x) ≡ first_some f (xs ++ x ∷ [])
      by true e = ap (first_some f) (stays xs x e) ∙ sym (repeated xs x e) ∙ sym (first_append xs (x ∷ []))
      by false e = ap (first_some f) (grows xs x e)

  -- repeats don't change it
  pub first_of_all : (xs ys : List ℕ) → first_some f (all_added nat_eq xs ys) ≡ first_some f (xs ++ ys)
  unfolding all_added
  first_of_all xs [] = ap (first_some f) (sym (append-nil xs))
  first_of_all xs (y ∷ ys) =
      first_of_all (added nat_eq xs y) ys ∙ first_append (added nat_eq xs y) ys
      ∙ ap (λ o. option_or o (first_some f ys)) (first_added xs y) ∙ sym (first_append (xs ++ y ∷ []) ys)
      ∙ ap (first_some f) (append_assoc xs (y ∷ []) ys)

-- ---- steps of adding

-- nothing is added
pub none_added : (xs : List ℕ) → xs ≡ all_added nat_eq xs []
unfolding all_added
none_added xs = refl

-- one, then the others
pub all_next : (xs : List ℕ) (x : ℕ) (ys : List ℕ) → all_added nat_eq (added nat_eq xs x) ys ≡ all_added nat_eq xs (x ∷ ys)
unfolding all_added
all_next xs x ys = refl
