-- Names of classes, compared in parts, and the numbers of named classes.
use Rattle.std.proofs.Common.{◌≡◌, ℕ, ◌<◌, ◌≤◌, ◌^◌, Bool, true, false, List, [], ◌∷◌, ◌++◌, length, Option, Some, None, refl, sym, ap, ◌∙◌, arith, slice_get}
use Rattle.std.specs.Prelude.{IfSome, find, nat_lt, nat_eq, ◌&&◌, if◌then◌else◌}
use Rattle.std.specs.List.{position, position_or_len}
use Rattle.std.specs.Option.{option_and_then}
use Rattle.std.specs.Str.{bytes_eq}
use Rattle.std.proofs.lemmas.Bool.Decides.{nat_tests}
use Rattle.std.proofs.lemmas.List.Folds.{find_at}
use Rattle.std.proofs.lemmas.Option.{slice_get_past}
use Rattle.jx_base.proofs.BasicLaws.{and_false}
use Rattle.jx_base.specs.declared.program.System.{System}
use Rattle.program_model.specs.Lookup.{class_count, class_named}

shorter : (name : List ℕ) (last : ℕ) → bytes_eq [] (name ++ last ∷ []) ≡ false
shorter [] last = refl
shorter (u ∷ name) last = refl

longer : (front : List ℕ) (last : ℕ) → bytes_eq (front ++ last ∷ []) [] ≡ false
longer [] last = refl
longer (u ∷ front) last = refl

-- what stands in front of an equal end
ends_equal : (front name : List ℕ) → bytes_eq (front ++ 59 ∷ []) (name ++ 59 ∷ []) ≡ bytes_eq front name
ends_equal [] [] = refl
ends_equal [] (u ∷ name) = ap (λ b. nat_eq 59 u && b) (shorter name 59) ∙ and_false (nat_eq 59 u)
ends_equal (u ∷ front) [] = ap (λ b. nat_eq u 59 && b) (longer front 59) ∙ and_false (nat_eq u 59)
ends_equal (u ∷ front) (v ∷ name) = ap (λ b. nat_eq u v && b) (ends_equal front name)

pub ended : (units front name : List ℕ) (last : ℕ) → units ≡ front ++ last ∷ [] → last ≡ 59 → bytes_eq front name ≡ bytes_eq units (name ++ 59 ∷ [])
ended units front name last e h = sym (ap (λ (us : List ℕ). bytes_eq us (name ++ 59 ∷ [])) (e ∙ ap (λ (u : ℕ). front ++ u ∷ []) h) ∙ ends_equal front name)

no_end : (last : ℕ) → (last ≡ 59 → ⊥) → nat_eq last 59 ≡ false
no_end last h = grind (arith, nat_tests)

ends_differ : (front name : List ℕ) (last : ℕ) → (last ≡ 59 → ⊥) → bytes_eq (front ++ last ∷ []) (name ++ 59 ∷ []) ≡ false
ends_differ [] [] last h = ap (λ b. b && true) (no_end last h)
ends_differ [] (u ∷ name) last h = ap (λ b. nat_eq last u && b) (shorter name 59) ∙ and_false (nat_eq last u)
ends_differ (u ∷ front) [] last h = ap (λ b. nat_eq u 59 && b) (longer front last) ∙ and_false (nat_eq u 59)
ends_differ (u ∷ front) (v ∷ name) last h = ap (λ b. nat_eq u v && b) (ends_differ front name last h) ∙ and_false (nat_eq u v)

pub not_ended : (units front name : List ℕ) (last : ℕ) → units ≡ front ++ last ∷ [] → (last ≡ 59 → ⊥) → nat_eq last 59 ≡ bytes_eq units (name ++ 59 ∷ [])
not_ended units front name last e h = no_end last h ∙ sym (ap (λ (us : List ℕ). bytes_eq us (name ++ 59 ∷ [])) e ∙ ends_differ front name last h)

-- ---- places of items

placed : (b : Bool) (n : ℕ) (k : ℕ) → (if b then Some n else None) ≡ Some k → (b ≡ true) × (n ≡ k)
placed true n k e = (refl, cc)
placed false n k e = absurd cc

pub within : {A : Type 0} (p : A → Bool) (xs : List A) (i : ℕ) → position p xs ≡ Some i → i < length xs
within p xs i e =
    let h = placed (nat_lt (position_or_len p xs) (length xs)) (position_or_len p xs) i e in
    let less : position_or_len p xs < length xs = grind (arith, nat_tests) in
    omega (arith, less, h.1)

if_some : (o : Option ℕ) (n m : ℕ) → ((i : ℕ) → o ≡ Some i → i < n) → n < m → IfSome o (λ c. c < m)
if_some None n m h l = tt
if_some (Some i) n m h l = omega (arith, h i refl, l)

pub named_small : (s : System) (name : List ℕ) (o : Option ℕ) → o ≡ class_named s name → class_count s < 2 ^ 32 → IfSome o (λ c. c < 2 ^ 32)
unfolding class_named class_count
named_small s name o e l = if_some o (length s.program.classes) (2 ^ 32) (λ i f. within _ s.program.classes i (sym e ∙ f)) l

pub find_place : {A : Type 0} (p : A → Bool) (xs : List A) → find p xs ≡ option_and_then (slice_get xs) (position p xs)
find_place p xs = find_at p xs ∙ by (nat_lt (position_or_len p xs) (length xs)) refl
  where
    by : (b : Bool) → nat_lt (position_or_len p xs) (length xs) ≡ b → slice_get xs (position_or_len p xs) ≡ option_and_then (slice_get xs) (if b then Some (position_or_len p xs) else None)
    by true e = refl
    by false e =
        let far : length xs ≤ position_or_len p xs = grind (arith, nat_tests) in
        slice_get_past xs (position_or_len p xs) far
