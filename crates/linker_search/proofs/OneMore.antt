-- Places with one item more.
use Rattle.std.proofs.Common.{◌≡◌, ◌∙◌, refl, sym, ap, ℕ, zero, suc, ◌+◌, ◌<◌, ◌==◌, Bool, true, false, List, [], ◌∷◌, ◌++◌, length, position, take, get_or, slice_get, Option, Some, None, arith, if◌then◌else◌}
use Rattle.std.specs.Prelude.{◌&&◌}
use Rattle.std.specs.Option.{option_and_then, option_map, option_or}
use Rattle.std.proofs.Math.Seq.{take-suc}
use Rattle.std.proofs.lemmas.List.{length-take-le}
use Rattle.jx_base.proofs.BasicLaws.{differs, eq_of}
use Rattle.std.proofs.lemmas.Bool.Decides.{nat_tests}
use Rattle.linker_outline.specs.Indexed.{place_or}
use Rattle.linker_outline.proofs.Positions.{position_push}

-- the first items of a list, with one more
pub take_next : {A : Type 0} (xs : List A) (i : ℕ) (x : A) → i < length xs → x ≡ get_or xs i x → take (i + 1) xs ≡ take i xs ++ x ∷ []
take_next xs i x le is = ap (λ n. take n xs) (next i) ∙ take-suc xs i x le ∙ ap (λ z. take i xs ++ z ∷ []) (sym is)
  where
    next : (i : ℕ) → i + 1 ≡ suc i
    next i = omega arith

-- the place of the first that passes, with one more
pub position_next : {A : Type 0} (p : A → Bool) (xs : List A) (i : ℕ) (x : A) → i < length xs → x ≡ get_or xs i x → position p (take (i + 1) xs) ≡ place_or (position p (take i xs)) (p x) i
position_next p xs i x le is =
    ap (position p) (take_next xs i x le is) ∙ position_push p (take i xs) x
    ∙ ap (place_or (position p (take i xs)) (p x)) (length-take-le i xs (omega (arith, le)))

-- what isn't noted changes nothing
pub not_noted : (o : Option ℕ) (place : ℕ) → place_or o false place ≡ o
not_noted (Some i) place = refl
not_noted None place = refl

-- nothing more
or_none : (o : Option ℕ) → option_or o None ≡ o
or_none (Some i) = refl
or_none None = refl

-- behind what was noted before, one item more of a class
pub further : (old : Option ℕ) (b : Bool) (o : Option ℕ) (t : Bool) (i : ℕ) → place_or (option_or old (if b then o else None)) (b && t) i ≡ option_or old (if b then place_or o t i else None)
further (Some j) b o t i = refl
further None true o t i = refl
further None false o t i = refl

-- the same with places that are counted from another one
pub further_from : (n : ℕ) (old : Option ℕ) (b : Bool) (o : Option ℕ) (t : Bool) (i : ℕ)
    → place_or (option_or old (if b then option_map (λ k. n + k) o else None)) (b && t) (n + i) ≡ option_or old (if b then option_map (λ k. n + k) (place_or o t i) else None)
further_from n (Some j) b o t i = refl
further_from n None true (Some k) t i = refl
further_from n None true None true i = refl
further_from n None true None false i = refl
further_from n None false o t i = refl

-- of the class alone one needs to know it
pub at_class : (i c : ℕ) (o p : Option ℕ) → (i ≡ c → o ≡ p) → (if i == c then o else None) ≡ (if i == c then p else None)
at_class i c o p same = by (i == c) refl
  where
    by : (b : Bool) → (i == c) ≡ b → (if b then o else None) ≡ (if b then p else None)
    by true h = same (eq_of i c h)
    by false h = refl

-- a later number isn't the first
later : (c : ℕ) → (0 == suc c) ≡ false
later c = grind (arith, nat_tests)

-- nor the other way round
earlier : (c : ℕ) → (suc c == 0) ≡ false
earlier c = grind (arith, nat_tests)

-- numbers are one where those behind them are
behind : (i c : ℕ) → (suc i == suc c) ≡ (i == c)
behind i c = by (i == c) (suc i == suc c) refl refl
  where
    by : (a b : Bool) → (i == c) ≡ a → (suc i == suc c) ≡ b → b ≡ a
    by true true p q = refl
    by false false p q = refl
    by true false p q = absurd (differs (suc i) (suc c) q (ap suc (eq_of i c p)))
    by false true p q = absurd (differs i c p (omega (arith, eq_of (suc i) (suc c) q)))

module _ {A : Type 0} (place : A → Option ℕ) where
  -- what the first classes have, with the class of a place and those before it
  with_class : (xs : List A) (i c : ℕ) (x : A) → i < length xs → x ≡ get_or xs i x
      → option_or (option_and_then place (slice_get (take i xs) c)) (if i == c then place x else None) ≡ option_and_then place (slice_get (take (suc i) xs) c)
  with_class [] i c x le is = absurd (omega (arith, le))
  with_class (y ∷ xs) zero zero x le is = ap place is
  with_class (y ∷ xs) zero (suc c) x le is = ap (λ b. if b then place x else None) (later c)
  with_class (y ∷ xs) (suc i) zero x le is =
      ap (λ b. option_or (place y) (if b then place x else None)) (earlier i) ∙ or_none (place y)
  with_class (y ∷ xs) (suc i) (suc c) x le is =
      ap (λ b. option_or (option_and_then place (slice_get (take i xs) c)) (if b then place x else None)) (behind i c)
      ∙ with_class xs i c x (omega (arith, le)) is

  -- what the first classes have, with one class more
  pub class_next : (xs : List A) (i c : ℕ) (x : A) → i < length xs → x ≡ get_or xs i x
      → option_or (option_and_then place (slice_get (take i xs) c)) (if i == c then place x else None) ≡ option_and_then place (slice_get (take (i + 1) xs) c)
  class_next xs i c x le is = with_class xs i c x le is ∙ ap (λ n. option_and_then place (slice_get (take n xs) c)) (next i)
    where
      next : (i : ℕ) → suc i ≡ i + 1
      next i = omega arith
