-- An interface has a method exactly where a class of the system offers it.
use Rattle.std.proofs.Common.{◌≡◌, refl, sym, ◌∙◌, ap, ℕ, suc, zero, ◌+◌, ◌<◌, ◌≤◌, Bool, true, false, ◌||◌, ◌&&◌, List, [], ◌∷◌, length, Option, Some, None, filter, ◌==◌, slice_get, arith, cond}
use Rattle.std.specs.List.{list_any, range_with_len}
use Rattle.std.proofs.lemmas.Option.{slice_get_within}
use Rattle.jx_base.specs.declared.program.Class.{Class}
use Rattle.jx_base.specs.declared.program.Selector.{Selector}
use Rattle.jx_base.specs.declared.program.System.{System}
use Rattle.jx_base.specs.Basics.{contains_number, passes}
use Rattle.program_model.specs.Lookup.{class_at, has_method, has_own_method, is_below, is_interface, selector_at, supers_of}
use Rattle.service_methods.specs.Methods.{offers}

-- ---- tests

both : (x y : Bool) → (x ≡ true → y ≡ true) → (y ≡ true → x ≡ true) → x ≡ y
both true y f g = sym (f refl)
both false true f g = g refl
both false false f g = refl

all_three : (a b c : Bool) → (a && b && c) ≡ true → (a ≡ true) × (b ≡ true) × (c ≡ true)
all_three true true true h = (refl, refl, refl)
all_three true true false h = cc
all_three true false c h = cc
all_three false b c h = cc

-- ---- lists

-- what is kept and passes is in the list
record IsFound (p q : ℕ → Bool) (xs : List ℕ) : Type 0 where
  pub number : ℕ
  pub passes : p number ≡ true
  pub kept : q number ≡ true
  pub there : contains_number xs number ≡ true

later : (p q : ℕ → Bool) (x : ℕ) (xs : List ℕ) → IsFound p q xs → IsFound p q (x ∷ xs)
unfolding contains_number
later p q x xs f = record { number = f.number; passes = f.passes; kept = f.kept; there = by (x == f.number) f.there }
  where
    by : (b : Bool) → list_any (λ y. y == f.number) xs ≡ true → (b || list_any (λ y. y == f.number) xs) ≡ true
    by true h = refl
    by false h = h

first : (p q : ℕ → Bool) (x : ℕ) (xs : List ℕ) → p x ≡ true → q x ≡ true → IsFound p q (x ∷ xs)
unfolding contains_number
first p q x xs a b = record { number = x; passes = a; kept = b; there = ap (λ (t : Bool). t || list_any (λ y. y == x) xs) (same x) }
  where
    same : (x : ℕ) → (x == x) ≡ true
    same x = grind arith

found : (p q : ℕ → Bool) (xs : List ℕ) → list_any p (filter q xs) ≡ true → IsFound p q xs
found p q [] h = cc
found p q (x ∷ xs) h = by (q x) refl h (found p q xs)
  where
    passed : (t : Bool) → p x ≡ t → q x ≡ true → (t || list_any p (filter q xs)) ≡ true → (list_any p (filter q xs) ≡ true → IsFound p q xs) → IsFound p q (x ∷ xs)
    passed true a b h again = first p q x xs a b
    passed false a b h again = later p q x xs (again h)

    by : (k : Bool) → q x ≡ k → list_any p (cond k (x ∷ filter q xs) (filter q xs)) ≡ true → (list_any p (filter q xs) ≡ true → IsFound p q xs) → IsFound p q (x ∷ xs)
    by true b h again = passed (p x) refl b h again
    by false b h again = later p q x xs (again h)

-- and the other way round
there : (p q : ℕ → Bool) (xs : List ℕ) (c : ℕ) → p c ≡ true → q c ≡ true → contains_number xs c ≡ true → list_any p (filter q xs) ≡ true
unfolding contains_number
there p q [] c a b h = cc
there p q (x ∷ xs) c a b h = by (x == c) (equal x c) h (there p q xs c a b)
  where
    equal : (x c : ℕ) → (x == c) ≡ true → x ≡ c
    equal x c e = grind (arith, e)

    skips : (k t : Bool) → list_any p (filter q xs) ≡ true → list_any p (cond k (x ∷ filter q xs) (filter q xs)) ≡ true
    skips true t h = or_true (p x) h
      where
        or_true : (t : Bool) → list_any p (filter q xs) ≡ true → (t || list_any p (filter q xs)) ≡ true
        or_true true h = refl
        or_true false h = h
    skips false t h = h

    takes : x ≡ c → list_any p (cond (q x) (x ∷ filter q xs) (filter q xs)) ≡ true
    takes e =
        ap (λ (k : Bool). list_any p (cond k (x ∷ filter q xs) (filter q xs))) (ap q e ∙ b)
        ∙ ap (λ (t : Bool). t || list_any p (filter q xs)) (ap p e ∙ a)

    by : (t : Bool) → (t ≡ true → x ≡ c) → (t || list_any (λ y. y == c) xs) ≡ true → (list_any (λ y. y == c) xs ≡ true → list_any p (filter q xs) ≡ true) → list_any p (cond (q x) (x ∷ filter q xs) (filter q xs)) ≡ true
    by true e h again = takes (e refl)
    by false e h again = skips (q x) true (again h)

-- ---- ranges

in_range : (p : ℕ → Bool) (a n c : ℕ) → p c ≡ true → a ≤ c → c < a + n → list_any p (range_with_len a n) ≡ true
in_range p a zero c h l u = absurd (omega (arith, l, u))
in_range p a (suc n) c h l u = by (p a) refl (in_range p (a + 1) n c h)
  where
    apart : p a ≡ false → a ≡ c → ⊥
    apart f e = let q : true ≡ false = sym h ∙ sym (ap p e) ∙ f in cc

    by : (t : Bool) → p a ≡ t → (a + 1 ≤ c → c < a + 1 + n → list_any p (range_with_len (a + 1) n) ≡ true) → (t || list_any p (range_with_len (a + 1) n)) ≡ true
    by true f again = refl
    by false f again = let d : a ≡ c → ⊥ = apart f in again (omega (arith, l, d)) (omega (arith, u))

from_range : (p : ℕ → Bool) (a n : ℕ) → list_any p (range_with_len a n) ≡ true → (c : ℕ) × (p c ≡ true)
from_range p a zero h = cc
from_range p a (suc n) h = by (p a) refl h (from_range p (a + 1) n)
  where
    by : (t : Bool) → p a ≡ t → (t || list_any p (range_with_len (a + 1) n)) ≡ true → (list_any p (range_with_len (a + 1) n) ≡ true → (c : ℕ) × (p c ≡ true)) → (c : ℕ) × (p c ≡ true)
    by true f h again = (a, f)
    by false f h again = again h

-- ---- methods

-- a class that declares something is one of the system's
declaring : (s : System) (test : Class → Bool) (c : ℕ) → passes test (class_at s c) ≡ true → c < length s.program.classes
unfolding class_at passes
declaring s test c h = by (slice_get s.program.classes c) refl h
  where
    by : (o : Option Class) → slice_get s.program.classes c ≡ o → passes test o ≡ true → c < length s.program.classes
    by None q h = cc
    by (Some k) q h = slice_get_within s.program.classes c k q

module _ (s : System) (iface : ℕ) (selector : Selector) where
  abbrev declares : ℕ → Bool
  declares c = passes (has_own_method selector) (class_at s c)

  abbrev is_like : ℕ → Bool
  is_like c = (c == iface) || is_interface s c

  pub offered : list_any declares (filter is_like (supers_of s iface)) ≡ list_any (offers s iface selector) (range_with_len 0 (length s.program.classes))
  unfolding is_below
  offered = both (list_any declares (filter is_like (supers_of s iface))) (list_any (offers s iface selector) (range_with_len 0 (length s.program.classes)))
      (λ h. let f = found declares is_like (supers_of s iface) h in
      in_range (offers s iface selector) 0 (length s.program.classes) f.number
      (join (declares f.number) (is_like f.number) (contains_number (supers_of s iface) f.number) f.passes f.kept f.there)
      (omega arith) (let l = declaring s (has_own_method selector) f.number f.passes in omega (arith, l)))
      (λ h. let f = from_range (offers s iface selector) 0 (length s.program.classes) h in
      let q = all_three (declares f.0) (is_like f.0) (contains_number (supers_of s iface) f.0) f.1 in
      there declares is_like (supers_of s iface) f.0 q.0 q.1 q.2)
    where
      join : (a b c : Bool) → a ≡ true → b ≡ true → c ≡ true → (a && b && c) ≡ true
      join true true true p q r = refl
      join true true false p q r = cc
      join true false c p q r = cc
      join false b c p q r = cc

-- without such a selector it has none
pub no_selector : (s : System) (iface m : ℕ) → selector_at s m ≡ None → has_method s iface m ≡ false
unfolding has_method passes
no_selector s iface m q =
    ap (λ (o : Option Selector). list_any (λ c. passes (λ x. passes (has_own_method x) (class_at s c)) o) (filter (λ c. (c == iface) || is_interface s c) (supers_of s iface))) q
    ∙ none (filter (λ c. (c == iface) || is_interface s c) (supers_of s iface))
  where
    none : (xs : List ℕ) → list_any (λ c. false) xs ≡ false
    none [] = refl
    none (x ∷ xs) = none xs

-- with one it has what is offered
pub with_selector : (s : System) (iface m : ℕ) (selector : Selector) → selector_at s m ≡ Some selector →
    has_method s iface m ≡ list_any (offers s iface selector) (range_with_len 0 (length s.program.classes))
unfolding has_method passes
with_selector s iface m selector q =
    ap (λ (o : Option Selector). list_any (λ c. passes (λ x. passes (has_own_method x) (class_at s c)) o) (filter (λ c. (c == iface) || is_interface s c) (supers_of s iface))) q
    ∙ offered s iface selector
