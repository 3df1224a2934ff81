-- Values that are taken off a stack one by one, and fit parameters one by one.
use Rattle.std.proofs.Common.{◌≡◌, refl, sym, ◌∙◌, ap, arith, ℕ, zero, suc, ◌-◌, ◌<◌, ◌≤◌, Bool, true, false, ◌&&◌, List, [], ◌∷◌, ◌++◌, length, take, drop, reverse, get_or, Option, Some, None, slice_get}
use Rattle.std.specs.Prelude.{◌==◌, not, IfSome, IfNone, if◌then◌else◌}
use Rattle.std.specs.Option.{is_some}
use Rattle.std.proofs.lemmas.List.{length-append, reverse-append}
use Rattle.jx_base.specs.declared.program.System.{System}
use Rattle.jx_base.specs.declared.value.Value.{Value}
use Rattle.machine_model.specs.NumericRows.{Stack}
use Rattle.machine_model.specs.ObjectRows.{all_fit}
use Rattle.machine_model.specs.State.{Store, shape_of}
use Rattle.program_model.specs.Lookup.{shape_fits}
use Rattle.program_model.specs.Types.{Scan, Signature, parameter_types, scan_with, signature_from, signature_of, with_parameters}

-- the value that has a others above it comes before those
drop_taken : (a n : ℕ) (s : Stack) (v : Value) → a < n → slice_get s a ≡ Some v → drop a (take n s) ≡ v ∷ drop (suc a) (take n s)
drop_taken zero zero s v l e = absurd (omega (arith, l))
drop_taken zero (suc n) [] v l e = cc
drop_taken zero (suc n) (w ∷ s) v l e = let q : w ≡ v = cc in ap (λ (w : Value). w ∷ take n s) q
drop_taken (suc a) zero s v l e = absurd (omega (arith, l))
drop_taken (suc a) (suc n) [] v l e = cc
drop_taken (suc a) (suc n) (w ∷ s) v l e = drop_taken a n s v (omega (arith, l)) e

-- one value more
pub one_more : (a b n : ℕ) (s : Stack) (v : Value) (xs ys : List Value) → suc b ≡ a → a ≤ n → slice_get s b ≡ Some v → xs ≡ reverse (drop a (take n s)) → ys ≡ xs ++ v ∷ []
    → ys ≡ reverse (drop b (take n s))
one_more a b n s v xs ys i k e x y =
    let front = drop_taken b n s v (omega (arith, k, i)) e ∙ ap (λ (k : ℕ). v ∷ drop k (take n s)) i in
    y ∙ ap (λ (zs : List Value). zs ++ v ∷ []) x ∙ sym (ap reverse front ∙ reverse-append (v ∷ []) (drop a (take n s)))

-- there is such a value
pub reaches : (s : Stack) (i : ℕ) (v : Value) → slice_get s i ≡ Some v → i < length s
reaches [] i v e = cc
reaches (w ∷ s) zero v e = omega arith
reaches (w ∷ s) (suc i) v e = let l = reaches s i v e in omega (arith, l)

-- so all values are there
pub all_there : (a b n l : ℕ) → suc b ≡ a → a ≤ n → (a < n → n ≤ l) → b < l → n ≤ l
all_there a b n l e k h m = grind arith

module _ (s : System) (store : Store) (loose : Bool) where
  -- no parameter is left for the value
  pub value_left : (vs : List Value) (types : List (List ℕ)) (i : ℕ) → i < length vs → types ≡ [] → false ≡ all_fit s loose store (drop i vs) types
  unfolding all_fit
  value_left [] types i l e = absurd (omega (arith, l))
  value_left (v ∷ vs) types zero l e = rw e refl
  value_left (v ∷ vs) types (suc i) l e = value_left vs types i (omega (arith, l)) e

  -- the next value is the next parameter's, or not
  next_fits : (vs : List Value) (t : List ℕ) (ts : List (List ℕ)) (i : ℕ) (d : Value) → i < length vs
      → all_fit s loose store (drop i vs) (t ∷ ts) ≡ (shape_fits s loose (shape_of store (get_or vs i d)) t && all_fit s loose store (drop (suc i) vs) ts)
  unfolding all_fit
  next_fits [] t ts i d l = absurd (omega (arith, l))
  next_fits (v ∷ vs) t ts zero d l = refl
  next_fits (v ∷ vs) t ts (suc i) d l = next_fits vs t ts i d (omega (arith, l))

  pub one_unfit : (vs : List Value) (types : List (List ℕ)) (t : List ℕ) (ts : List (List ℕ)) (i : ℕ) (d : Value) → i < length vs → types ≡ t ∷ ts
      → shape_fits s loose (shape_of store (get_or vs i d)) t ≡ false → false ≡ all_fit s loose store (drop i vs) types
  one_unfit vs types t ts i d l e f =
      sym (ap (all_fit s loose store (drop i vs)) e ∙ next_fits vs t ts i d l ∙ ap (λ (b : Bool). b && all_fit s loose store (drop (suc i) vs) ts) f)

  pub one_fit : (vs : List Value) (types : List (List ℕ)) (t : List ℕ) (ts : List (List ℕ)) (i j : ℕ) (d : Value) → suc i ≡ j → i < length vs → types ≡ t ∷ ts
      → shape_fits s loose (shape_of store (get_or vs i d)) t ≡ true → all_fit s loose store (drop i vs) types ≡ all_fit s loose store (drop j vs) ts
  one_fit vs types t ts i j d q l e f =
      ap (all_fit s loose store (drop i vs)) e ∙ next_fits vs t ts i d l ∙ ap (λ (b : Bool). b && all_fit s loose store (drop (suc i) vs) ts) f
      ∙ ap (λ (k : ℕ). all_fit s loose store (drop k vs) ts) q

  -- all values have a parameter: none may be left
  pub all_read : (vs : List Value) (types : List (List ℕ)) (i : ℕ) → length vs ≤ i → types ≡ [] → true ≡ all_fit s loose store (drop i vs) types
  unfolding all_fit
  all_read [] types zero l e = rw e refl
  all_read [] types (suc i) l e = rw e refl
  all_read (v ∷ vs) types zero l e = absurd (omega (arith, l))
  all_read (v ∷ vs) types (suc i) l e = all_read vs types i (omega (arith, l)) e

  pub parameter_left : (vs : List Value) (types : List (List ℕ)) (t : List ℕ) (ts : List (List ℕ)) (i : ℕ) → length vs ≤ i → types ≡ t ∷ ts → false ≡ all_fit s loose store (drop i vs) types
  unfolding all_fit
  parameter_left [] types t ts zero l e = rw e refl
  parameter_left [] types t ts (suc i) l e = rw e refl
  parameter_left (v ∷ vs) types t ts zero l e = absurd (omega (arith, l))
  parameter_left (v ∷ vs) types t ts (suc i) l e = parameter_left vs types t ts i (omega (arith, l)) e

-- ---- what is read of a descriptor

pub types_of : (descriptor : List ℕ) (x : Signature) → x ≡ signature_of descriptor → parameter_types descriptor ≡ x.parameters
unfolding parameter_types
types_of descriptor x e = ap (λ (x : Signature). x.parameters) (sym e)

pub parameters_in : (t : List ℕ) (old new : Signature) → old ≡ with_parameters (t ∷ []) new → old.parameters ≡ t ∷ new.parameters
unfolding with_parameters
parameters_in t old new e = ap (λ (x : Signature). x.parameters) e

-- whether a parameter is left behind the last value
pub rest_is : (s : System) (store : Store) (loose : Bool) {A : Type 0} (now : A → List ℕ) (o : Option A) (b : Bool) (old new : Signature) (vs : List Value) (i : ℕ)
    → is_some o ≡ not b → IfSome o (λ k. old ≡ with_parameters (now k ∷ []) new) → IfNone o (old.parameters ≡ []) → length vs ≤ i
    → b ≡ all_fit s loose store (drop i vs) old.parameters
rest_is s store loose now None true old new vs i e some none l = all_read s store loose vs old.parameters i l none
rest_is s store loose now None false old new vs i e some none l = cc
rest_is s store loose now (Some k) true old new vs i e some none l = cc
rest_is s store loose now (Some k) false old new vs i e some none l =
    parameter_left s store loose vs old.parameters (now k) new.parameters i l (parameters_in (now k) old new some)

-- ---- a descriptor has fewer parameters than units

abbrev IsOne : Scan → Type 0
IsOne x = length x.whole ≤ 1

whole_one : (part : List ℕ) (in_name : Bool) (u : ℕ) → length (scan_with part in_name u).whole ≤ 1
unfolding scan_with
whole_one part true u = by (u == 59)
  where
    by : (b : Bool) → IsOne (if b then record { part = []; in_name = false; whole = (part ++ u ∷ []) ∷ [] } else record { part = part ++ u ∷ []; in_name = true; whole = [] })
    by true = omega arith
    by false = omega arith
whole_one part false u = by (u == 91) (u == 76)
  where
    by : (a b : Bool) → IsOne (if a then record { part = part ++ u ∷ []; in_name = false; whole = [] }
        else if b then record { part = part ++ u ∷ []; in_name = true; whole = [] } else record { part = []; in_name = false; whole = (part ++ u ∷ []) ∷ [] })
    by true b = omega arith
    by false true = omega arith
    by false false = omega arith

abbrev IsWithin : ℕ → Signature → Type 0
IsWithin n x = length x.parameters ≤ n

within_units : (part : List ℕ) (in_name : Bool) (units : List ℕ) → length (signature_from part in_name units).parameters ≤ length units
unfolding signature_from with_parameters
within_units part in_name [] = omega arith
within_units part in_name (u ∷ units) =
    let x = scan_with part in_name u in
    by (not in_name && (u == 41)) (within_units x.part x.in_name units)
  where
    x : Scan
    x = scan_with part in_name u

    by : (b : Bool) → length (signature_from x.part x.in_name units).parameters ≤ length units → IsWithin (length (u ∷ units)) (elim b as (λ _. Signature) [
      | true ↦ record { parameters = []; result = units }
      | false ↦ with_parameters x.whole (signature_from x.part x.in_name units)
    ])
    by true rest = omega arith
    by false rest =
        let whole = whole_one part in_name u in
        let both = length-append x.whole (signature_from x.part x.in_name units).parameters in
        omega (arith, rest, whole, both)

pub types_within : (descriptor : List ℕ) → length (parameter_types descriptor) ≤ length descriptor - 1
unfolding parameter_types signature_of
types_within [] = omega arith
types_within (u ∷ units) = let rest = within_units [] false units in omega (arith, rest)
