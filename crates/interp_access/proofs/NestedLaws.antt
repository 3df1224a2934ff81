-- The lengths of an array of arrays, one by one, and its elements.
use Rattle.std.proofs.Common.{◌≡◌, ℕ, zero, suc, ◌+◌, ◌-◌, ◌<◌, ◌≤◌, true, false, List, [], ◌∷◌, drop, Option, Some, None, refl, sym, ap, ◌∙◌, arith, slice_get}
use Rattle.std.specs.Prelude.{◌&&◌, ◌||◌}
use Rattle.std.specs.Option.{option_and_then}
use Rattle.jx_base.specs.declared.program.System.{System}
use Rattle.jx_base.specs.declared.value.Value.{Value}
use Rattle.jx_base.specs.declared.value.Value.TheVariants as value
use Rattle.machine_model.specs.NumericRows.{Stack}
use Rattle.machine_model.specs.ObjectRows.{Making, making_of, with_elements, with_all_elements, nested_arrays}
use Rattle.machine_model.specs.State.{Store, default_of, new_array, with_cell}
use Rattle.program_model.specs.Lookup.{class_named}
use Rattle.interp_core.specs.Making.{Makes}
use Rattle.interp_access.specs.Nested as nested
use Rattle.interp_access.specs.Nested.{is_int, is_negative, length_of, nested_lengths}

one_more : (n k : ℕ) → k < n → n - k ≡ suc (n - (k + 1))
one_more n k h = omega arith

-- ---- tests of values, one by one

pub int_on : (stack : Stack) (n k : ℕ) → k < n → true ≡ is_int (slice_get stack k) → nested.are_ints stack k (n - k) ≡ nested.are_ints stack (k + 1) (n - (k + 1))
unfolding nested.are_ints
int_on stack n k h e = ap (λ m. nested.are_ints stack k m) (one_more n k h) ∙ ap (λ b. b && nested.are_ints stack (k + 1) (n - (k + 1))) (sym e)

pub no_int : (stack : Stack) (n k : ℕ) → k < n → false ≡ is_int (slice_get stack k) → nested.are_ints stack k (n - k) ≡ false
unfolding nested.are_ints
no_int stack n k h e = ap (λ m. nested.are_ints stack k m) (one_more n k h) ∙ ap (λ b. b && nested.are_ints stack (k + 1) (n - (k + 1))) (sym e)

pub all_ints : (stack : Stack) (n k : ℕ) → n ≤ k → nested.are_ints stack k (n - k) ≡ true
unfolding nested.are_ints
all_ints stack n k h = let none : n - k ≡ 0 = omega arith in ap (λ m. nested.are_ints stack k m) none

pub negative_on : (stack : Stack) (n k : ℕ) → k < n → false ≡ is_negative (slice_get stack k) → nested.has_negative stack k (n - k) ≡ nested.has_negative stack (k + 1) (n - (k + 1))
unfolding nested.has_negative
negative_on stack n k h e = ap (λ m. nested.has_negative stack k m) (one_more n k h) ∙ ap (λ b. b || nested.has_negative stack (k + 1) (n - (k + 1))) (sym e)

pub negative_at : (stack : Stack) (n k : ℕ) → k < n → true ≡ is_negative (slice_get stack k) → nested.has_negative stack k (n - k) ≡ true
unfolding nested.has_negative
negative_at stack n k h e = ap (λ m. nested.has_negative stack k m) (one_more n k h) ∙ ap (λ b. b || nested.has_negative stack (k + 1) (n - (k + 1))) (sym e)

pub none_negative : (stack : Stack) (n k : ℕ) → n ≤ k → nested.has_negative stack k (n - k) ≡ false
unfolding nested.has_negative
none_negative stack n k h = let none : n - k ≡ 0 = omega arith in ap (λ m. nested.has_negative stack k m) none

-- ---- one array

pub alone_none : (store : Store) (f : ℕ → Option (Store × ℕ)) (o : Option ℕ) → o ≡ None → making_of store (option_and_then f o) ≡ record { store = store; array = None }
unfolding making_of
alone_none store f o e = ap (λ (x : Option ℕ). making_of store (option_and_then f x)) e

made_is : (r : Option ℕ) (old new : Store) (m : Option (Store × ℕ)) → Makes r old new m → making_of old m ≡ record { store = new; array = r }
unfolding making_of
made_is None old new m h = ap (λ (x : Option (Store × ℕ)). making_of old x) h.0 ∙ ap (λ (t : Store). record { store = t; array = None }) (sym h.1)
made_is (Some r) old new m h = ap (λ (x : Option (Store × ℕ)). making_of old x) h

pub alone_made : (s : System) (old new : Store) (name element : List ℕ) (c n : ℕ) (v : Value) (r : Option ℕ) → Some c ≡ class_named s name → element ≡ drop 1 name → v ≡ default_of element → Makes r old new (new_array old c n v)
    → making_of old (option_and_then (λ c. new_array old c n (default_of (drop 1 name))) (class_named s name)) ≡ record { store = new; array = r }
alone_made s old new name element c n v r e f g h =
    ap (λ (o : Option ℕ). making_of old (option_and_then (λ c. new_array old c n (default_of (drop 1 name))) o)) (sym e)
    ∙ ap (λ (w : Value). making_of old (new_array old c n w)) (sym (g ∙ ap default_of f))
    ∙ made_is r old new (new_array old c n v) h

-- ---- an array and its elements

module _ (s : System) (stack : Stack) (k : ℕ) (name : List ℕ) where
  -- the array alone
  abbrev pub outer : Store → Making
  outer store = making_of store (option_and_then (λ c. new_array store c (length_of (slice_get stack k)) (default_of (drop 1 name))) (class_named s name))

  -- one of its elements
  abbrev pub inner : Store → Making
  inner = nested_arrays s (nested_lengths stack k) (drop 1 name)

  pub nested_is : (store : Store) → nested_arrays s (nested_lengths stack (suc k)) name store ≡ elim (nested_lengths stack k) as (λ _. Making) [ [] ↦ outer store | m ∷ more ↦ with_all_elements inner (length_of (slice_get stack k)) (outer store) ]
  unfolding nested_arrays nested_lengths
  nested_is store = refl

pub no_length : (s : System) (stack : Stack) (n : ℕ) (name : List ℕ) (store : Store) → n ≡ 0 → nested_arrays s (nested_lengths stack n) name store ≡ record { store = store; array = None }
unfolding nested_arrays nested_lengths
no_length s stack n name store e = ap (λ m. nested_arrays s (nested_lengths stack m) name store) e

pub no_outer : (s : System) (stack : Stack) (n k : ℕ) (name : List ℕ) (store new : Store) → n ≡ suc k → outer s stack k name store ≡ record { store = new; array = None } → nested_arrays s (nested_lengths stack n) name store ≡ record { store = new; array = None }
unfolding with_all_elements
no_outer s stack n k name store new e h = ap (λ m. nested_arrays s (nested_lengths stack m) name store) e ∙ nested_is s stack k name store ∙ by (nested_lengths stack k)
  where
    by : (ls : List ℕ) → elim ls as (λ _. Making) [ [] ↦ outer s stack k name store | m ∷ more ↦ with_all_elements (inner s stack k name) (length_of (slice_get stack k)) (outer s stack k name store) ] ≡ record { store = new; array = None }
    by [] = h
    by (m ∷ more) = ap (with_all_elements (inner s stack k name) (length_of (slice_get stack k))) h

pub last_outer : (s : System) (stack : Stack) (n k : ℕ) (name : List ℕ) (store new : Store) (r : ℕ) → n ≡ suc k → k ≡ 0 → outer s stack k name store ≡ record { store = new; array = Some r } → nested_arrays s (nested_lengths stack n) name store ≡ record { store = new; array = Some r }
unfolding nested_lengths
last_outer s stack n k name store new r e z h =
    ap (λ m. nested_arrays s (nested_lengths stack m) name store) e ∙ nested_is s stack k name store
    ∙ by (nested_lengths stack k) (ap (nested_lengths stack) z)
  where
    by : (ls : List ℕ) → ls ≡ nested_lengths stack 0 → elim ls as (λ _. Making) [ [] ↦ outer s stack k name store | m ∷ more ↦ with_all_elements (inner s stack k name) (length_of (slice_get stack k)) (outer s stack k name store) ] ≡ record { store = new; array = Some r }
    by [] f = h
    by (m ∷ more) f = absurd cc

pub more_outer : (s : System) (stack : Stack) (n k : ℕ) (name : List ℕ) (store new : Store) (r : ℕ) → n ≡ suc k → 0 < k → outer s stack k name store ≡ record { store = new; array = Some r }
    → nested_arrays s (nested_lengths stack n) name store ≡ with_elements (inner s stack k name) r 0 (length_of (slice_get stack k)) new
unfolding nested_lengths with_all_elements
more_outer s stack n k name store new r e z h =
    ap (λ m. nested_arrays s (nested_lengths stack m) name store) e ∙ nested_is s stack k name store ∙ by k refl
  where
    by : (j : ℕ) → k ≡ j → elim (nested_lengths stack j) as (λ _. Making) [ [] ↦ outer s stack k name store | m ∷ more ↦ with_all_elements (inner s stack k name) (length_of (slice_get stack k)) (outer s stack k name store) ]
        ≡ with_elements (inner s stack k name) r 0 (length_of (slice_get stack k)) new
    by zero f = absurd (omega arith)
    by (suc j) f = ap (with_all_elements (inner s stack k name) (length_of (slice_get stack k))) h

-- ---- elements, one by one

pub element_on : (make : Store → Making) (r n i e : ℕ) (old mid new : Store) → i < n → make old ≡ record { store = mid; array = Some e } → new ≡ with_cell mid r i (value.Ref e)
    → with_elements make r i (n - i) old ≡ with_elements make r (i + 1) (n - (i + 1)) new
unfolding with_elements
element_on make r n i e old mid new h m f =
    ap (λ k. with_elements make r i k old) (one_more n i h)
    ∙ ap (λ (x : Making). elim x.array as (λ _. Making) [ None ↦ x | Some e ↦ with_elements make r (i + 1) (n - (i + 1)) (with_cell x.store r i (value.Ref e)) ]) m
    ∙ ap (with_elements make r (i + 1) (n - (i + 1))) (sym f)

pub no_element : (make : Store → Making) (r n i : ℕ) (old mid : Store) → i < n → make old ≡ record { store = mid; array = None } → with_elements make r i (n - i) old ≡ record { store = mid; array = None }
unfolding with_elements
no_element make r n i old mid h m =
    ap (λ k. with_elements make r i k old) (one_more n i h)
    ∙ ap (λ (x : Making). elim x.array as (λ _. Making) [ None ↦ x | Some e ↦ with_elements make r (i + 1) (n - (i + 1)) (with_cell x.store r i (value.Ref e)) ]) m

pub all_elements : (make : Store → Making) (r n i : ℕ) (store : Store) → n ≤ i → with_elements make r i (n - i) store ≡ record { store = store; array = Some r }
unfolding with_elements
all_elements make r n i store h = let none : n - i ≡ 0 = omega arith in ap (λ k. with_elements make r i k store) none
