-- The uppermost ints of a stack as the lengths of an array of arrays.
use Rattle.std.proofs.Common.{◌≡◌, ℕ, zero, suc, ◌+◌, ◌<◌, ◌≤◌, Bool, true, false, List, [], ◌∷◌, ◌++◌, length, take, drop, reverse, map, Option, Some, None, refl, sym, ap, ◌∙◌, arith, slice_get}
use Rattle.std.specs.Prelude.{ℤ, pos, int_lt, nat_lt, ◌&&◌, ◌||◌, if◌then◌else◌}
use Rattle.std.specs.Option.{option_map}
use Rattle.std.proofs.lemmas.Bool.Decides.{nat_tests}
use Rattle.std.proofs.lemmas.List.{reverse-append, take_more}
use Rattle.std.proofs.lemmas.Option.{get_or_from_slice_get, slice_get_within}
use Rattle.jx_base.proofs.BasicLaws.{both}
use Rattle.jx_base.specs.Basics.{not_below_zero}
use Rattle.jx_base.specs.declared.program.System.{System}
use Rattle.jx_base.specs.declared.value.Value.{Value}
use Rattle.jx_base.specs.declared.value.Value.TheVariants as value
use Rattle.program_model.specs.BuiltIn.{negative_size_exception}
use Rattle.machine_model.specs.NumericRows.{Stack}
use Rattle.machine_model.specs.ObjectRows.{ObjectOutcome, BadCode, Raise, Raised, Making, given, has_negative, ints_of, leaves, multi_array_row, nested_arrays, with_result}
use Rattle.machine_model.specs.State.{Store, Core}
use Rattle.interp_access.specs.Nested as nested
use Rattle.interp_access.specs.Nested.{is_int, is_negative, length_of, nested_lengths}

module _ (stack : Stack) where
  -- the tests of one value more
  ints_more : (k n : ℕ) → nested.are_ints stack k (suc n) ≡ (nested.are_ints stack k n && is_int (slice_get stack (k + n)))
  unfolding nested.are_ints
  ints_more k zero =
      let same : k ≡ k + 0 = omega arith in
      and_true (is_int (slice_get stack k)) ∙ ap (λ m. is_int (slice_get stack m)) same
    where
      and_true : (b : Bool) → (b && true) ≡ b
      and_true true = refl
      and_true false = refl
  ints_more k (suc n) =
      let same : (k + 1) + n ≡ k + suc n = omega arith in
      ap (λ b. is_int (slice_get stack k) && b) (ints_more (k + 1) n)
      ∙ assoc (is_int (slice_get stack k)) (nested.are_ints stack (k + 1) n) (is_int (slice_get stack ((k + 1) + n)))
      ∙ ap (λ m. (is_int (slice_get stack k) && nested.are_ints stack (k + 1) n) && is_int (slice_get stack m)) same
    where
      assoc : (a b c : Bool) → (a && (b && c)) ≡ ((a && b) && c)
      assoc true b c = refl
      assoc false b c = refl

  negative_more : (k n : ℕ) → nested.has_negative stack k (suc n) ≡ (nested.has_negative stack k n || is_negative (slice_get stack (k + n)))
  unfolding nested.has_negative
  negative_more k zero =
      let same : k ≡ k + 0 = omega arith in
      or_false (is_negative (slice_get stack k)) ∙ ap (λ m. is_negative (slice_get stack m)) same
    where
      or_false : (b : Bool) → (b || false) ≡ b
      or_false true = refl
      or_false false = refl
  negative_more k (suc n) =
      let same : (k + 1) + n ≡ k + suc n = omega arith in
      ap (λ b. is_negative (slice_get stack k) || b) (negative_more (k + 1) n)
      ∙ assoc (is_negative (slice_get stack k)) (nested.has_negative stack (k + 1) n) (is_negative (slice_get stack ((k + 1) + n)))
      ∙ ap (λ m. (is_negative (slice_get stack k) || nested.has_negative stack (k + 1) n) || is_negative (slice_get stack m)) same
    where
      assoc : (a b c : Bool) → (a || (b || c)) ≡ ((a || b) || c)
      assoc true b c = refl
      assoc false b c = refl

  ints_last : (n : ℕ) → nested.are_ints stack 0 (suc n) ≡ (nested.are_ints stack 0 n && is_int (slice_get stack n))
  ints_last n =
      let same : 0 + n ≡ n = omega arith in
      ints_more 0 n ∙ ap (λ m. nested.are_ints stack 0 n && is_int (slice_get stack m)) same

  negative_last : (n : ℕ) → nested.has_negative stack 0 (suc n) ≡ (nested.has_negative stack 0 n || is_negative (slice_get stack n))
  negative_last n =
      let same : 0 + n ≡ n = omega arith in
      negative_more 0 n ∙ ap (λ m. nested.has_negative stack 0 n || is_negative (slice_get stack m)) same

  -- the values below the top, the lowest one first
  abbrev below : ℕ → List Value
  below n = reverse (take n stack)

  below_more : (n : ℕ) (v : Value) → slice_get stack n ≡ Some v → below (suc n) ≡ v ∷ below n
  below_more n v e =
      let next : suc n ≡ n + 1 = omega arith in
      ap (λ m. reverse (take m stack)) next
      ∙ ap reverse (take_more stack n v (slice_get_within stack n v e) ∙ ap (λ (x : Value). take n stack ++ x ∷ []) (get_or_from_slice_get stack n v v e))
      ∙ reverse-append (take n stack) (v ∷ [])

  -- the numbers are the uppermost ints
  pub record AreLengths (n : ℕ) (ns : List ℤ) : Type 0 where
    pub enough : n ≤ length stack
    pub ints : ints_of (below n) ≡ Some ns
    pub negative : has_negative ns ≡ nested.has_negative stack 0 n
    pub lengths : map not_below_zero ns ≡ nested_lengths stack n

  int_is : (o : Option Value) → is_int o ≡ true → (z : ℤ) × (o ≡ Some (value.Int z))
  unfolding is_int
  int_is (Some (value.Int z)) e = (z, refl)
  int_is None e = absurd cc
  int_is (Some (value.Long z)) e = absurd cc
  int_is (Some value.Null) e = absurd cc
  int_is (Some (value.Ref r)) e = absurd cc
  int_is (Some (value.Portal k c)) e = absurd cc
  int_is (Some (value.Mem m)) e = absurd cc

  or_swap : (a b : Bool) → (a || b) ≡ (b || a)
  or_swap true true = refl
  or_swap true false = refl
  or_swap false true = refl
  or_swap false false = refl

  one_length : (n : ℕ) (ns : List ℤ) (z : ℤ) → AreLengths n ns → slice_get stack n ≡ Some (value.Int z) → AreLengths (suc n) (z ∷ ns)
  unfolding ints_of has_negative is_negative length_of nested_lengths
  one_length n ns z k e = record {
    enough = omega (arith, slice_get_within stack n (value.Int z) e);
    ints = ap ints_of (below_more n (value.Int z) e) ∙ ap (option_map (λ (ms : List ℤ). z ∷ ms)) k.ints;
    negative =
        or_swap (int_lt z (pos 0)) (has_negative ns)
        ∙ ap (λ b. b || int_lt z (pos 0)) k.negative
        ∙ ap (λ (o : Option Value). nested.has_negative stack 0 n || is_negative o) (sym e)
        ∙ sym (negative_last n);
    lengths = ap (λ (ls : List ℕ). not_below_zero z ∷ ls) k.lengths ∙ ap (λ (o : Option Value). length_of o ∷ nested_lengths stack n) (sym e);
  }

  pub lengths_are : (n : ℕ) → nested.are_ints stack 0 n ≡ true → (ns : List ℤ) × AreLengths n ns
  unfolding ints_of has_negative nested.has_negative nested_lengths
  lengths_are zero e = ([], record { enough = omega arith; ints = refl; negative = refl; lengths = refl })
  lengths_are (suc n) e =
      let h = both (nested.are_ints stack 0 n) (is_int (slice_get stack n)) (sym (ints_last n) ∙ e) in
      let x = lengths_are n h.0 in
      let z = int_is (slice_get stack n) h.1 in
      (z.0 ∷ x.0, one_length n x.0 z.0 x.1 z.1)

  no_int : (v : Value) (vs : List Value) → is_int (Some v) ≡ false → ints_of (v ∷ vs) ≡ None
  unfolding is_int ints_of
  no_int (value.Int z) vs e = absurd cc
  no_int (value.Long z) vs e = refl
  no_int value.Null vs e = refl
  no_int (value.Ref r) vs e = refl
  no_int (value.Portal k c) vs e = refl
  no_int (value.Mem m) vs e = refl

  none_behind : (v : Value) (vs : List Value) → ints_of vs ≡ None → ints_of (v ∷ vs) ≡ None
  unfolding ints_of
  none_behind (value.Int z) vs e = ap (option_map (λ (ms : List ℤ). z ∷ ms)) e
  none_behind (value.Long z) vs e = refl
  none_behind value.Null vs e = refl
  none_behind (value.Ref r) vs e = refl
  none_behind (value.Portal k c) vs e = refl
  none_behind (value.Mem m) vs e = refl

  there : (n : ℕ) → n < length stack → (v : Value) × (slice_get stack n ≡ Some v)
  there n h = by stack n h
    where
      by : (s : Stack) (n : ℕ) → n < length s → (v : Value) × (slice_get s n ≡ Some v)
      by [] n h = absurd (omega arith)
      by (v ∷ s) zero h = (v, refl)
      by (v ∷ s) (suc n) h = by s n (omega arith)

  no_lengths : (n : ℕ) → nested.are_ints stack 0 n ≡ false → n ≤ length stack → ints_of (below n) ≡ None
  unfolding nested.are_ints
  no_lengths zero e h = absurd cc
  no_lengths (suc n) e h =
      let x = there n (omega arith) in
      ap ints_of (below_more n x.0 x.1) ∙ by (nested.are_ints stack 0 n) refl (is_int (slice_get stack n)) refl (sym (ints_last n) ∙ e) (no_lengths n) x.0 x.1
    where
      by : (a : Bool) → nested.are_ints stack 0 n ≡ a → (b : Bool) → is_int (slice_get stack n) ≡ b → (nested.are_ints stack 0 n && is_int (slice_get stack n)) ≡ false
          → (nested.are_ints stack 0 n ≡ false → n ≤ length stack → ints_of (below n) ≡ None) → (v : Value) → slice_get stack n ≡ Some v → ints_of (v ∷ below n) ≡ None
      by false f b g k ih v i = none_behind v (below n) (ih f (omega arith))
      by true f false g k ih v i = no_int v (below n) (ap (λ (o : Option Value). is_int o) (sym i) ∙ g)
      by true f true g k ih v i = absurd cc

module _ (s : System) (core : Core) (type : List ℕ) (n : ℕ) (stack : Stack) where
  -- the row from the lengths on
  abbrev made : Making → ObjectOutcome
  made x = elim x.array [ None ↦ Raised 0 (record core { store = x.store }) | Some r ↦ leaves s core x.store (value.Ref r ∷ drop n stack) ]

  abbrev by_lengths : List ℤ → ObjectOutcome
  by_lengths ns = if has_negative ns then Raise negative_size_exception else made (nested_arrays s (map not_below_zero ns) type core.store)

  pub bad_lengths : nested.are_ints stack 0 n ≡ false → multi_array_row s core type n stack ≡ BadCode
  unfolding multi_array_row given
  bad_lengths e = by (nat_lt (length stack) n) refl
    where
      by : (b : Bool) → nat_lt (length stack) n ≡ b → (if b then BadCode else given (ints_of (reverse (take n stack))) by_lengths) ≡ BadCode
      by true f = refl
      by false f =
          let le : n ≤ length stack = grind (arith, nat_tests) in
          ap (λ (o : Option (List ℤ)). given o by_lengths) (no_lengths stack n e le)

  good_lengths : (ns : List ℤ) → AreLengths stack n ns → multi_array_row s core type n stack ≡ by_lengths ns
  unfolding multi_array_row given
  good_lengths ns k =
      let enough = k.enough in
      let le : nat_lt (length stack) n ≡ false = grind (arith, nat_tests) in
      ap (λ (b : Bool). if b then BadCode else given (ints_of (reverse (take n stack))) by_lengths) le
      ∙ ap (λ (o : Option (List ℤ)). given o by_lengths) k.ints

  pub negative_length : nested.are_ints stack 0 n ≡ true → nested.has_negative stack 0 n ≡ true → multi_array_row s core type n stack ≡ Raise negative_size_exception
  negative_length e f =
      let x = lengths_are stack n e in
      good_lengths x.0 x.1 ∙ ap (λ (b : Bool). if b then Raise negative_size_exception else made (nested_arrays s (map not_below_zero x.0) type core.store)) (x.1.negative ∙ f)

  whole : nested.are_ints stack 0 n ≡ true → nested.has_negative stack 0 n ≡ false → (x : Making) → nested_arrays s (nested_lengths stack n) type core.store ≡ x → multi_array_row s core type n stack ≡ made x
  whole e f m h =
      let x = lengths_are stack n e in
      good_lengths x.0 x.1
      ∙ ap (λ (b : Bool). if b then Raise negative_size_exception else made (nested_arrays s (map not_below_zero x.0) type core.store)) (x.1.negative ∙ f)
      ∙ ap (λ (ls : List ℕ). made (nested_arrays s ls type core.store)) x.1.lengths ∙ ap made h

  pub no_room : (new : Store) → nested.are_ints stack 0 n ≡ true → nested.has_negative stack 0 n ≡ false → nested_arrays s (nested_lengths stack n) type core.store ≡ record { store = new; array = None }
      → multi_array_row s core type n stack ≡ Raised 0 (record core { store = new })
  no_room new e f h = whole e f (record { store = new; array = None }) h

  pub array_made : (new : Store) (r : ℕ) → nested.are_ints stack 0 n ≡ true → nested.has_negative stack 0 n ≡ false → nested_arrays s (nested_lengths stack n) type core.store ≡ record { store = new; array = Some r }
      → multi_array_row s core type n stack ≡ leaves s core new (with_result (Some (value.Ref r)) (drop n stack))
  unfolding with_result
  array_made new r e f h = whole e f (record { store = new; array = Some r }) h
