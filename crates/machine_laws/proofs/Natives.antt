-- The built-in methods make values of values, and the acts that they perform are well made.
use Rattle.std.proofs.Common.{◌≡◌, ◌≢◌, refl, sym, ◌∙◌, ap, subst, ℕ, suc, ◌+◌, ◌<◌, ◌≤◌, ◌^◌, ◌%◌, ℤ, pos, negsuc, Bool, true, false, cond, ◌&&◌, ◌||◌, not, List, [], ◌∷◌, ◌++◌, length, map, Option, Some, None, is_some, arith, ◌==◌, inl, inr, slice_get}
use Rattle.std.specs.Prelude.{FitsSigned, nat_lt, nat_le, int_le, if◌then◌else◌, codes, find, ◌*ℤ◌, ◌+ℤ◌}
use Rattle.std.specs.List.{AllByRecursion, position_or_len, prefix_len}
use Rattle.std.specs.Fmt.{signed_decimal, decimal}
use Rattle.std.specs.Int.{w32, w64, int_wrap}
use Rattle.std.specs.Str.{bytes_eq}
use Rattle.std.proofs.lemmas.Bool.Decides.{nat_tests}
use Rattle.std.proofs.lemmas.Fmt.{decimal_by_steps}
use Rattle.std.proofs.lemmas.Int.{SFits-int_wrap}
use Rattle.std.proofs.lemmas.Slice.Eq.{bytes_eq-Decides}
use Rattle.class_grammar.specs.Flags.{is_interface_flag, has_flag}
use Rattle.jx_base.specs.declared.act.Act.{Act}
use Rattle.jx_base.specs.declared.act.Act.TheVariants as act
use Rattle.jx_base.specs.declared.ids.ObjectId.{ObjectId}
use Rattle.jx_base.specs.declared.program.Class.{Class}
use Rattle.jx_base.specs.declared.program.Method.{Method}
use Rattle.jx_base.specs.declared.program.Selector.{Selector}
use Rattle.jx_base.specs.declared.program.System.{System}
use Rattle.jx_base.specs.declared.value.Value.{Value}
use Rattle.jx_base.specs.declared.value.Value.TheVariants as value
use Rattle.jx_base.specs.Basics.{passes, not_below_zero}
use Rattle.program_model.specs.BuiltIn.{object_class, string_class, builder_class, throwable_class, portal_class, zero_class, memory_class, null_pointer_exception, string_index_exception, range_exception, class_cast_exception, opened_built_in}
use Rattle.jx_base.specs.Histories.{Past}
use Rattle.program_model.specs.Limits.{thread_limit}
use Rattle.program_model.specs.Lookup.{class_at, class_named, is_interface, is_below, selector_at, fits_type, class_of_type, class_name_of_type, object_fits, shape_fits, Shape, ObjectShape, Unknown}
use Rattle.machine_model.specs.NumericRows.{is_same}
use Rattle.machine_model.specs.ObjectRows.{all_fit}
use Rattle.machine_model.specs.State.{Store, class_of_object, shape_of, cells_of, with_cell, new_object}
use Rattle.program_model.specs.Types.{parameter_types, is_reference_type, cut_to_type, opened_types}
use Rattle.machine_model.specs.BuiltInMethods.{BuiltInOutcome, BuiltInMethod, Gives, Performs, Raises, HasNoRoom, Unfit, int_of_bool, result_value, act_if, unit_of, text_of, text_cells, with_new_text, is_short, constructor, identity_test, message_constructor, first_cell, text_length, unit_at, text_unit, is_text, text_test, hash_of, text_hash, text_concatenation, builder_constructor, appended_text, appended_number, appended_unit, appended_bool, append_of, text_act, int_act, pause, lookup, bind, interface_named, export_of, is_thread_count, export, memory_act, memory_int_act, memory_ints_act, fill, copy, built_in_method, object_effects, string_effects, builder_effects, constructor_effects, message_effects, zero_effects, memory_effects, effects_of, is_of, built_in_outcome}
use Rattle.jx_model.specs.WellMade.{IsClass, IsWellMade, is_well_made}
use Rattle.program_model.specs.Ranges.{IsId, IsText, IsInt, is_service_name}
use Rattle.jx_base.proofs.BasicLaws.{both, eq_of, differs}
use Rattle.jx_model.proofs.WellMadeTest.{well_made_test}
use Rattle.machine_laws.specs.Values.{IsValueIn, IsValueInSome, IsUnitValue, IsStoreIn, cell_limit}
use Rattle.machine_model.specs.Conditions.{IsTextIfObject}
use Rattle.machine_laws.specs.Sound.{IsSound}
use Rattle.machine_laws.specs.Called.{FitsCall}
use Rattle.machine_laws.proofs.Lists.{mapped_length, all_append, all_get, all_map, all_found}
use Rattle.machine_laws.proofs.NumericValues.{then_some, built_in_class}
use Rattle.machine_laws.proofs.Ranges.{low_char_is, int_is_long}
use Rattle.machine_laws.proofs.Stores.{IsLater, later_itself, later_on, IsMade, AreCellsOf, new_object_in, with_cell_in, cells_in, cells_small, cells_units, cells_text, object_there}
use Rattle.std.specs.Option.{option_and_then}

-- units of sixteen bits
abbrev pub Units : List ℕ → Type 0
Units units = AllByRecursion (λ u. u < 65536) units

-- what a built-in method comes to, from a store
abbrev pub IsNativeIn : System → Past → Store → BuiltInOutcome → Type 0
IsNativeIn s past before (Gives store v) = IsLater s past before store × IsValueInSome past store v
IsNativeIn s past before (Performs a) = IsWellMade s past a
IsNativeIn s past before (Raises c) = IsClass s c
IsNativeIn s past before HasNoRoom = Unit {0}
IsNativeIn s past before Unfit = Unit {0}

-- the type of String
abbrev pub string_type : List ℕ
string_type = codes "Ljava/lang/String;"

-- ---- what fits String

string_named : (s : System) → IsSound s → class_of_type s string_type ≡ Some 1
unfolding class_of_type class_name_of_type is_reference_type opened_built_in
string_named s z = z.names 1 _ (omega arith) refl

string_no_interface : (s : System) → IsSound s → is_interface s 1 ≡ false
unfolding is_interface opened_built_in passes is_interface_flag has_flag
string_no_interface s z = ap (passes (λ (k : Class). is_interface_flag k.flags)) (z.built_in 1 (omega arith))

pub class_fits_string : (s : System) (c : ℕ) → IsSound s → shape_fits s true (ObjectShape c) string_type ≡ true → c ≡ string_class
unfolding shape_fits object_fits fits_type opened_built_in passes
class_fits_string s c z h = z.strings c (last (is_below s c 1) (subst (λ (o : Option ℕ). (passes (is_below s c) o || (true && passes (is_interface s) o)) ≡ true) (string_named s z) h))
  where
    last : (b : Bool) → (b || (true && is_interface s 1)) ≡ true → b ≡ true
    last true h = refl
    last false h = sym (string_no_interface s z) ∙ h

unknown_fits : {A : Type 0} (s : System) (t : List ℕ) → shape_fits s true Unknown t ≡ true → A
unfolding shape_fits
unknown_fits s t h = cc

-- what fits String is a String, where it is an object
pub string_fits : (s : System) (store : Store) (v : Value) → IsSound s → shape_fits s true (shape_of store v) string_type ≡ true → IsTextIfObject store v
unfolding shape_of
string_fits s store (value.Ref r) z h = by (class_of_object store r) h
  where
    by : (o : Option ℕ) → shape_fits s true (elim o as (λ _. Shape) [ None ↦ Unknown | Some c ↦ ObjectShape c ]) string_type ≡ true → o ≡ Some string_class
    by None h = unknown_fits s string_type h
    by (Some c) h = ap (λ (k : ℕ). Some k) (class_fits_string s c z h)
string_fits s store (value.Int n) z h = tt
string_fits s store (value.Long n) z h = tt
string_fits s store value.Null z h = tt
string_fits s store (value.Portal k c) z h = tt
string_fits s store (value.Mem m) z h = tt

-- ---- arguments by their count

-- one argument for one type, which fits it
one_fits : (s : System) (store : Store) (c : ℕ) (t : List ℕ) (v : Value) → FitsCall s store c (t ∷ []) (v ∷ []) → shape_fits s true (shape_of store v) t ≡ true
unfolding all_fit
one_fits s store c t v (inl h) = (both (shape_fits s true (shape_of store v) t) true h).0
one_fits s store c t v (inr x) = none x.others (let e : v ∷ [] ≡ x.object ∷ x.others = x.is in let q : x.others ≡ [] = cc in q) x.fit
  where
    none : {A : Type 0} (vs : List Value) → vs ≡ [] → all_fit s true store vs (t ∷ []) ≡ true → A
    none [] e h = cc
    none (w ∷ ws) e h = cc

-- an object below the class, and an argument that fits
pub record IsOnObject (s : System) (store : Store) (c : ℕ) (o v : Value) (t : List ℕ) : Type 0 where
  pub below : (r a : ℕ) → o ≡ value.Ref r → class_of_object store r ≡ Some a → is_below s a c ≡ true
  pub fit : shape_fits s true (shape_of store v) t ≡ true

two_fit : (s : System) (store : Store) (c : ℕ) (t : List ℕ) (o v : Value) → FitsCall s store c (t ∷ []) (o ∷ v ∷ []) → IsOnObject s store c o v t
unfolding all_fit
two_fit s store c t o v (inl h) = let q : false ≡ true = (both (shape_fits s true (shape_of store o) t) false h).1 in cc
two_fit s store c t o v (inr x) =
    let e : o ∷ v ∷ [] ≡ x.object ∷ x.others = x.is in
    let p : x.object ≡ o = cc in
    let q : x.others ≡ v ∷ [] = cc in
    record {
      below = λ r a i k. x.below r a (p ∙ i) k;
      fit = (both (shape_fits s true (shape_of store v) t) true (subst (λ (vs : List Value). all_fit s true store vs (t ∷ []) ≡ true) q x.fit)).0;
    }

-- an object below the class, and no argument
alone_fits : (s : System) (store : Store) (c : ℕ) (o : Value) → FitsCall s store c [] (o ∷ []) → (r a : ℕ) → o ≡ value.Ref r → class_of_object store r ≡ Some a → is_below s a c ≡ true
unfolding all_fit
alone_fits s store c o (inl h) r a i k = cc
alone_fits s store c o (inr x) r a i k = let e : o ∷ [] ≡ x.object ∷ x.others = x.is in let p : x.object ≡ o = cc in x.below r a (p ∙ i) k

-- ---- texts

-- the unit that a cell of a String is read as
unit_below : (v : Value) → IsUnitValue v → unit_of v < 65536
unfolding unit_of not_below_zero
unit_below (value.Int (pos n)) h = h
unit_below (value.Int (negsuc n)) h = absurd h
unit_below (value.Long n) h = absurd h
unit_below value.Null h = absurd h
unit_below (value.Ref r) h = absurd h
unit_below (value.Portal k c) h = absurd h
unit_below (value.Mem m) h = absurd h

-- the units of a String
pub text_units : (s : System) (past : Past) (store : Store) (r : ℕ) → IsStoreIn s past store → class_of_object store r ≡ Some string_class → Units (text_of store r)
unfolding text_of
text_units s past store r h c = all_map IsUnitValue (λ u. u < 65536) unit_of unit_below (cells_of store r) (cells_units s past store r h c)

text_small : (s : System) (past : Past) (store : Store) (r : ℕ) → IsStoreIn s past store → length (text_of store r) ≤ cell_limit
unfolding text_of
text_small s past store r h = omega (arith, cells_small s past store r h, mapped_length unit_of (cells_of store r))

small_int : (n : ℕ) → n ≤ cell_limit → FitsSigned w32 (pos n)
small_int n h = record { sfits = omega (arith, h) }

unit_int : (n : ℕ) → n < 65536 → FitsSigned w32 (pos n)
unit_int n h = record { sfits = omega (arith, h) }

-- the cells of a String of units
pub text_cells_in : (s : System) (past : Past) (store : Store) (units : List ℕ) → Units units → AreCellsOf s past store string_class (text_cells units)
unfolding text_cells opened_built_in unit_of not_below_zero
text_cells_in s past store units h = record {
  count = λ e. absurd (e refl);
  values = all_map (λ u. u < 65536) (IsValueIn past store) (λ u. value.Int (pos u)) unit_int units h;
  units = λ e. all_map (λ u. u < 65536) IsUnitValue (λ u. value.Int (pos u)) (λ u i. i) units h;
  text = λ e. absurd (omega (arith, e));
}

bool_in : (b : Bool) (past : Past) (store : Store) → IsValueIn past store (int_of_bool b)
unfolding int_of_bool
bool_in true past store = record { sfits = omega arith }
bool_in false past store = record { sfits = omega arith }

hash_fits : (n : ℤ) (units : List ℕ) → FitsSigned w32 n → FitsSigned w32 (hash_of n units)
unfolding hash_of
hash_fits n [] h = h
hash_fits n (u ∷ units) h = hash_fits (int_wrap w32 (pos 31 *ℤ n +ℤ pos u)) units (SFits-int_wrap w32 (pos 31 *ℤ n +ℤ pos u))

decimal_units : (n : ℕ) → n < 2 ^ 64 → Units (decimal n)
decimal_units n h = decimal_by_steps (λ n ds. Units ds) (λ n l. (omega (arith, l), tt)) (λ n ds l i. all_append (λ u. u < 65536) ds ((48 + n % 10) ∷ []) i (omega arith, tt)) n h

signed_units : (n : ℤ) → FitsSigned w64 n → Units (signed_decimal n)
signed_units (pos n) h = decimal_units n (omega (arith, h.sfits))
signed_units (negsuc n) h = (omega arith, decimal_units (suc n) (omega (arith, h.sfits)))

-- whether a class of built-in methods is not String's or StringBuilder's, nor one above them
other_class : (s : System) (store : Store) (c r : ℕ) → IsSound s → 3 ≤ c → ((a : ℕ) → class_of_object store r ≡ Some a → is_below s a c ≡ true) →
    {A B : Type 0} → (class_of_object store r ≡ Some string_class → A) × (class_of_object store r ≡ Some builder_class → B)
unfolding opened_built_in
other_class s store c r z l below = (
  λ e. elim (z.string_supers c (below string_class e)) [ inl q ↦ absurd (omega (arith, l, q)) | inr q ↦ absurd (omega (arith, l, q)) ],
  λ e. elim (z.builder_supers c (below builder_class e)) [ inl q ↦ absurd (omega (arith, l, q)) | inr q ↦ absurd (omega (arith, l, q)) ],
)

-- a place in a list is that of an item
place_in_list : {X : Type 0} (p : X → Bool) (xs : List X) → position_or_len p xs < length xs → is_some (slice_get xs (position_or_len p xs)) ≡ true
place_in_list p [] h = absurd (omega (arith, h))
place_in_list p (x ∷ xs) h = by (p x) h (place_in_list p xs)
  where
    by : (b : Bool) → cond (not b) (1 + prefix_len (λ x. not (p x)) xs) 0 < suc (length xs) → (prefix_len (λ x. not (p x)) xs < length xs → is_some (slice_get xs (prefix_len (λ x. not (p x)) xs)) ≡ true) →
        is_some (slice_get (x ∷ xs) (cond (not b) (1 + prefix_len (λ x. not (p x)) xs) 0)) ≡ true
    by true h again = refl
    by false h again = subst (λ (n : ℕ). is_some (slice_get (x ∷ xs) n) ≡ true) (one_more (prefix_len (λ x. not (p x)) xs)) (again (omega (arith, h)))
      where
        one_more : (n : ℕ) → suc n ≡ 1 + n
        one_more n = omega arith

-- a class that has a name is one of the system
pub named_class : (s : System) (name : List ℕ) (c : ℕ) → class_named s name ≡ Some c → IsClass s c
unfolding class_named class_at
named_class s name c e = by (nat_lt (position_or_len p s.program.classes) (length s.program.classes)) refl e
  where
    p : Class → Bool
    p k = bytes_eq k.name name

    by : (b : Bool) → nat_lt (position_or_len p s.program.classes) (length s.program.classes) ≡ b → cond b (Some (position_or_len p s.program.classes)) None ≡ Some c → IsClass s c
    by true q e = let i : position_or_len p s.program.classes ≡ c = cc in subst (IsClass s) i (place_in_list p s.program.classes (grind (arith, nat_tests, q)))
    by false q e = cc

module _ (s : System) (past : Past) (store : Store) (z : IsSound s) (h : IsStoreIn s past store) where
  abbrev N : BuiltInOutcome → Type 0
  N o = IsNativeIn s past store o

  abbrev V : Value → Type 0
  V v = IsValueIn past store v

  result_in : (v : Value) → V v → N (result_value store v)
  unfolding result_value
  result_in v i = (later_itself s past store h, i)

  null_class : IsClass s null_pointer_exception
  unfolding opened_built_in
  null_class = built_in_class s 7 z (omega arith) refl

  string_index_class : IsClass s string_index_exception
  unfolding opened_built_in
  string_index_class = built_in_class s 10 z (omega arith) refl

  cast_class : IsClass s class_cast_exception
  unfolding opened_built_in
  cast_class = built_in_class s 12 z (omega arith) refl

  range_class : IsClass s range_exception
  unfolding opened_built_in
  range_class = built_in_class s 25 z (omega arith) refl

  string_known : IsClass s string_class
  unfolding opened_built_in
  string_known = built_in_class s 1 z (omega arith) refl

  new_text_in : (units : List ℕ) (go : Store → ℕ → BuiltInOutcome) → Units units → ((x : Store × ℕ) → IsMade s past store string_class x → N (go x.0 x.1)) → N (with_new_text store units go)
  unfolding with_new_text
  new_text_in units go u f = by (new_object store string_class (text_cells units)) refl
    where
      by : (o : Option (Store × ℕ)) → new_object store string_class (text_cells units) ≡ o → N (elim o as (λ _. BuiltInOutcome) [ None ↦ HasNoRoom | Some x ↦ go x.0 x.1 ])
      by None e = tt
      by (Some x) e = f x (new_object_in s past store string_class (text_cells units) x h string_known (text_cells_in s past store units u) e)

  made_text : (x : Store × ℕ) → IsMade s past store string_class x → N (result_value x.0 (value.Ref x.1))
  unfolding result_value
  made_text x m = (record { grown = m.grown; store = m.store }, ap is_some m.object)

  -- ---- java/lang/Object and Throwable

  constructor_in : (args : List Value) → N (constructor s store args)
  unfolding constructor
  constructor_in args = (later_itself s past store h, tt)

  identity_in : (args : List Value) → N (identity_test s store args)
  unfolding identity_test
  identity_in (a ∷ b ∷ []) = result_in (int_of_bool (is_same a b)) (bool_in (is_same a b) past store)
  identity_in [] = tt
  identity_in (a ∷ []) = tt
  identity_in (a ∷ b ∷ c ∷ more) = tt

  message_in : (c : ℕ) (args : List Value) → 3 ≤ c → AllByRecursion V args → FitsCall s store c (string_type ∷ []) args → N (message_constructor s store args)
  unfolding message_constructor
  message_in c (value.Ref r ∷ v ∷ []) l i f =
      let t = two_fit s store c string_type (value.Ref r) v f in
      let o = other_class s store c r z l (λ a e. t.below r a refl e) in
      (with_cell_in s past store r 0 v h (record { value = i.1.0; unit = o.0; text = o.1 }), tt)
  message_in c _ l i f = tt

  first_cell_in : (args : List Value) → N (first_cell s store args)
  unfolding first_cell
  first_cell_in (value.Ref r ∷ []) = (later_itself s past store h, by (slice_get (cells_of store r) 0) refl)
    where
      by : (o : Option Value) → slice_get (cells_of store r) 0 ≡ o → IsValueInSome past store o
      by None e = tt
      by (Some v) e = all_get V (cells_of store r) 0 v e (cells_in s past store r h)
  first_cell_in _ = tt

  -- ---- java/lang/String

  length_in : (args : List Value) → N (text_length s store args)
  unfolding text_length
  length_in (value.Ref r ∷ []) = result_in (value.Int (pos (length (text_of store r)))) (small_int (length (text_of store r)) (text_small s past store r h))
  length_in _ = tt

  unit_of_fits : (v : Value) → V v → FitsSigned w32 (pos (unit_of v))
  unfolding unit_of not_below_zero
  unit_of_fits (value.Int (pos n)) i = i
  unit_of_fits (value.Int (negsuc n)) i = record { sfits = omega arith }
  unit_of_fits _ i = record { sfits = omega arith }

  unit_at_in : (units : List ℕ) (i : ℤ) → AllByRecursion (λ u. FitsSigned w32 (pos u)) units → N (unit_at store units i)
  unfolding unit_at
  unit_at_in units (negsuc i) f = string_index_class
  unit_at_in units (pos i) f = by (slice_get units i) refl
    where
      by : (o : Option ℕ) → slice_get units i ≡ o → N (elim o as (λ _. BuiltInOutcome) [ None ↦ Raises string_index_exception | Some u ↦ result_value store (value.Int (pos u)) ])
      by None e = string_index_class
      by (Some u) e = result_in (value.Int (pos u)) (all_get (λ u. FitsSigned w32 (pos u)) units i u e f)

  unit_in : (args : List Value) → N (text_unit s store args)
  unfolding text_unit text_of
  unit_in (value.Ref r ∷ value.Int i ∷ []) = unit_at_in (map unit_of (cells_of store r)) i (all_map V (λ u. FitsSigned w32 (pos u)) unit_of unit_of_fits (cells_of store r) (cells_in s past store r h))
  unit_in _ = tt

  text_test_in : (args : List Value) → N (text_test s store args)
  unfolding text_test
  text_test_in (value.Ref r ∷ v ∷ []) = result_in (int_of_bool (is_text store (text_of store r) v)) (bool_in (is_text store (text_of store r) v) past store)
  text_test_in _ = tt

  hash_in : (args : List Value) → N (text_hash s store args)
  unfolding text_hash
  hash_in (value.Ref r ∷ []) = result_in (value.Int (hash_of (pos 0) (text_of store r))) (hash_fits (pos 0) (text_of store r) (record { sfits = omega arith }))
  hash_in _ = tt

  -- the class of an object that is below String, or below StringBuilder
  string_object : (r : ℕ) → V (value.Ref r) → ((a : ℕ) → class_of_object store r ≡ Some a → is_below s a string_class ≡ true) → class_of_object store r ≡ Some string_class
  string_object r i below = by (class_of_object store r) refl i
    where
      by : (o : Option ℕ) → class_of_object store r ≡ o → is_some o ≡ true → o ≡ Some string_class
      by None e q = cc
      by (Some a) e q = ap (λ (k : ℕ). Some k) (z.strings a (below a e))

  builder_object : (r : ℕ) → V (value.Ref r) → ((a : ℕ) → class_of_object store r ≡ Some a → is_below s a builder_class ≡ true) → class_of_object store r ≡ Some builder_class
  builder_object r i below = by (class_of_object store r) refl i
    where
      by : (o : Option ℕ) → class_of_object store r ≡ o → is_some o ≡ true → o ≡ Some builder_class
      by None e q = cc
      by (Some a) e q = ap (λ (k : ℕ). Some k) (z.builders a (below a e))

  concatenation_in : (args : List Value) → AllByRecursion V args → FitsCall s store string_class (string_type ∷ []) args → N (text_concatenation s store args)
  unfolding text_concatenation
  concatenation_in (value.Ref r ∷ value.Null ∷ []) i f = null_class
  concatenation_in (value.Ref r ∷ value.Ref o ∷ []) i f =
      let t = two_fit s store string_class string_type (value.Ref r) (value.Ref o) f in
      new_text_in (text_of store r ++ text_of store o) (λ new x. result_value new (value.Ref x))
      (all_append (λ u. u < 65536) (text_of store r) (text_of store o)
      (text_units s past store r h (string_object r i.0 (λ a e. t.below r a refl e)))
      (text_units s past store o h (string_fits s store (value.Ref o) z t.fit)))
      made_text
  concatenation_in _ i f = tt

  -- ---- java/lang/StringBuilder

  -- a new String becomes the text of a StringBuilder
  text_set : (b : ℕ) (x : Store × ℕ) → class_of_object store b ≡ Some builder_class → IsMade s past store string_class x → IsLater s past store (with_cell x.0 b 0 (value.Ref x.1))
  unfolding opened_built_in
  text_set b x c m =
      later_on s past store x.0 (with_cell x.0 b 0 (value.Ref x.1)) (record { grown = m.grown; store = m.store })
      (with_cell_in s past x.0 b 0 (value.Ref x.1) m.store (record {
        value = ap is_some m.object;
        unit = λ e. let q : Some builder_class ≡ Some string_class = sym (m.grown b builder_class c) ∙ e in absurd (two_is_not_one q);
        text = λ e. m.object;
      }))
    where
      two_is_not_one : Some builder_class ≡ Some string_class → ⊥
      two_is_not_one q = let p : builder_class ≡ string_class = cc in omega (arith, p)

  builder_in : (args : List Value) → AllByRecursion V args → FitsCall s store builder_class [] args → N (builder_constructor s store args)
  unfolding builder_constructor
  builder_in (value.Ref b ∷ []) i f =
      new_text_in [] (λ new x. Gives (with_cell new b 0 (value.Ref x)) None) tt
      (λ x m. (text_set b x (builder_object b i.0 (λ a e. alone_fits s store builder_class (value.Ref b) f b a refl e)) m, tt))
  builder_in _ i f = tt

  -- what is appended is of units
  append_in : (more : Store → Value → List ℕ) (t : List ℕ) (args : List Value) → ((v : Value) → V v → shape_fits s true (shape_of store v) t ≡ true → Units (more store v)) →
      AllByRecursion V args → FitsCall s store builder_class (t ∷ []) args → N (append_of more s store args)
  unfolding append_of result_value
  append_in more t (value.Ref b ∷ v ∷ []) g i f = by (slice_get (cells_of store b) 0) refl
    where
      x : IsOnObject s store builder_class (value.Ref b) v t
      x = two_fit s store builder_class t (value.Ref b) v f

      of : class_of_object store b ≡ Some builder_class
      of = builder_object b i.0 (λ a e. x.below b a refl e)

      longer : (r : ℕ) → class_of_object store r ≡ Some string_class →
          N (with_new_text store (text_of store r ++ more store v) (λ new x. result_value (with_cell new b 0 (value.Ref x)) (value.Ref b)))
      longer r e = new_text_in (text_of store r ++ more store v) (λ new x. result_value (with_cell new b 0 (value.Ref x)) (value.Ref b))
          (all_append (λ u. u < 65536) (text_of store r) (more store v) (text_units s past store r h e) (g v i.1.0 x.fit))
          (λ y m. let k = text_set b y of m in (k, object_there store (with_cell y.0 b 0 (value.Ref y.1)) b k.grown i.0))

      by : (o : Option Value) → slice_get (cells_of store b) 0 ≡ o → N (append_of more s store (value.Ref b ∷ v ∷ []))
      by None e = rw e null_class
      by (Some (value.Ref r)) e = rw e (longer r (all_get (IsTextIfObject store) (cells_of store b) 0 (value.Ref r) e (cells_text s past store b h of)))
      by (Some (value.Int n)) e = rw e null_class
      by (Some (value.Long n)) e = rw e null_class
      by (Some value.Null) e = rw e null_class
      by (Some (value.Portal k c)) e = rw e null_class
      by (Some (value.Mem m)) e = rw e null_class
  append_in more t _ g i f = tt

  text_appended : (v : Value) → V v → shape_fits s true (shape_of store v) string_type ≡ true → Units (appended_text store v)
  unfolding appended_text
  text_appended (value.Ref r) i e = text_units s past store r h (string_fits s store (value.Ref r) z e)
  text_appended _ i e = (omega arith, (omega arith, (omega arith, (omega arith, tt))))

  number_appended : (t : List ℕ) (v : Value) → V v → shape_fits s true (shape_of store v) t ≡ true → Units (appended_number store v)
  unfolding appended_number
  number_appended t (value.Int n) i e = signed_units n (int_is_long n i)
  number_appended t (value.Long n) i e = signed_units n i
  number_appended t _ i e = tt

  unit_appended : (t : List ℕ) (v : Value) → V v → shape_fits s true (shape_of store v) t ≡ true → Units (appended_unit store v)
  unfolding appended_unit cut_to_type not_below_zero
  unit_appended t (value.Int n) i e = let x = low_char_is n in (subst (λ (k : ℤ). not_below_zero k < 65536) (sym x.1) x.2, tt)
  unit_appended t _ i e = tt

  bool_appended : (t : List ℕ) (v : Value) → V v → shape_fits s true (shape_of store v) t ≡ true → Units (appended_bool store v)
  unfolding appended_bool
  bool_appended t (value.Int n) i e = by (int_le (pos 1) (cut_to_type (codes "Z") n))
    where
      by : (b : Bool) → Units (if b then codes "true" else codes "false")
      by true = (omega arith, (omega arith, (omega arith, (omega arith, tt))))
      by false = (omega arith, (omega arith, (omega arith, (omega arith, (omega arith, tt)))))
  bool_appended t _ i e = tt

  -- ---- jx/Zero

  act_if_in : (b : Bool) (c : ℕ) (a : Act) → IsClass s c → (b ≡ true → IsWellMade s past a) → N (act_if b c a)
  unfolding act_if
  act_if_in true c a k f = f refl
  act_if_in false c a k f = k

  short_text : (units : List ℕ) → Units units → is_short units ≡ true → IsText units
  unfolding is_short
  short_text units u e = record { short = grind (arith, nat_tests, e); sixteen_bits = u }

  text_act_in : (f : List ℕ → Act) (c : ℕ) (args : List Value) → ((units : List ℕ) → IsText units → IsWellMade s past (f units)) → AllByRecursion V args → FitsCall s store c (string_type ∷ []) args → N (text_act f s store args)
  unfolding text_act
  text_act_in f c (value.Null ∷ []) w i k = null_class
  text_act_in f c (value.Ref r ∷ []) w i k = act_if_in (is_short (text_of store r)) range_exception (f (text_of store r)) range_class
      (λ e. w (text_of store r) (short_text (text_of store r) (text_units s past store r h (string_fits s store (value.Ref r) z (one_fits s store c string_type (value.Ref r) k))) e))
  text_act_in f c _ w i k = tt

  int_act_in : (f : ℤ → Act) (args : List Value) → ((n : ℤ) → IsInt n → IsWellMade s past (f n)) → AllByRecursion V args → N (int_act f s store args)
  unfolding int_act
  int_act_in f (value.Int n ∷ []) w i = w n i.0
  int_act_in f _ w i = tt

  pause_in : (args : List Value) → N (pause s store args)
  unfolding pause
  pause_in args = tt

  name_tested : (name : List ℕ) → is_service_name name ≡ true → IsWellMade s past (act.Lookup name)
  unfolding is_well_made
  name_tested name e = (well_made_test s past (act.Lookup name)).0 e

  lookup_in : (args : List Value) → N (lookup s store args)
  unfolding lookup
  lookup_in (value.Null ∷ []) = null_class
  lookup_in (value.Ref r ∷ []) = act_if_in (is_service_name (text_of store r)) range_exception (act.Lookup (text_of store r)) range_class (name_tested (text_of store r))
  lookup_in _ = tt

  bind_in : (args : List Value) → AllByRecursion V args → N (bind s store args)
  unfolding bind
  bind_in (value.Null ∷ p ∷ []) i = null_class
  bind_in (value.Ref r ∷ value.Null ∷ []) i = null_class
  bind_in (value.Ref r ∷ value.Portal k c ∷ []) i = by (is_service_name (text_of store r)) refl
    where
      by : (b : Bool) → is_service_name (text_of store r) ≡ b → N (if b then Performs (act.Bind (text_of store r) k) else Raises range_exception)
      by true e = (name_tested (text_of store r) e, i.1.0.0)
      by false e = range_class
  bind_in (value.Ref r ∷ value.Ref o ∷ []) i = neither (is_service_name (text_of store r))
    where
      neither : (b : Bool) → N (if b then Raises class_cast_exception else Raises range_exception)
      neither true = cast_class
      neither false = range_class
  bind_in (value.Ref r ∷ value.Int o ∷ []) i = neither (is_service_name (text_of store r))
    where
      neither : (b : Bool) → N (if b then Raises class_cast_exception else Raises range_exception)
      neither true = cast_class
      neither false = range_class
  bind_in (value.Ref r ∷ value.Long o ∷ []) i = neither (is_service_name (text_of store r))
    where
      neither : (b : Bool) → N (if b then Raises class_cast_exception else Raises range_exception)
      neither true = cast_class
      neither false = range_class
  bind_in (value.Ref r ∷ value.Mem o ∷ []) i = neither (is_service_name (text_of store r))
    where
      neither : (b : Bool) → N (if b then Raises class_cast_exception else Raises range_exception)
      neither true = cast_class
      neither false = range_class
  bind_in _ i = tt

  named_interface : (c : ℕ) (name : List ℕ) (i : ℕ) → interface_named s c name ≡ Some i → IsClass s i
  unfolding interface_named
  named_interface c name i e =
      let x = then_some (class_named s name) (λ i. if is_interface s i && is_below s c i then Some i else None) i e in
      by (is_interface s x.0 && is_below s c x.0) x.0 x.1 x.2
    where
      by : (b : Bool) (k : ℕ) → class_named s name ≡ Some k → (if b then Some k else None) ≡ Some i → IsClass s i
      by true k q e = let r : k ≡ i = cc in subst (IsClass s) r (named_class s name k q)
      by false k q e = cc

  count_in : (n : ℤ) → is_thread_count n ≡ true → (1 ≤ not_below_zero n) × (not_below_zero n ≤ thread_limit)
  unfolding is_thread_count not_below_zero
  count_in (pos n) e = let q = both (nat_le 1 n) (nat_le n thread_limit) e in (grind (arith, nat_tests, q.0), grind (arith, nat_tests, q.1))
  count_in (negsuc n) e = let q : false ≡ true = (both false true e).0 in cc

  export_of_in : (v : Value) (name : List ℕ) (n : ℤ) → is_thread_count n ≡ true → N (export_of s store v name n)
  unfolding export_of
  export_of_in (value.Ref r) name n e = by (option_and_then (λ c. interface_named s c name) (class_of_object store r)) refl
    where
      by : (o : Option ℕ) → option_and_then (λ c. interface_named s c name) (class_of_object store r) ≡ o →
          N (elim o as (λ _. BuiltInOutcome) [ None ↦ Raises class_cast_exception | Some i ↦ Performs (act.Export (record { 0 = i }) (not_below_zero n)) ])
      by None q = cast_class
      by (Some i) q =
          let x = then_some (class_of_object store r) (λ c. interface_named s c name) i q in
          (named_interface x.0 name i x.2, (count_in n e).0, (count_in n e).1)
  export_of_in _ name n e = cast_class

  export_when : (v : Value) (r : ℕ) (k : ℤ) → N (if is_short (text_of store r) && is_thread_count k then export_of s store v (text_of store r) k else Raises range_exception)
  export_when v r k = by (is_short (text_of store r)) (is_thread_count k) refl
    where
      by : (a b : Bool) → is_thread_count k ≡ b → N (if a && b then export_of s store v (text_of store r) k else Raises range_exception)
      by true true e = export_of_in v (text_of store r) k e
      by true false e = range_class
      by false b e = range_class

  export_in : (args : List Value) → N (export s store args)
  unfolding export
  export_in (value.Null ∷ n ∷ k ∷ []) = null_class
  export_in (value.Ref o ∷ value.Null ∷ k ∷ []) = null_class
  export_in (value.Int o ∷ value.Null ∷ k ∷ []) = null_class
  export_in (value.Long o ∷ value.Null ∷ k ∷ []) = null_class
  export_in (value.Portal o c ∷ value.Null ∷ k ∷ []) = null_class
  export_in (value.Mem o ∷ value.Null ∷ k ∷ []) = null_class
  export_in (value.Ref o ∷ value.Ref r ∷ value.Int k ∷ []) = export_when (value.Ref o) r k
  export_in (value.Int o ∷ value.Ref r ∷ value.Int k ∷ []) = export_when (value.Int o) r k
  export_in (value.Long o ∷ value.Ref r ∷ value.Int k ∷ []) = export_when (value.Long o) r k
  export_in (value.Portal o c ∷ value.Ref r ∷ value.Int k ∷ []) = export_when (value.Portal o c) r k
  export_in (value.Mem o ∷ value.Ref r ∷ value.Int k ∷ []) = export_when (value.Mem o) r k
  export_in _ = tt

  -- ---- jx/Memory

  memory_in : (f : ObjectId → Act) (args : List Value) → ((m : ObjectId) → IsId m.0 → IsWellMade s past (f m)) → AllByRecursion V args → N (memory_act f s store args)
  unfolding memory_act
  memory_in f (value.Mem m ∷ []) w i = w m i.0
  memory_in f _ w i = tt

  memory_int_in : (f : ObjectId → ℤ → Act) (args : List Value) → ((m : ObjectId) (n : ℤ) → IsId m.0 → IsInt n → IsWellMade s past (f m n)) → AllByRecursion V args → N (memory_int_act f s store args)
  unfolding memory_int_act
  memory_int_in f (value.Mem m ∷ value.Int n ∷ []) w i = w m n i.0 i.1.0
  memory_int_in f _ w i = tt

  memory_ints_in : (f : ObjectId → ℤ → ℤ → Act) (args : List Value) → ((m : ObjectId) (n k : ℤ) → IsId m.0 → IsInt n → IsInt k → IsWellMade s past (f m n k)) → AllByRecursion V args → N (memory_ints_act f s store args)
  unfolding memory_ints_act
  memory_ints_in f (value.Mem m ∷ value.Int n ∷ value.Int k ∷ []) w i = w m n k i.0 i.1.0 i.1.1.0
  memory_ints_in f _ w i = tt

  fill_in : (args : List Value) → AllByRecursion V args → N (fill s store args)
  unfolding fill
  fill_in (value.Mem m ∷ value.Int n ∷ value.Int k ∷ value.Int b ∷ []) i = (i.1.0, i.1.1.0, omega arith, i.0)
  fill_in _ i = tt

  copy_in : (args : List Value) → AllByRecursion V args → N (copy s store args)
  unfolding copy
  copy_in (value.Mem m ∷ value.Int n ∷ value.Null ∷ value.Int to ∷ value.Int k ∷ []) i = null_class
  copy_in (value.Mem m ∷ value.Int n ∷ value.Mem o ∷ value.Int to ∷ value.Int k ∷ []) i = (i.1.0, i.1.1.1.0, i.1.1.1.1.0, i.0, i.1.1.0)
  copy_in _ i = tt

  -- ---- the list

  -- what a method of that class does is in order, with arguments that fit
  abbrev EffectIn : ℕ → BuiltInMethod → Type 0
  EffectIn c m = (args : List Value) → AllByRecursion V args → FitsCall s store c (parameter_types m.descriptor) args → N (m.effect s store args)

  object_list : AllByRecursion (EffectIn object_class) object_effects
  unfolding object_effects built_in_method
  object_list = (λ args i f. constructor_in args, (λ args i f. identity_in args, tt))

  string_list : AllByRecursion (EffectIn string_class) string_effects
  unfolding string_effects built_in_method parameter_types opened_types
  string_list = (λ args i f. length_in args, (λ args i f. unit_in args, (λ args i f. text_test_in args, (λ args i f. hash_in args, (λ args i f. concatenation_in args i f, tt)))))

  builder_list : AllByRecursion (EffectIn builder_class) builder_effects
  unfolding builder_effects built_in_method parameter_types opened_types
  builder_list = (
    λ args i f. builder_in args i f,
    (
      λ args i f. append_in appended_text string_type args text_appended i f,
      (
        λ args i f. append_in appended_number (codes "I") args (number_appended (codes "I")) i f,
        (
          λ args i f. append_in appended_number (codes "J") args (number_appended (codes "J")) i f,
          (
            λ args i f. append_in appended_unit (codes "C") args (unit_appended (codes "C")) i f,
            (
              λ args i f. append_in appended_bool (codes "Z") args (bool_appended (codes "Z")) i f,
              (λ args i f. first_cell_in args, tt),
            ),
          ),
        ),
      ),
    ),
  )

  constructor_list : (c : ℕ) → 3 ≤ c → AllByRecursion (EffectIn c) (constructor_effects c)
  unfolding constructor_effects built_in_method parameter_types opened_types
  constructor_list c l = (λ args i f. constructor_in args, (λ args i f. message_in c args l i f, tt))

  message_list : AllByRecursion (EffectIn throwable_class) message_effects
  unfolding message_effects built_in_method
  message_list = (λ args i f. first_cell_in args, tt)

  zero_list : AllByRecursion (EffectIn zero_class) zero_effects
  unfolding zero_effects built_in_method parameter_types opened_types
  zero_list = (
    λ args i f. text_act_in (λ t. act.Print t) zero_class args (λ t w. w) i f,
    (
      λ args i f. export_in args,
      (
        λ args i f. bind_in args i,
        (
          λ args i f. lookup_in args,
          (
            λ args i f. int_act_in (λ n. act.Alloc n) args (λ n w. w) i,
            (
              λ args i f. text_act_in (λ t. act.Spawn t) zero_class args (λ t w. w) i f,
              (
                λ args i f. int_act_in (λ n. act.Kill n) args (λ n w. w) i,
                (λ args i f. int_act_in (λ n. act.Exit n) args (λ n w. w) i, (λ args i f. pause_in args, tt)),
              ),
            ),
          ),
        ),
      ),
    ),
  )

  memory_list : AllByRecursion (EffectIn memory_class) memory_effects
  unfolding memory_effects built_in_method
  memory_list = (
    λ args i f. memory_in (λ m. act.Size m) args (λ m y. y) i,
    (
      λ args i f. memory_int_in (λ m at. act.Get m at 1) args (λ m n y w. (inl refl, w, y)) i,
      (
        λ args i f. memory_int_in (λ m at. act.Get m at 2) args (λ m n y w. (inr (inl refl), w, y)) i,
        (
          λ args i f. memory_int_in (λ m at. act.Get m at 4) args (λ m n y w. (inr (inr refl), w, y)) i,
          (
            λ args i f. memory_ints_in (λ m at v. act.Set m at 1 v) args (λ m n k y w x. (inl refl, w, x, y)) i,
            (
              λ args i f. memory_ints_in (λ m at v. act.Set m at 2 v) args (λ m n k y w x. (inr (inl refl), w, x, y)) i,
              (
                λ args i f. memory_ints_in (λ m at v. act.Set m at 4 v) args (λ m n k y w x. (inr (inr refl), w, x, y)) i,
                (
                  λ args i f. fill_in args i,
                  (
                    λ args i f. copy_in args i,
                    (
                      λ args i f. memory_ints_in (λ m at n. act.Sub m at n) args (λ m n k y w x. (w, x, y)) i,
                      (
                        λ args i f. memory_int_in (λ m at. act.Split m at) args (λ m n y w. (w, y)) i,
                        (λ args i f. memory_in (λ m. act.Revoke m) args (λ m y. y) i, (λ args i f. memory_in (λ m. act.Release m) args (λ m y. y) i, tt)),
                      ),
                    ),
                  ),
                ),
              ),
            ),
          ),
        ),
      ),
    ),
  )

  at_class : (c k : ℕ) (ms : List BuiltInMethod) → (c == k) ≡ true → AllByRecursion (EffectIn k) ms → AllByRecursion (EffectIn c) ms
  at_class c k ms e i = subst (λ (n : ℕ). AllByRecursion (EffectIn n) ms) (sym (eq_of c k e)) i

  throwable_list : AllByRecursion (EffectIn throwable_class) (constructor_effects throwable_class ++ message_effects)
  unfolding opened_built_in
  throwable_list = all_append (EffectIn throwable_class) (constructor_effects throwable_class) message_effects (constructor_list throwable_class (omega arith)) message_list

  -- all built-in methods of a class
  effects_list : (c : ℕ) → AllByRecursion (EffectIn c) (effects_of c)
  unfolding effects_of opened_built_in
  effects_list c = by (c == object_class) (c == string_class) (c == builder_class) (c == throwable_class) (c == portal_class) (c == zero_class) (c == memory_class) refl refl refl refl refl refl refl
    where
      high : (c == object_class) ≡ false → (c == string_class) ≡ false → (c == builder_class) ≡ false → 3 ≤ c
      high e0 e1 e2 = three c (differs c 0 e0) (differs c 1 e1) (differs c 2 e2)
        where
          three : (c : ℕ) → c ≢ 0 → c ≢ 1 → c ≢ 2 → 3 ≤ c
          three c a b d = omega (arith, a, b, d)

      by : (b0 b1 b2 b3 b4 b5 b6 : Bool) → (c == object_class) ≡ b0 → (c == string_class) ≡ b1 → (c == builder_class) ≡ b2 → (c == throwable_class) ≡ b3 → (c == portal_class) ≡ b4 → (c == zero_class) ≡ b5 → (c == memory_class) ≡ b6 →
          AllByRecursion (EffectIn c) (if b0 then object_effects else if b1 then string_effects else if b2 then builder_effects else if b3 then constructor_effects c ++ message_effects else if b4 then [] else if b5 then zero_effects else if b6 then memory_effects else constructor_effects c)
      by true b1 b2 b3 b4 b5 b6 e0 e1 e2 e3 e4 e5 e6 = at_class c object_class object_effects e0 object_list
      by false true b2 b3 b4 b5 b6 e0 e1 e2 e3 e4 e5 e6 = at_class c string_class string_effects e1 string_list
      by false false true b3 b4 b5 b6 e0 e1 e2 e3 e4 e5 e6 = at_class c builder_class builder_effects e2 builder_list
      by false false false true b4 b5 b6 e0 e1 e2 e3 e4 e5 e6 =
          all_append (EffectIn c) (constructor_effects c) message_effects (constructor_list c (high e0 e1 e2)) (at_class c throwable_class message_effects e3 message_list)
      by false false false false true b5 b6 e0 e1 e2 e3 e4 e5 e6 = tt
      by false false false false false true b6 e0 e1 e2 e3 e4 e5 e6 = at_class c zero_class zero_effects e5 zero_list
      by false false false false false false true e0 e1 e2 e3 e4 e5 e6 = at_class c memory_class memory_effects e6 memory_list
      by false false false false false false false e0 e1 e2 e3 e4 e5 e6 = constructor_list c (high e0 e1 e2)

  found_passes : (p : BuiltInMethod → Bool) (xs : List BuiltInMethod) (m : BuiltInMethod) → find p xs ≡ Some m → p m ≡ true
  found_passes p [] m e = cc
  found_passes p (x ∷ xs) m e = by (p x) refl e (found_passes p xs m)
    where
      by : (b : Bool) → p x ≡ b → cond b (Some x) (find p xs) ≡ Some m → (find p xs ≡ Some m → p m ≡ true) → p m ≡ true
      by true q e again = let i : x ≡ m = cc in ap p (sym i) ∙ q
      by false q e again = again e

  -- a built-in method of the system, with arguments that fit its descriptor
  pub native_in : (k : Method) (args : List Value) → AllByRecursion V args → ((x : Selector) → selector_at s k.selector.0 ≡ Some x → FitsCall s store k.class.0 (parameter_types x.descriptor) args) → N (built_in_outcome s store k args)
  unfolding built_in_outcome is_of
  native_in k args i f = by (option_and_then (λ x. find (is_of x) (effects_of k.class.0)) (selector_at s k.selector.0)) refl
    where
      by : (o : Option BuiltInMethod) → option_and_then (λ x. find (is_of x) (effects_of k.class.0)) (selector_at s k.selector.0) ≡ o → N (elim o as (λ _. BuiltInOutcome) [ None ↦ Unfit | Some b ↦ b.effect s store args ])
      by None e = tt
      by (Some m) e =
          let x = then_some (selector_at s k.selector.0) (λ x. find (is_of x) (effects_of k.class.0)) m e in
          let same : m.descriptor ≡ x.0.descriptor = (bytes_eq-Decides m.descriptor x.0.descriptor).0 (both (bytes_eq m.name x.0.name) (bytes_eq m.descriptor x.0.descriptor) (found_passes (is_of x.0) (effects_of k.class.0) m x.2)).1 in
          all_found (EffectIn k.class.0) (is_of x.0) (effects_of k.class.0) m x.2 (effects_list k.class.0) args i
          (subst (λ (d : List ℕ). FitsCall s store k.class.0 (parameter_types d) args) (sym same) (f x.0 x.1))
