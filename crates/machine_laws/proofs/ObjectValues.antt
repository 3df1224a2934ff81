-- The rows on objects make values of values, and the acts that they ask for are well made.
use Rattle.std.proofs.Common.{◌≡◌, ◌≢◌, refl, sym, ◌∙◌, ap, subst, ℕ, zero, suc, ◌+◌, ◌<◌, ◌≤◌, ℤ, pos, negsuc, Bool, true, false, cond, ◌&&◌, not, List, [], ◌∷◌, ◌++◌, length, take, drop, reverse, map, replicate, Option, Some, None, is_some, arith, ◌==◌, ◌⊎◌, inl, inr, slice_get}
use Rattle.std.specs.Prelude.{FitsSigned, nat_lt, if◌then◌else◌, codes, find, slice_set, flat_map, IfSome, IfNone}
use Rattle.std.specs.List.{AllByRecursion, prefix_len, position_or_len}
use Rattle.std.proofs.lemmas.List.{length-reverse}
use Rattle.std.proofs.lemmas.Slice.Eq.{bytes_eq-Decides}
use Rattle.link_model.specs.LinkFaults.{dimensions_of}
use Rattle.jx_base.proofs.BasicLaws.{eq_of, both}
use Rattle.program_model.proofs.WalkRounds.{Has, has_head, has_tail, has_cases, has_none}
use Rattle.std.specs.Int.{w8, w16, w32, int_rem_euclid}
use Rattle.std.specs.Str.{bytes_eq}
use Rattle.std.proofs.lemmas.Bool.Decides.{nat_tests}
use Rattle.class_grammar.specs.Flags.{is_abstract, is_static}
use Rattle.class_grammar.specs.Opcodes.{row_at}
use Rattle.jx_base.specs.declared.act.Act.TheVariants as act
use Rattle.jx_base.specs.declared.class_file.Code.{Code}
use Rattle.jx_base.specs.declared.class_file.Instr.{Instr}
use Rattle.jx_base.specs.declared.frame.Frame.{Frame}
use Rattle.jx_base.specs.declared.ids.ServiceId.{ServiceId}
use Rattle.jx_base.specs.declared.ids.ClassId.{ClassId}
use Rattle.jx_base.specs.declared.program.Class.{Class}
use Rattle.jx_base.specs.declared.program.Method.{Method}
use Rattle.jx_base.specs.declared.program.Resolved.{Resolved}
use Rattle.jx_base.specs.declared.program.Resolved.TheVariants as resolved
use Rattle.jx_base.specs.declared.program.Selector.{Selector}
use Rattle.jx_base.specs.declared.program.System.{System}
use Rattle.jx_base.specs.declared.row.Element.{Element}
use Rattle.jx_base.specs.declared.row.Invocation.{Invocation}
use Rattle.jx_base.specs.declared.row.Invocation.TheVariants as invocation
use Rattle.jx_base.specs.declared.row.Kind.{Kind}
use Rattle.jx_base.specs.declared.row.Kind.TheVariants as kind
use Rattle.jx_base.specs.declared.row.Row.{Row}
use Rattle.jx_base.specs.declared.row.Row.TheVariants as row
use Rattle.jx_base.specs.declared.value.Parcel.{Parcel}
use Rattle.jx_base.specs.declared.value.Value.{Value}
use Rattle.jx_base.specs.declared.value.Value.TheVariants as value
use Rattle.jx_base.specs.Basics.{passes, not_below_zero, first_some}
use Rattle.program_model.specs.Types.{signature_of, parameter_types, is_void, cut_to_type, element_type}
use Rattle.program_model.specs.Arithmetic.{low_bits, low_char}
use Rattle.program_model.specs.BuiltIn.{built_in_count, built_in_table, string_class, builder_class, throwable_class, portal_class, null_pointer_exception, array_index_exception, negative_size_exception, class_cast_exception, array_store_exception, stack_overflow_error, copy_exception, opened_built_in}
use Rattle.jx_base.specs.Histories.{Past}
use Rattle.program_model.specs.Instructions.{Reading, instruction_at, index_operand}
use Rattle.program_model.specs.Lookup.{class_at, class_named, method_at, selector_at, selector_of_method, selected_method, class_fits, is_built_in, instance_method, is_instance_method_of, chain_of, chain_within, supers_of, supers_within, parent_list, class_count, is_below, is_interface, shape_fits, shape_fits_class, Shape, ObjectShape, Unknown, constant_at}
use Rattle.machine_model.specs.NumericRows.{Locals, Stack, as_kind, is_null, slots_of, with_local}
use Rattle.program_model.specs.Ranges.{IsId}
use Rattle.program_model.specs.Parcels.{packed}
use Rattle.machine_model.specs.State.{Store, Core, class_of_object, shape_of, class_of_shape, default_of, kept_value, new_object, new_array, default_cells, cells_of, with_cell, static_types, class_of_frame, with_values, frame_behind, with_running, is_overfull, frame_of, frame_with, locals_with, code_of, code_bytes, is_overflow}
use Rattle.machine_model.specs.BuiltInMethods.{BuiltInOutcome, Gives, Performs, Raises, HasNoRoom, Unfit, BuiltInMethod, is_of, effects_of, built_in_outcome, text_cells, int_of_bool}
use Rattle.machine_model.specs.ObjectRows.{ObjectOutcome, given, next_unless_overfull, leaves, leaves_new, literal_of, with_literal, text_row, constant_row, kind_of, component_of, component_for, place_in, at_index, load_row, store_in, store_row, length_row, new_array_row, Making, making_of, with_elements, with_all_elements, nested_arrays, ints_of, has_negative, multi_array_row, field_type, is_object_of, get_field_row, fitting_value, put_field_row, get_static_row, put_static_row, new_row, fits_class, check_row, instance_row, throw_row, Taken, all_fit, taken_arguments, with_object, with_result, built_in_row, enter_row, run_row, portal_row, selected_row, invoke_at, invoke_on, invoke_row, result_of, return_row, return_value_row, return_void_row, name_of_class, type_of, class_row, constant_used_row, plain_row, uses_constant, object_row_in, object_row, is_element_type}
use Rattle.machine_model.specs.ObjectRows.{ObjectOutcome as object}
use Rattle.jx_model.specs.WellMade.{IsClass, IsWellMade}
use Rattle.machine_laws.specs.Values.{IsValueIn, IsValueInSome, IsObject, HasCountOf, IsStoreIn, IsFrameIn, HasObjectsOf}
use Rattle.machine_model.specs.Conditions.{IsTextIfObject}
use Rattle.machine_laws.specs.Sound.{IsSound, IsResolvedIn}
use Rattle.machine_laws.proofs.Lists.{length_set, mapped_length, all_append, all_drop, all_take, all_reverse, all_get, all_set, all_replicate, all_found}
use Rattle.machine_laws.proofs.NumericValues.{then_some, mapped_some, kind_same, built_in_class, with_local_in, AreLocals}
use Rattle.machine_model.specs.Conditions.{local_count}
use Rattle.machine_model.specs.State.{stack_limit}
use Rattle.std.proofs.lemmas.List.{length-replicate}
use Rattle.machine_laws.proofs.Ranges.{low_bits_8, low_bits_16, low_char_fits}
use Rattle.machine_laws.proofs.Stores.{IsLater, later_itself, later_on, IsMade, AreCellsOf, MayStand, new_object_in, new_array_in, default_in, default_text, default_cells_in, with_cell_in, with_same_objects, cells_in, cells_small, object_there, grows_to, values_grow, frames_grow}
use Rattle.machine_laws.proofs.Packing.{packed_in}
use Rattle.machine_laws.proofs.Natives.{Units, text_cells_in, named_class, native_in, IsNativeIn, string_fits}
use Rattle.machine_laws.specs.Called.{FitsCall}
use Rattle.std.specs.Option.{option_and_then, option_map, unwrap_or}

-- what a row on objects comes to, from a store
abbrev pub IsRowIn : System → Past → Store → ObjectOutcome → Type 0
IsRowIn s past before (object.Next core) = IsLater s past before core.store × AllByRecursion (IsFrameIn s past core.store) core.frames
IsRowIn s past before (object.Raise c) = IsClass s c
IsRowIn s past before (object.Raised r core) = IsLater s past before core.store × AllByRecursion (IsFrameIn s past core.store) core.frames × IsObject core.store r
IsRowIn s past before (object.Ask a) = IsWellMade s past a
IsRowIn s past before (object.Finish v core) = IsLater s past before core.store × AllByRecursion (IsFrameIn s past core.store) core.frames × IsValueInSome past core.store v
IsRowIn s past before object.BadCode = Unit {0}
IsRowIn s past before object.NotMine = Unit {0}

-- what a field or an element keeps of an int is an int
cut_fits : (type : List ℕ) (n : ℤ) → FitsSigned w32 n → FitsSigned w32 (cut_to_type type n)
unfolding cut_to_type
cut_fits type n h = by (bytes_eq type (codes "B")) (bytes_eq type (codes "C")) (bytes_eq type (codes "S")) (bytes_eq type (codes "Z"))
  where
    odd : (n : ℤ) → FitsSigned w32 (int_rem_euclid n (pos 2))
    odd (pos a) = record { sfits = omega arith }
    odd (negsuc a) = record { sfits = omega arith }

    by : (b c d z : Bool) → FitsSigned w32 (if b then low_bits w8 8 n else if c then low_char n else if d then low_bits w16 16 n else if z then int_rem_euclid n (pos 2) else n)
    by true c d z = low_bits_8 n
    by false true d z = low_char_fits n
    by false false true z = low_bits_16 n
    by false false false true = odd n
    by false false false false = h

kept_in : (past : Past) (store : Store) (type : List ℕ) (v : Value) → IsValueIn past store v → IsValueIn past store (kept_value type v)
unfolding kept_value
kept_in past store type (value.Int n) h = cut_fits type n h
kept_in past store type (value.Long n) h = h
kept_in past store type value.Null h = h
kept_in past store type (value.Ref r) h = h
kept_in past store type (value.Portal k c) h = h
kept_in past store type (value.Mem m) h = h

kept_text : (store : Store) (type : List ℕ) (v : Value) → IsTextIfObject store v → IsTextIfObject store (kept_value type v)
unfolding kept_value
kept_text store type (value.Int n) h = tt
kept_text store type (value.Long n) h = h
kept_text store type value.Null h = h
kept_text store type (value.Ref r) h = h
kept_text store type (value.Portal k c) h = h
kept_text store type (value.Mem m) h = h

-- a String has no elements, and neither has a StringBuilder
no_component : (s : System) (store : Store) (r : ℕ) (type : List ℕ) → IsSound s → component_of s store r ≡ Some type → (class_of_object store r ≢ Some string_class) × (class_of_object store r ≢ Some builder_class)
unfolding component_of opened_built_in
no_component s store r type z h = (
  λ e. let q : option_and_then (λ k. k.component) (class_at s 1) ≡ Some type = subst (λ (o : Option ℕ). option_and_then (λ k. k.component) (option_and_then (class_at s) o) ≡ Some type) e h in
      let p : None ≡ Some type = subst (λ (o : Option Class). option_and_then (λ k. k.component) o ≡ Some type) (z.built_in 1 (omega arith)) q in cc,
  λ e. let q : option_and_then (λ k. k.component) (class_at s 2) ≡ Some type = subst (λ (o : Option ℕ). option_and_then (λ k. k.component) (option_and_then (class_at s) o) ≡ Some type) e h in
      let p : None ≡ Some type = subst (λ (o : Option Class). option_and_then (λ k. k.component) o ≡ Some type) (z.built_in 2 (omega arith)) q in cc,
)

-- a class that has a name has that name
place_passes : {X : Type 0} (p : X → Bool) (xs : List X) (x : X) → slice_get xs (prefix_len (λ x. not (p x)) xs) ≡ Some x → p x ≡ true
place_passes p [] x e = cc
place_passes p (y ∷ xs) x e = by (p y) refl e (place_passes p xs x)
  where
    by : (b : Bool) → p y ≡ b → slice_get (y ∷ xs) (cond (not b) (1 + prefix_len (λ x. not (p x)) xs) 0) ≡ Some x → (slice_get xs (prefix_len (λ x. not (p x)) xs) ≡ Some x → p x ≡ true) → p x ≡ true
    by true q e again = let i : y ≡ x = cc in ap p (sym i) ∙ q
    by false q e again = again (subst (λ (n : ℕ). slice_get (y ∷ xs) n ≡ Some x) (one_more (prefix_len (λ x. not (p x)) xs)) e)
      where
        one_more : (n : ℕ) → 1 + n ≡ suc n
        one_more n = omega arith

named_is : (s : System) (name : List ℕ) (c : ℕ) (k : Class) → class_named s name ≡ Some c → class_at s c ≡ Some k → k.name ≡ name
unfolding class_named class_at
named_is s name c k e q = by (nat_lt (position_or_len p s.program.classes) (length s.program.classes)) e
  where
    p : Class → Bool
    p k = bytes_eq k.name name

    by : (b : Bool) → cond b (Some (position_or_len p s.program.classes)) None ≡ Some c → k.name ≡ name
    by true e = let i : position_or_len p s.program.classes ≡ c = cc in (bytes_eq-Decides k.name name).0 (place_passes p s.program.classes k (subst (λ (n : ℕ). slice_get s.program.classes n ≡ Some k) (sym i) q))
    by false e = cc

pub heads : (a b : ℕ) (xs ys : List ℕ) → a ∷ xs ≡ b ∷ ys → a ≡ b
heads a b xs ys e = cc

-- the class of an array's name is no String
array_is_no_string : (s : System) (name : List ℕ) (c : ℕ) → IsSound s → class_named s (91 ∷ name) ≡ Some c → c ≢ string_class
unfolding opened_built_in
array_is_no_string s name c z e q =
    let k = z.built_in 1 (omega arith) in
    let n : codes "java/lang/String" ≡ 91 ∷ name = named_is s (91 ∷ name) 1 _ (subst (λ (c : ℕ). class_named s (91 ∷ name) ≡ Some c) q e) k in
    omega (arith, heads 106 91 (codes "ava/lang/String") name n)

-- an object of an array's class may have any number of cells
array_count : (s : System) (name : List ℕ) (c n : ℕ) → IsSound s → class_named s (91 ∷ name) ≡ Some c → HasCountOf s c n
unfolding dimensions_of
array_count s name c n z e q = by (class_at s c) refl
  where
    counted : (p : Option (List ℕ)) (k : Class) → is_some p ≡ true → IfNone p (n ≡ length k.fields)
    counted None k h = cc
    counted (Some type) k h = tt

    by : (o : Option Class) → class_at s c ≡ o → IfSome o (λ k. IfNone k.component (n ≡ length k.fields))
    by None w = tt
    by (Some k) w = counted k.component k (z.arrays c k w (subst (λ (x : List ℕ). 1 ≤ dimensions_of x) (sym (named_is s (91 ∷ name) c k e w)) (omega arith)))

-- a class of arrays: not String, and of any number of cells
pub record IsArrayClass (s : System) (c : ℕ) : Type 0 where
  pub other : c ≢ string_class
  pub any : (n : ℕ) → HasCountOf s c n

pub array_class_of : (s : System) (name : List ℕ) (c : ℕ) → IsSound s → class_named s (91 ∷ name) ≡ Some c → IsArrayClass s c
array_class_of s name c z e = record { other = array_is_no_string s name c z e; any = λ n. array_count s name c n z e }

-- the class of an array's name is no StringBuilder
array_named : (s : System) (name : List ℕ) (c : ℕ) → IsSound s → class_named s (91 ∷ name) ≡ Some c → c ≢ builder_class
unfolding opened_built_in
array_named s name c z e q =
    let k = z.built_in 2 (omega arith) in
    let n : codes "java/lang/StringBuilder" ≡ 91 ∷ name = named_is s (91 ∷ name) 2 _ (subst (λ (c : ℕ). class_named s (91 ∷ name) ≡ Some c) q e) k in
    omega (arith, heads 106 91 (codes "ava/lang/StringBuilder") name n)

taken_length : {X : Type 0} (n : ℕ) (xs : List X) → length (take n xs) ≤ n
taken_length zero xs = omega arith
taken_length (suc n) [] = omega arith
taken_length (suc n) (x ∷ xs) = omega (arith, taken_length n xs)

ints_length : (vs : List Value) (ns : List ℤ) → ints_of vs ≡ Some ns → length ns ≡ length vs
unfolding ints_of
ints_length [] ns e = let q : [] ≡ ns = cc in ap length (sym q)
ints_length (value.Int n ∷ vs) ns e = let x = mapped_some (λ ns. n ∷ ns) (ints_of vs) ns e in ap length (sym x.2) ∙ ap suc (ints_length vs x.0 x.1)
ints_length (value.Long n ∷ vs) ns e = cc
ints_length (value.Null ∷ vs) ns e = cc
ints_length (value.Ref n ∷ vs) ns e = cc
ints_length (value.Portal k n ∷ vs) ns e = cc
ints_length (value.Mem n ∷ vs) ns e = cc

-- ---- arrays of arrays

-- what is made is of a later store
record IsMakingIn (s : System) (past : Past) (before : Store) (x : Making) : Type 0 where
  later : IsLater s past before x.store
  array : (r : ℕ) → x.array ≡ Some r → IsObject x.store r

-- an object that is neither a StringBuilder nor a String
record IsNoBuilder (store : Store) (r : ℕ) : Type 0 where
  class : ℕ
  of : class_of_object store r ≡ Some class
  other : class ≢ builder_class
  array : class ≢ string_class

module _ (s : System) (past : Past) (z : IsSound s) where
  element_in : (store : Store) (r i e : ℕ) → IsStoreIn s past store → IsNoBuilder store r → IsObject store e → IsLater s past store (with_cell store r i (value.Ref e))
  element_in store r i e h b o = with_cell_in s past store r i (value.Ref e) h (record {
    value = o;
    unit = λ c. absurd (b.array (let q : Some b.class ≡ Some string_class = sym b.of ∙ c in let p : b.class ≡ string_class = cc in p));
    text = λ c. absurd (b.other (let q : Some b.class ≡ Some builder_class = sym b.of ∙ c in let p : b.class ≡ builder_class = cc in p));
  })

  still_none : (before after : Store) (r : ℕ) → HasObjectsOf before after → IsNoBuilder before r → IsNoBuilder after r
  still_none before after r g b = record { class = b.class; of = g r b.class b.of; other = b.other; array = b.array }

  elements_in : (make : Store → Making) → ((st : Store) → IsStoreIn s past st → IsMakingIn s past st (make st)) → (r i n : ℕ) (store : Store) → IsStoreIn s past store → IsNoBuilder store r → IsMakingIn s past store (with_elements make r i n store)
  unfolding with_elements
  elements_in make f r i zero store h b = record { later = later_itself s past store h; array = λ k e. let q : r ≡ k = cc in subst (IsObject store) q (ap is_some b.of) }
  elements_in make f r i (suc n) store h b = by (make store).array refl (λ st x y. elements_in make f r (i + 1) n st x y)
    where
      m : IsMakingIn s past store (make store)
      m = f store h

      by : (o : Option ℕ) → (make store).array ≡ o → ((st : Store) → IsStoreIn s past st → IsNoBuilder st r → IsMakingIn s past st (with_elements make r (i + 1) n st)) →
          IsMakingIn s past store (elim o as (λ _. Making) [ None ↦ make store | Some e ↦ with_elements make r (i + 1) n (with_cell (make store).store r i (value.Ref e)) ])
      by None q again = m
      by (Some e) q again =
          let b' = still_none store (make store).store r m.later.grown b in
          let l = element_in (make store).store r i e m.later.store b' (m.array e q) in
          let t = again (with_cell (make store).store r i (value.Ref e)) l.store (still_none (make store).store (with_cell (make store).store r i (value.Ref e)) r l.grown b') in
          record { later = later_on s past store (with_cell (make store).store r i (value.Ref e)) (with_elements make r (i + 1) n (with_cell (make store).store r i (value.Ref e))).store (later_on s past store (make store).store (with_cell (make store).store r i (value.Ref e)) m.later l) t.later; array = t.array }

  pub array_cells : (store : Store) (c n : ℕ) (type : List ℕ) → IsArrayClass s c → AreCellsOf s past store c (replicate n (default_of type))
  array_cells store c n type a = record {
    count = subst (HasCountOf s c) (sym (length-replicate n (default_of type))) (a.any n);
    values = all_replicate (IsValueIn past store) n (default_of type) (default_in past store type);
    units = λ e. absurd (a.other e);
    text = λ e. all_replicate (IsTextIfObject store) n (default_of type) (default_text store type);
  }

  -- one array alone: its class is that of the name
  alone_in : (store : Store) (name : List ℕ) (n : ℕ) (o : Option (Store × ℕ)) → ((c : ℕ) → class_named s name ≡ Some c → IsArrayClass s c) → IsStoreIn s past store → option_and_then (λ c. new_array store c n (default_of (drop 1 name))) (class_named s name) ≡ o →
      IsMakingIn s past store (making_of store o) × ((r : ℕ) → (making_of store o).array ≡ Some r → (c : ℕ) × (class_named s name ≡ Some c) × (class_of_object (making_of store o).store r ≡ Some c))
  unfolding making_of
  alone_in store name n None a h e = (record { later = later_itself s past store h; array = λ r q. cc }, λ r q. cc)
  alone_in store name n (Some x) a h e =
      let y = then_some (class_named s name) (λ c. new_array store c n (default_of (drop 1 name))) x e in
      let m = new_array_in s past store y.0 n (default_of (drop 1 name)) x h (named_class s name y.0 y.1) (array_cells store y.0 n (drop 1 name) (a y.0 y.1)) y.2 in (
        record { later = record { grown = m.grown; store = m.store }; array = λ r q. let i : x.1 ≡ r = cc in subst (IsObject x.0) i (ap is_some m.object) },
        λ r q. let i : x.1 ≡ r = cc in (y.0, y.1, subst (λ (k : ℕ). class_of_object x.0 k ≡ Some y.0) i m.object),
      )

  all_elements_in : (make : Store → Making) → ((st : Store) → IsStoreIn s past st → IsMakingIn s past st (make st)) → (n : ℕ) (store : Store) (x : Making) → IsMakingIn s past store x → ((r : ℕ) → x.array ≡ Some r → IsNoBuilder x.store r) → IsMakingIn s past store (with_all_elements make n x)
  unfolding with_all_elements
  all_elements_in make f n store x m b = by x.array refl
    where
      by : (o : Option ℕ) → x.array ≡ o → IsMakingIn s past store (elim o as (λ _. Making) [ None ↦ x | Some r ↦ with_elements make r 0 n x.store ])
      by None e = m
      by (Some r) e = let t = elements_in make f r 0 n x.store m.later.store (b r e) in record { later = later_on s past store x.store (with_elements make r 0 n x.store).store m.later t.later; array = t.array }

  array_at : (u : ℕ) (name : List ℕ) → u ≡ 91 → (c : ℕ) → class_named s (u ∷ name) ≡ Some c → IsArrayClass s c
  array_at u name e c q = array_class_of s name c z (subst (λ (v : ℕ). class_named s (v ∷ name) ≡ Some c) e q)

  nested_in : (lengths : List ℕ) (name : List ℕ) (store : Store) → length lengths ≤ dimensions_of name → IsStoreIn s past store → IsMakingIn s past store (nested_arrays s lengths name store)
  unfolding nested_arrays dimensions_of
  nested_in [] name store l h = record { later = later_itself s past store h; array = λ r q. cc }
  nested_in (n ∷ []) [] store l h = absurd (omega (arith, l))
  nested_in (n ∷ []) (u ∷ name) store l h = by (u == 91) refl l
    where
      by : (b : Bool) → (u == 91) ≡ b → length (n ∷ []) ≤ (elim b as (λ _. ℕ) [ true ↦ suc (dimensions_of name) | false ↦ 0 ]) → IsMakingIn s past store (nested_arrays s (n ∷ []) (u ∷ name) store)
      by false e l = absurd (omega (arith, l))
      by true e l = (alone_in store (u ∷ name) n (option_and_then (λ c. new_array store c n (default_of name)) (class_named s (u ∷ name))) (array_at u name (eq_of u 91 e)) h refl).0
  nested_in (n ∷ m ∷ more) [] store l h = absurd (omega (arith, l))
  nested_in (n ∷ m ∷ more) (u ∷ name) store l h = by (u == 91) refl l (λ st k x. nested_in (m ∷ more) name st k x)
    where
      by : (b : Bool) → (u == 91) ≡ b → length (n ∷ m ∷ more) ≤ (elim b as (λ _. ℕ) [ true ↦ suc (dimensions_of name) | false ↦ 0 ]) →
          ((st : Store) → length (m ∷ more) ≤ dimensions_of name → IsStoreIn s past st → IsMakingIn s past st (nested_arrays s (m ∷ more) name st)) → IsMakingIn s past store (nested_arrays s (n ∷ m ∷ more) (u ∷ name) store)
      by false e l again = absurd (omega (arith, l))
      by true e l again =
          let x = alone_in store (u ∷ name) n (option_and_then (λ c. new_array store c n (default_of name)) (class_named s (u ∷ name))) (array_at u name (eq_of u 91 e)) h refl in
          all_elements_in (nested_arrays s (m ∷ more) name) (λ st k. again st (omega (arith, l)) k) n store (making_of store (option_and_then (λ c. new_array store c n (default_of name)) (class_named s (u ∷ name)))) x.0
          (λ r q. let y = x.1 r q in record { class = y.0; of = y.2; other = array_named s name y.0 z (subst (λ (v : ℕ). class_named s (v ∷ name) ≡ Some y.0) (eq_of u 91 e) y.1); array = (array_at u name (eq_of u 91 e) y.0 y.1).other })

has_left : (a b : List ℕ) (x : ℕ) → Has a x → Has (a ++ b) x
has_left [] b x h = has_none x h
has_left (y ∷ a) b x h = elim (has_cases y a x h) [
  | inl q ↦ subst (λ (z : ℕ). Has (y ∷ (a ++ b)) z) q (has_head y (a ++ b))
  | inr t ↦ has_tail y (a ++ b) x (has_left a b x t)
]

has_right : (a b : List ℕ) (x : ℕ) → Has b x → Has (a ++ b) x
has_right [] b x h = h
has_right (y ∷ a) b x h = has_tail y (a ++ b) x (has_right a b x h)

has_append : (a b : List ℕ) (x : ℕ) → Has (a ++ b) x → Has a x ⊎ Has b x
has_append [] b x h = inr h
has_append (y ∷ a) b x h = elim (has_cases y (a ++ b) x h) [
  | inl q ↦ inl (subst (λ (z : ℕ). Has (y ∷ a) z) q (has_head y a))
  | inr t ↦ elim (has_append a b x t) [ inl l ↦ inl (has_tail y a x l) | inr r ↦ inr r ]
]

-- the chain of a parent, among what a class extends and implements
in_parent : (f g : ℕ → List ℕ) (x : ℕ) → ((c : ℕ) → Has (f c) x → Has (g c) x) → (p : Option ClassId) (before : List ℕ) → Has (flat_map f (parent_list p)) x → Has (flat_map g (before ++ parent_list p)) x
unfolding parent_list
in_parent f g x k None before h = has_none x h
in_parent f g x k (Some p) [] h = elim (has_append (f p.0) [] x h) [ inl a ↦ has_left (g p.0) [] x (k p.0 a) | inr b ↦ has_none x b ]
in_parent f g x k (Some p) (c ∷ before) h = has_right (g c) (flat_map g (before ++ p.0 ∷ [])) x (in_parent f g x k (Some p) before h)

-- what a class's chain has it extends or is
chain_below : (s : System) (n c x : ℕ) → Has (chain_within s n c) x → Has (supers_within s n c) x
unfolding chain_within supers_within
chain_below s zero c x h = has_none x h
chain_below s (suc n) c x h = by (class_at s c) h (λ d k. chain_below s n d x k)
  where
    by : (o : Option Class) → Has (elim o as (λ _. List ℕ) [ None ↦ [] | Some k ↦ c ∷ flat_map (chain_within s n) (parent_list k.parent) ]) x → ((d : ℕ) → Has (chain_within s n d) x → Has (supers_within s n d) x) →
        Has (elim o as (λ _. List ℕ) [ None ↦ [] | Some k ↦ c ∷ flat_map (supers_within s n) (map (λ (i : ClassId). i.0) k.interfaces ++ parent_list k.parent) ]) x
    by None h again = has_none x h
    by (Some k) h again = elim (has_cases c (flat_map (chain_within s n) (parent_list k.parent)) x h) [
      | inl q ↦ subst (λ (z : ℕ). Has (c ∷ flat_map (supers_within s n) (map (λ (i : ClassId). i.0) k.interfaces ++ parent_list k.parent)) z) q (has_head c (flat_map (supers_within s n) (map (λ (i : ClassId). i.0) k.interfaces ++ parent_list k.parent)))
      | inr t ↦ has_tail c (flat_map (supers_within s n) (map (λ (i : ClassId). i.0) k.interfaces ++ parent_list k.parent)) x (in_parent (chain_within s n) (supers_within s n) x again k.parent (map (λ (i : ClassId). i.0) k.interfaces) t)
    ]

-- the first item of which something is given
record IsFirst (f : ℕ → Option ℕ) (xs : List ℕ) (y : ℕ) : Type 0 where
  item : ℕ
  has : Has xs item
  gives : f item ≡ Some y

first_is : (f : ℕ → Option ℕ) (xs : List ℕ) (y : ℕ) → first_some f xs ≡ Some y → IsFirst f xs y
unfolding first_some
first_is f [] y e = cc
first_is f (x ∷ xs) y e = by (f x) refl e (first_is f xs y)
  where
    by : (o : Option ℕ) → f x ≡ o → (elim o as (λ _. Option ℕ) [ Some z ↦ Some z | None ↦ first_some f xs ]) ≡ Some y → (first_some f xs ≡ Some y → IsFirst f xs y) → IsFirst f (x ∷ xs) y
    by None q e again = let r = again e in record { item = r.item; has = has_tail x xs r.item r.has; gives = r.gives }
    by (Some z) q e again = record { item = x; has = has_head x xs; gives = q ∙ e }

instance_is : (s : System) (selector c m : ℕ) (j : Method) → instance_method s selector c ≡ Some m → method_at s m ≡ Some j → is_instance_method_of selector c j ≡ true
unfolding instance_method method_at
instance_is s selector c m j e q = by (nat_lt (position_or_len (is_instance_method_of selector c) s.program.methods) (length s.program.methods)) e
  where
    by : (b : Bool) → cond b (Some (position_or_len (is_instance_method_of selector c) s.program.methods)) None ≡ Some m → is_instance_method_of selector c j ≡ true
    by true e = let i : position_or_len (is_instance_method_of selector c) s.program.methods ≡ m = cc in place_passes (is_instance_method_of selector c) s.program.methods j (subst (λ (n : ℕ). slice_get s.program.methods n ≡ Some j) (sym i) q)
    by false e = cc

-- a selected method is of the selector, and of a class that the object's class is below
pub selected_is : (s : System) (a selector m : ℕ) (j : Method) → selected_method s a selector ≡ Some m → method_at s m ≡ Some j → (is_below s a j.class.0 ≡ true) × (j.selector.0 ≡ selector)
unfolding selected_method chain_of is_below supers_of is_instance_method_of
selected_is s a selector m j e q =
    let f = first_is (instance_method s selector) (chain_within s (class_count s) a) m e in
    let t = instance_is s selector f.item m j f.gives q in
    let u = both ((j.class.0 == f.item) && (j.selector.0 == selector)) (not (is_static j.flags)) t in
    let v = both (j.class.0 == f.item) (j.selector.0 == selector) u.0 in
    (subst (λ (c : ℕ). Has (supers_within s (class_count s) a) c) (sym (eq_of j.class.0 f.item v.0)) (chain_below s (class_count s) a f.item f.has), eq_of j.selector.0 selector v.1)

result_none : (stack : Stack) → with_result None stack ≡ stack
unfolding with_result
result_none stack = refl

result_some : (v : Value) (stack : Stack) → with_result (Some v) stack ≡ v ∷ stack
unfolding with_result
result_some v stack = refl

class_of_reference : (store : Store) (r a n : ℕ) → class_of_object store r ≡ Some a → class_of_shape (shape_of store (value.Ref r)) ≡ Some n → n ≡ a
unfolding shape_of class_of_shape
class_of_reference store r a n of e =
    let q : Some a ≡ Some n = subst (λ (o : Option ℕ). class_of_shape (elim o as (λ _. Shape) [ None ↦ Unknown | Some c ↦ ObjectShape c ]) ≡ Some n) of e in cc

-- the locals and the stack of a new frame
count_of : (s : System) (m : ℕ) (c : Code) (l : Locals) → code_of s m ≡ Some c → local_count s (frame_with m c l) ≡ c.max_locals
unfolding local_count frame_with
count_of s m c l e = ap (λ (o : Option Code). unwrap_or (option_map (λ (c : Code). c.max_locals) o) 0) e

limit_of : (s : System) (m : ℕ) (c : Code) (l : Locals) → code_of s m ≡ Some c → stack_limit s (frame_with m c l) ≡ c.max_stack
unfolding stack_limit frame_with
limit_of s m c l e = ap (λ (o : Option Code). unwrap_or (option_map (λ (c : Code). c.max_stack) o) 0) e

no_effects : (x : Selector) (m : BuiltInMethod) → find (is_of x) (effects_of portal_class) ≡ Some m → ⊥
unfolding effects_of opened_built_in
no_effects x m e = cc

module _ (s : System) (past : Past) (core : Core) (z : IsSound s) (fs : AllByRecursion (IsFrameIn s past core.store) core.frames) (h : IsStoreIn s past core.store) where
  abbrev R : ObjectOutcome → Type 0
  R o = IsRowIn s past core.store o

  abbrev V : Value → Type 0
  V v = IsValueIn past core.store v

  abbrev Vs : List Value → Type 0
  Vs vs = AllByRecursion (IsValueIn past core.store) vs

  same : IsLater s past core.store core.store
  same = later_itself s past core.store h

  -- frames and values of a later store
  later_frames : (after : Store) → IsLater s past core.store after → (xs : List Frame) → AllByRecursion (IsFrameIn s past core.store) xs → AllByRecursion (IsFrameIn s past after) xs
  later_frames after l xs i = frames_grow s past core.store past after (grows_to past core.store after l.grown) xs i

  later_values : (after : Store) → IsLater s past core.store after → (vs : List Value) → Vs vs → AllByRecursion (IsValueIn past after) vs
  later_values after l vs i = values_grow s past core.store past after (grows_to past core.store after l.grown) vs i

  given_in : {A : Type 0} (o : Option A) (go : A → ObjectOutcome) → ((x : A) → o ≡ Some x → R (go x)) → R (given o go)
  unfolding given
  given_in None go f = tt
  given_in (Some x) go f = f x refl

  next_in : (store : Store) (frames : List Frame) → IsLater s past core.store store → AllByRecursion (IsFrameIn s past store) frames → R (next_unless_overfull s store frames)
  unfolding next_unless_overfull
  next_in store frames l i = by (is_overfull s frames)
    where
      by : (b : Bool) → R (if b then object.BadCode else object.Next (record { frames = frames; store = store }))
      by true = tt
      by false = (l, i)

  behind_in : (store : Store) (stack : Stack) (frames : List Frame) → AllByRecursion (IsFrameIn s past store) frames → AllByRecursion (IsValueIn past store) stack → AllByRecursion (IsFrameIn s past store) (with_running (frame_behind s stack) frames)
  unfolding with_running frame_behind with_values local_count stack_limit
  behind_in store stack [] i k = tt
  behind_in store stack (f ∷ frames) i k = (record { method = i.0.method; place = z.goes_on f (frame_behind s stack f) i.0.place refl refl; count = i.0.count; room = i.0.room; locals = i.0.locals; stack = k }, i.1)

  below_in : (store : Store) (stack : Stack) (frames : List Frame) → AllByRecursion (IsFrameIn s past store) frames → AllByRecursion (IsValueIn past store) stack → AllByRecursion (IsFrameIn s past store) (with_running (with_values stack) frames)
  unfolding with_running with_values code_bytes local_count stack_limit
  below_in store stack [] i k = tt
  below_in store stack (f ∷ frames) i k = (record { method = i.0.method; place = i.0.place; count = i.0.count; room = i.0.room; locals = i.0.locals; stack = k }, i.1)

  leaves_in : (store : Store) (stack : Stack) → IsLater s past core.store store → AllByRecursion (IsValueIn past store) stack → R (leaves s core store stack)
  unfolding leaves
  leaves_in store stack l i = next_in store (with_running (frame_behind s stack) core.frames) l (behind_in store stack core.frames (later_frames store l core.frames fs) i)

  -- an object of a later store
  record IsFresh (x : Store × ℕ) : Type 0 where
    later : IsLater s past core.store x.0
    object : IsObject x.0 x.1

  leaves_new_in : (stack : Stack) (o : Option (Store × ℕ)) → Vs stack → ((x : Store × ℕ) → o ≡ Some x → IsFresh x) → R (leaves_new s core stack o)
  unfolding leaves_new
  leaves_new_in stack None i f = (same, fs, h.first)
  leaves_new_in stack (Some x) i f = let m = f x refl in leaves_in x.0 (value.Ref x.1 ∷ stack) m.later (m.object, later_values x.0 m.later stack i)

  made : (c : ℕ) (x : Store × ℕ) → IsMade s past core.store c x → IsFresh x
  made c x m = record { later = record { grown = m.grown; store = m.store }; object = ap is_some m.object }

  -- ---- classes of exceptions

  exception : (c : ℕ) → c < built_in_count → is_some (slice_get built_in_table c) ≡ true → IsClass s c
  exception c l e = built_in_class s c z l e

  null_class : IsClass s null_pointer_exception
  unfolding opened_built_in
  null_class = exception 7 (omega arith) refl

  array_index_class : IsClass s array_index_exception
  unfolding opened_built_in
  array_index_class = exception 9 (omega arith) refl

  negative_class : IsClass s negative_size_exception
  unfolding opened_built_in
  negative_class = exception 11 (omega arith) refl

  cast_class : IsClass s class_cast_exception
  unfolding opened_built_in
  cast_class = exception 12 (omega arith) refl

  array_store_class : IsClass s array_store_exception
  unfolding opened_built_in
  array_store_class = exception 13 (omega arith) refl

  overflow_class : IsClass s stack_overflow_error
  unfolding opened_built_in
  overflow_class = exception 17 (omega arith) refl

  copy_class : IsClass s copy_exception
  unfolding opened_built_in
  copy_class = exception 21 (omega arith) refl

  string_known : IsClass s string_class
  unfolding opened_built_in
  string_known = exception 1 (omega arith) refl

  -- ---- constants

  literal_in : (text : List ℕ) (r : ℕ) → literal_of core.store.literals text ≡ Some r → IsObject core.store r
  unfolding literal_of
  literal_in text r e =
      let x = mapped_some (λ (x : List ℕ × ℕ). x.1) (find (λ (x : List ℕ × ℕ). bytes_eq x.0 text) core.store.literals) r e in
      subst (IsObject core.store) x.2 (all_found (λ (x : List ℕ × ℕ). IsObject core.store x.1) (λ (x : List ℕ × ℕ). bytes_eq x.0 text) core.store.literals x.0 x.1 h.literals)

  with_literal_in : (text : List ℕ) (x : Store × ℕ) → IsFresh x → IsFresh (with_literal text x)
  unfolding with_literal
  with_literal_in text x m = record { later = later_on s past core.store x.0 new m.later l; object = object_there x.0 new x.1 l.grown m.object }
    where
      new : Store
      new = record x.0 { literals = x.0.literals ++ (text, x.1) ∷ [] }

      l : IsLater s past x.0 new
      l = with_same_objects s past x.0 new refl m.later.store m.later.store.room refl m.later.store.statics
          (all_append (λ (y : List ℕ × ℕ). IsObject x.0 y.1) x.0.literals ((text, x.1) ∷ []) m.later.store.literals (m.object, tt)) m.later.store.exports

  text_in : (text : List ℕ) (stack : Stack) → Units text → Vs stack → R (text_row s core text stack)
  unfolding text_row
  text_in text stack u i = by (literal_of core.store.literals text) refl
    where
      by : (o : Option ℕ) → literal_of core.store.literals text ≡ o →
          R (elim o as (λ _. ObjectOutcome) [ Some r ↦ leaves s core core.store (value.Ref r ∷ stack) | None ↦ leaves_new s core stack (option_map (with_literal text) (new_object core.store string_class (text_cells text))) ])
      by (Some r) e = leaves_in core.store (value.Ref r ∷ stack) same (literal_in text r e, i)
      by None e = leaves_new_in stack (option_map (with_literal text) (new_object core.store string_class (text_cells text))) i (λ x q.
          let y = mapped_some (with_literal text) (new_object core.store string_class (text_cells text)) x q in
          subst IsFresh y.2 (with_literal_in text y.0 (made string_class y.0 (new_object_in s past core.store string_class (text_cells text) y.0 h string_known (text_cells_in s past core.store text u) y.1))))

  constant_in : (x : Resolved) (stack : Stack) → IsResolvedIn s x → Vs stack → R (constant_row s core x stack)
  unfolding constant_row
  constant_in (resolved.Int n) stack k i = leaves_in core.store (value.Int n ∷ stack) same (k, i)
  constant_in (resolved.Str text) stack k i = text_in text stack k i
  constant_in _ stack k i = tt

  -- ---- arrays

  at_index_in : (r : ℕ) (i : ℤ) (go : ℕ → ObjectOutcome) → ((k : ℕ) → R (go k)) → R (at_index core.store r i go)
  unfolding at_index
  at_index_in r i go f = by (place_in i (length (cells_of core.store r)))
    where
      by : (o : Option ℕ) → R (elim o as (λ _. ObjectOutcome) [ None ↦ object.Raise array_index_exception | Some k ↦ go k ])
      by None = array_index_class
      by (Some k) = f k

  load_in : (e : Element) (stack : Stack) → Vs stack → R (load_row s core e stack)
  unfolding load_row
  load_in e (value.Int i ∷ value.Null ∷ rest) k = null_class
  load_in e (value.Int i ∷ value.Ref r ∷ rest) k =
      given_in (component_for s core.store e r) _ (λ type q. at_index_in r i _ (λ n. given_in (slice_get (cells_of core.store r) n) _ (λ v w.
      leaves_in core.store (v ∷ rest) same (all_get V (cells_of core.store r) n v w (cells_in s past core.store r h), k.1.1))))
  load_in e _ k = tt

  -- the object that is an array of such elements has elements
  component_is : (e : Element) (r : ℕ) (type : List ℕ) → component_for s core.store e r ≡ Some type → component_of s core.store r ≡ Some type
  unfolding component_for
  component_is e r type q =
      let x = then_some (component_of s core.store r) (λ type. if is_element_type e type then Some type else None) type q in
      by (is_element_type e x.0) x.0 x.1 x.2
    where
      by : (b : Bool) (t : List ℕ) → component_of s core.store r ≡ Some t → (if b then Some t else None) ≡ Some type → component_of s core.store r ≡ Some type
      by true t p q = p ∙ q
      by false t p q = cc

  store_in_in : (e : Element) (v : Value) (i : ℤ) (r : ℕ) (rest : Stack) → V v → Vs rest → R (store_in s core e v i r rest)
  unfolding store_in
  store_in_in e v i r rest k ks =
      given_in (component_for s core.store e r) _ (λ type q. at_index_in r i _ (λ n. by type q n (shape_fits s false (shape_of core.store v) type)))
    where
      by : (type : List ℕ) → component_for s core.store e r ≡ Some type → (n : ℕ) (b : Bool) → R (if b then leaves s core (with_cell core.store r n (kept_value type v)) rest else object.Raise array_store_exception)
      by type q n true =
          let a = no_component s core.store r type z (component_is e r type q) in
          let l = with_cell_in s past core.store r n (kept_value type v) h (record { value = kept_in past core.store type v k; unit = λ c. absurd (a.0 c); text = λ c. absurd (a.1 c) }) in
          leaves_in (with_cell core.store r n (kept_value type v)) rest l (later_values (with_cell core.store r n (kept_value type v)) l rest ks)
      by type q n false = array_store_class

  store_row_in : (e : Element) (stack : Stack) → Vs stack → R (store_row s core e stack)
  unfolding store_row
  store_row_in e (v ∷ value.Int i ∷ value.Null ∷ rest) k = given_in (as_kind (kind_of e) v) _ (λ x q. null_class)
  store_row_in e (v ∷ value.Int i ∷ value.Ref r ∷ rest) k = given_in (as_kind (kind_of e) v) _ (λ x q. store_in_in e x i r rest (subst V (kind_same (kind_of e) v x q) k.0) k.1.1.1)
  store_row_in e _ k = tt

  length_in : (stack : Stack) → Vs stack → R (length_row s core stack)
  unfolding length_row
  length_in (value.Null ∷ rest) k = null_class
  length_in (value.Ref r ∷ rest) k = given_in (component_of s core.store r) _ (λ type q.
      leaves_in core.store (value.Int (pos (length (cells_of core.store r))) ∷ rest) same (record { sfits = omega (arith, cells_small s past core.store r h) }, k.1))
  length_in _ k = tt

  new_array_row_in : (type : List ℕ) (stack : Stack) → Vs stack → R (new_array_row s core type stack)
  unfolding new_array_row
  new_array_row_in type (value.Int (pos n) ∷ rest) k = given_in (class_named s (91 ∷ type)) _ (λ c q.
      leaves_new_in rest (new_array core.store c n (default_of type)) k.1 (λ x w. made c x (new_array_in s past core.store c n (default_of type) x h (named_class s (91 ∷ type) c q) (array_cells s past z core.store c n type (array_class_of s type c z q)) w)))
  new_array_row_in type (value.Int (negsuc n) ∷ rest) k = negative_class
  new_array_row_in type _ k = tt

  -- as many lengths as dimensions, which the class has
  multi_in : (type : List ℕ) (dimensions : ℕ) (stack : Stack) → dimensions ≤ dimensions_of type → Vs stack → R (multi_array_row s core type dimensions stack)
  unfolding multi_array_row
  multi_in type dimensions stack d i = by (nat_lt (length stack) dimensions)
    where
      made_all : (lengths : List ℤ) → ints_of (reverse (take dimensions stack)) ≡ Some lengths →
          (x : Making) → IsMakingIn s past core.store x → (o : Option ℕ) → x.array ≡ o →
          R (elim o as (λ _. ObjectOutcome) [ None ↦ object.Raised 0 (record core { store = x.store }) | Some r ↦ leaves s core x.store (value.Ref r ∷ drop dimensions stack) ])
      made_all lengths q x m None e = (m.later, later_frames x.store m.later core.frames fs, m.later.store.first)
      made_all lengths q x m (Some r) e = leaves_in x.store (value.Ref r ∷ drop dimensions stack) m.later (m.array r e, later_values x.store m.later (drop dimensions stack) (all_drop V dimensions stack i))

      short : (lengths : List ℤ) → ints_of (reverse (take dimensions stack)) ≡ Some lengths → length (map not_below_zero lengths) ≤ dimensions_of type
      short lengths q = omega (arith, d, mapped_length not_below_zero lengths, ints_length (reverse (take dimensions stack)) lengths q, length-reverse (take dimensions stack), taken_length dimensions stack)

      lengths_in : (lengths : List ℤ) → ints_of (reverse (take dimensions stack)) ≡ Some lengths → (b : Bool) →
          R (if b then object.Raise negative_size_exception else elim (nested_arrays s (map not_below_zero lengths) type core.store).array as (λ _. ObjectOutcome) [
            | None ↦ object.Raised 0 (record core { store = (nested_arrays s (map not_below_zero lengths) type core.store).store })
            | Some r ↦ leaves s core (nested_arrays s (map not_below_zero lengths) type core.store).store (value.Ref r ∷ drop dimensions stack)
          ])
      lengths_in lengths q true = negative_class
      lengths_in lengths q false =
          let x = nested_arrays s (map not_below_zero lengths) type core.store in
          made_all lengths q x (nested_in s past z (map not_below_zero lengths) type core.store (short lengths q) h) x.array refl

      by : (b : Bool) → R (if b then object.BadCode else given (ints_of (reverse (take dimensions stack))) (λ lengths.
          if has_negative lengths then object.Raise negative_size_exception
          else let x : Making = nested_arrays s (map not_below_zero lengths) type core.store in
          elim x.array as (λ _. ObjectOutcome) [ None ↦ object.Raised 0 (record core { store = x.store }) | Some r ↦ leaves s core x.store (value.Ref r ∷ drop dimensions stack) ]))
      by true = tt
      by false = given_in (ints_of (reverse (take dimensions stack))) _ (λ lengths q. lengths_in lengths q (has_negative lengths))

  -- ---- fields

  get_field_in : (c i : ℕ) (stack : Stack) → Vs stack → R (get_field_row s core c i stack)
  unfolding get_field_row
  get_field_in c i (value.Null ∷ rest) k = null_class
  get_field_in c i (value.Ref r ∷ rest) k = by (is_object_of s core.store c r)
    where
      by : (b : Bool) → R (if b then given (slice_get (cells_of core.store r) i) (λ v. leaves s core core.store (v ∷ rest)) else object.BadCode)
      by true = given_in (slice_get (cells_of core.store r) i) (λ v. leaves s core core.store (v ∷ rest)) (λ v w.
          leaves_in core.store (v ∷ rest) same (all_get V (cells_of core.store r) i v w (cells_in s past core.store r h), k.1))
      by false = tt
  get_field_in c i _ k = tt

  -- a value that fits a declared type, as it is kept
  record IsKept (v x : Value) (type : List ℕ) : Type 0 where
    fits : shape_fits s true (shape_of core.store v) type ≡ true
    is : kept_value type v ≡ x

  fitting_in : (v x : Value) (type : List ℕ) → fitting_value s core.store v type ≡ Some x → IsKept v x type
  unfolding fitting_value
  fitting_in v x type e = by (shape_fits s true (shape_of core.store v) type) refl e
    where
      by : (b : Bool) → shape_fits s true (shape_of core.store v) type ≡ b → (if b then Some (kept_value type v) else None) ≡ Some x → IsKept v x type
      by true q e = record { fits = q; is = let i : kept_value type v ≡ x = cc in i }
      by false q e = cc

  -- an object that is of class c may have the value in field i
  field_stands : (c i r : ℕ) (v x : Value) → V v → is_object_of s core.store c r ≡ true → option_and_then (fitting_value s core.store v) (field_type s c i) ≡ Some x → MayStand past core.store r x
  unfolding is_object_of passes
  field_stands c i r v x k o e =
      let y = then_some (field_type s c i) (fitting_value s core.store v) x e in
      let f = fitting_in v x y.0 y.2 in
      record {
        value = subst V f.is (kept_in past core.store y.0 v k);
        unit = λ q. absurd (z.string_fields c i y.0 (subst (λ (o : Option ℕ). passes (λ a. class_fits s a c) o ≡ true) q o) y.1);
        text = λ q.
            let t = z.builder_fields c i y.0 (subst (λ (o : Option ℕ). passes (λ a. class_fits s a c) o ≡ true) q o) y.1 in
            subst (IsTextIfObject core.store) f.is (kept_text core.store y.0 v (string_fits s core.store v z (subst (λ (t : List ℕ). shape_fits s true (shape_of core.store v) t ≡ true) t f.fits)));
      }

  put_in : (c i r : ℕ) (v x : Value) (rest : Stack) → V v → Vs rest → option_and_then (fitting_value s core.store v) (field_type s c i) ≡ Some x → (b : Bool) → is_object_of s core.store c r ≡ b →
      R (if b then leaves s core (with_cell core.store r i x) rest else object.BadCode)
  put_in c i r v x rest k ks e true q =
      let l = with_cell_in s past core.store r i x h (field_stands c i r v x k q e) in
      leaves_in (with_cell core.store r i x) rest l (later_values (with_cell core.store r i x) l rest ks)
  put_in c i r v x rest k ks e false q = tt

  put_field_in : (c i : ℕ) (stack : Stack) → Vs stack → R (put_field_row s core c i stack)
  unfolding put_field_row
  put_field_in c i [] k = tt
  put_field_in c i (v ∷ []) k = tt
  put_field_in c i (v ∷ value.Null ∷ rest) k = given_in (option_and_then (fitting_value s core.store v) (field_type s c i)) _ (λ x q. null_class)
  put_field_in c i (v ∷ value.Ref r ∷ rest) k = given_in (option_and_then (fitting_value s core.store v) (field_type s c i)) _ (λ x q. put_in c i r v x rest k.0 k.1.1 q (is_object_of s core.store c r) refl)
  put_field_in c i (v ∷ value.Int n ∷ rest) k = given_in (option_and_then (fitting_value s core.store v) (field_type s c i)) _ (λ x q. tt)
  put_field_in c i (v ∷ value.Long n ∷ rest) k = given_in (option_and_then (fitting_value s core.store v) (field_type s c i)) _ (λ x q. tt)
  put_field_in c i (v ∷ value.Portal n e ∷ rest) k = given_in (option_and_then (fitting_value s core.store v) (field_type s c i)) _ (λ x q. tt)
  put_field_in c i (v ∷ value.Mem n ∷ rest) k = given_in (option_and_then (fitting_value s core.store v) (field_type s c i)) _ (λ x q. tt)

  get_static_in : (i : ℕ) (stack : Stack) → Vs stack → R (get_static_row s core i stack)
  unfolding get_static_row
  get_static_in i stack k = given_in (slice_get core.store.statics i) (λ v. leaves s core core.store (v ∷ stack)) (λ v w. leaves_in core.store (v ∷ stack) same (all_get V core.store.statics i v w h.statics, k))

  put_static_in : (i : ℕ) (stack : Stack) → Vs stack → R (put_static_row s core i stack)
  unfolding put_static_row
  put_static_in i [] k = tt
  put_static_in i (v ∷ rest) k = given_in (option_and_then (fitting_value s core.store v) (slice_get (static_types s) i)) _ (λ x q.
      let y = then_some (slice_get (static_types s) i) (fitting_value s core.store v) x q in
      let f = fitting_in v x y.0 y.2 in
      let after : Store = record core.store { statics = slice_set core.store.statics i x } in
      let l = with_same_objects s past core.store after refl h h.room (length_set core.store.statics i x) (all_set V core.store.statics i x (subst V f.is (kept_in past core.store y.0 v k.0)) h.statics) h.literals h.exports in
      leaves_in after rest l (later_values after l rest k.1))

  -- ---- classes

  new_in : (c : ℕ) (stack : Stack) → IsClass s c → Vs stack → R (new_row s core c stack)
  unfolding new_row
  new_in c stack k i = leaves_new_in stack (new_object core.store c (default_cells s c)) i (λ x q. made c x (new_object_in s past core.store c (default_cells s c) x h k (default_cells_in s past core.store c z) q))

  check_in : (c : ℕ) (stack : Stack) → Vs stack → R (check_row s core c stack)
  unfolding check_row
  check_in c [] k = tt
  check_in c (v ∷ rest) k = given_in (as_kind kind.Reference v) _ (λ x q. by x (subst V (kind_same kind.Reference v x q) k.0) (fits_class s core.store x c))
    where
      by : (x : Value) → V x → (b : Bool) → R (if b then leaves s core core.store (x ∷ rest) else object.Raise class_cast_exception)
      by x i true = leaves_in core.store (x ∷ rest) same (i, k.1)
      by x i false = cast_class

  bool_in : (b : Bool) → V (int_of_bool b)
  unfolding int_of_bool
  bool_in true = record { sfits = omega arith }
  bool_in false = record { sfits = omega arith }

  instance_in : (c : ℕ) (stack : Stack) → Vs stack → R (instance_row s core c stack)
  unfolding instance_row
  instance_in c [] k = tt
  instance_in c (v ∷ rest) k = given_in (as_kind kind.Reference v) _ (λ x q. leaves_in core.store (int_of_bool (not (is_null x) && fits_class s core.store x c) ∷ rest) same (bool_in (not (is_null x) && fits_class s core.store x c), k.1))

  throw_in : (stack : Stack) → Vs stack → R (throw_row s core stack)
  unfolding throw_row
  throw_in (value.Null ∷ rest) k = null_class
  throw_in (value.Ref r ∷ rest) k = by (is_object_of s core.store throwable_class r)
    where
      by : (b : Bool) → R (if b then object.Raised r core else object.BadCode)
      by true = (same, fs, k.0)
      by false = tt
  throw_in _ k = tt

  -- ---- calls

  -- arguments and the stack below them
  record IsTaken (x : Taken) : Type 0 where
    arguments : Vs x.arguments
    below : Vs x.below

  taken_in : (types : List (List ℕ)) (stack : Stack) (x : Taken) → Vs stack → taken_arguments s core types stack ≡ Some x → IsTaken x × (all_fit s true core.store x.arguments types ≡ true)
  unfolding taken_arguments
  taken_in types stack x k e = by (all_fit s true core.store (reverse (take (length types) stack)) types) refl e
    where
      there : Taken
      there = record { arguments = reverse (take (length types) stack); below = drop (length types) stack }

      by : (b : Bool) → all_fit s true core.store (reverse (take (length types) stack)) types ≡ b → (if b then Some there else None) ≡ Some x → IsTaken x × (all_fit s true core.store x.arguments types ≡ true)
      by true q e =
          let i : there ≡ x = cc in
          subst (λ (x : Taken). IsTaken x × (all_fit s true core.store x.arguments types ≡ true)) i
          (record { arguments = all_reverse V (take (length types) stack) (all_take V (length types) stack k); below = all_drop V (length types) stack k }, q)
      by false q e = cc

  native_row_in : (below : Stack) (o : BuiltInOutcome) → Vs below → IsNativeIn s past core.store o → R (built_in_row s core below o)
  unfolding built_in_row with_result
  native_row_in below (Gives store None) k i = leaves_in store below i.0 (later_values store i.0 below k)
  native_row_in below (Gives store (Some v)) k i = leaves_in store (v ∷ below) i.0 (i.1, later_values store i.0 below k)
  native_row_in below (Performs a) k i = i
  native_row_in below (Raises c) k i = i
  native_row_in below HasNoRoom k i = (same, fs, h.first)
  native_row_in below Unfit k i = tt

  -- the locals of a frame with arguments
  locals_in : (size : ℕ) (l : Locals) (n : ℕ) (vs : List Value) (new : Locals) → AreLocals past core.store size l → Vs vs → locals_with l n vs ≡ Some new → AreLocals past core.store size new
  unfolding locals_with
  locals_in size l n [] new i k e = let q : l ≡ new = cc in subst (AreLocals past core.store size) q i
  locals_in size l n (v ∷ vs) new i k e = by (with_local l n v) refl e (λ m j. locals_in size m (n + slots_of v) vs new j k.1)
    where
      by : (o : Option Locals) → with_local l n v ≡ o → (elim o as (λ _. Option Locals) [ None ↦ None | Some m ↦ locals_with m (n + slots_of v) vs ]) ≡ Some new →
          ((m : Locals) → AreLocals past core.store size m → locals_with m (n + slots_of v) vs ≡ Some new → AreLocals past core.store size new) → AreLocals past core.store size new
      by None q e again = cc
      by (Some m) q e again = again m (with_local_in s past core.store size l n v m i k.0 q) e

  pub frame_in : (m : ℕ) (args : List Value) (f : Frame) → Vs args → frame_of s m args ≡ Some f → IsFrameIn s past core.store f
  unfolding frame_of frame_with
  frame_in m args f k e =
      let c = then_some (code_of s m) (λ c. option_map (frame_with m c) (locals_with (replicate c.max_locals None) 0 args)) f e in
      let l = mapped_some (frame_with m c.0) (locals_with (replicate c.0.max_locals None) 0 args) f c.2 in
      let v = locals_in c.0.max_locals (replicate c.0.max_locals None) 0 args l.0 (all_replicate (IsValueInSome past core.store) c.0.max_locals None tt, length-replicate c.0.max_locals None) k l.1 in
      subst (IsFrameIn s past core.store) l.2 (record {
        method = ap is_some c.1;
        place = z.starts m c.0 l.0 c.1;
        count = v.1 ∙ sym (count_of s m c.0 l.0 c.1);
        room = omega (arith, limit_of s m c.0 l.0 c.1);
        locals = v.0;
        stack = tt;
      })

  enter_in : (m : ℕ) (x : Taken) → IsTaken x → R (enter_row s core m x)
  unfolding enter_row
  enter_in m x i = by (is_overflow s m core.frames)
    where
      by : (b : Bool) → R (if b then object.Raise stack_overflow_error else given (frame_of s m x.arguments) (λ f. next_unless_overfull s core.store (f ∷ with_running (with_values x.below) core.frames)))
      by true = overflow_class
      by false = given_in (frame_of s m x.arguments) _ (λ f e. next_in core.store (f ∷ with_running (with_values x.below) core.frames) same (frame_in m x.arguments f i.arguments e, below_in core.store x.below core.frames fs i.below))

  portal_unfit : (k : Method) (args : List Value) → k.class.0 ≡ portal_class → IsNativeIn s past core.store (built_in_outcome s core.store k args)
  unfolding built_in_outcome
  portal_unfit k args e = by (option_and_then (λ x. find (is_of x) (effects_of k.class.0)) (selector_at s k.selector.0)) refl
    where
      none : (m : BuiltInMethod) (c : ℕ) → c ≡ portal_class → option_and_then (λ x. find (is_of x) (effects_of c)) (selector_at s k.selector.0) ≡ Some m → ⊥
      none m c q w =
          let x = then_some (selector_at s k.selector.0) (λ x. find (is_of x) (effects_of c)) m w in
          no_effects x.0 m (subst (λ (n : ℕ). find (is_of x.0) (effects_of n) ≡ Some m) q x.2)

      by : (o : Option BuiltInMethod) → option_and_then (λ x. find (is_of x) (effects_of k.class.0)) (selector_at s k.selector.0) ≡ o → IsNativeIn s past core.store (elim o as (λ _. BuiltInOutcome) [ None ↦ Unfit | Some b ↦ b.effect s core.store args ])
      by None w = tt
      by (Some m) w = absurd (none m k.class.0 e w)

  -- how the arguments of a built-in method fit, where its class is no interface
  abbrev pub NativeFits : Method → List Value → Type 0
  NativeFits k args = k.class.0 < built_in_count → is_interface s k.class.0 ≡ false → (y : Selector) → selector_at s k.selector.0 ≡ Some y → FitsCall s core.store k.class.0 (parameter_types y.descriptor) args

  pub any_native : (k : Method) (args : List Value) → Vs args → k.class.0 < built_in_count → NativeFits k args → IsNativeIn s past core.store (built_in_outcome s core.store k args)
  any_native k args i l f = by (is_interface s k.class.0) refl
    where
      by : (b : Bool) → is_interface s k.class.0 ≡ b → IsNativeIn s past core.store (built_in_outcome s core.store k args)
      by true e = portal_unfit k args (z.interfaces k.class.0 l e)
      by false e = native_in s past core.store z h k args i (f l e)

  run_in : (m : ℕ) (x : Taken) → IsTaken x → ((k : Method) → method_at s m ≡ Some k → NativeFits k x.arguments) → R (run_row s core m x)
  unfolding run_row is_built_in
  run_in m x i f = given_in (method_at s m) _ (λ k e. by k e (is_abstract k.flags) (nat_lt k.class.0 built_in_count) refl)
    where
      by : (k : Method) → method_at s m ≡ Some k → (a b : Bool) → nat_lt k.class.0 built_in_count ≡ b →
          R (if a then object.BadCode else if b then built_in_row s core x.below (built_in_outcome s core.store k x.arguments) else enter_row s core m x)
      by k e true b q = tt
      by k e false true q = native_row_in x.below (built_in_outcome s core.store k x.arguments) i.below (any_native k x.arguments i.arguments (grind (arith, nat_tests, q)) (f k e))
      by k e false false q = enter_in m x i

  portal_in : (service : ServiceId) (m : ℕ) (k : Method) (args : List Value) → IsId service.0 → method_at s m ≡ Some k → Vs args → R (portal_row core service k args)
  unfolding portal_row
  portal_in service m k args n e i = by (packed core.store.objects core.store.exports args) refl
    where
      by : (o : Option Parcel) → packed core.store.objects core.store.exports args ≡ o → R (elim o as (λ _. ObjectOutcome) [ None ↦ object.Raise copy_exception | Some p ↦ object.Ask (act.Call service k.selector p) ])
      by None q = copy_class
      by (Some p) q = (z.selectors m k e, packed_in s past core.store h args p i q, n)

  -- ---- the method that is selected

  -- an object and its arguments, which fit the selector's types
  record IsCalled (k : Method) (o : Value) (others : List Value) (below : Stack) : Type 0 where
    object : V o
    values : Vs others
    rest : Vs below
    selector : Selector
    has : selector_at s k.selector.0 ≡ Some selector
    fit : all_fit s true core.store others (parameter_types selector.descriptor) ≡ true

  called_taken : (k : Method) (o : Value) (others : List Value) (below : Stack) → IsCalled k o others below → IsTaken (record { arguments = o ∷ others; below = below })
  called_taken k o others below c = record { arguments = (c.object, c.values); below = c.rest }

  -- a method of the same selector, of a class that the object is below
  selected_fits : (k j : Method) (o : Value) (others : List Value) (below : Stack) → IsCalled k o others below → j.selector.0 ≡ k.selector.0 →
      (j.class.0 < built_in_count → is_interface s j.class.0 ≡ false → (r a : ℕ) → o ≡ value.Ref r → class_of_object core.store r ≡ Some a → is_below s a j.class.0 ≡ true) → NativeFits j (o ∷ others)
  selected_fits k j o others below c e f l i y q =
      let w : Some c.selector ≡ Some y = sym c.has ∙ ap (selector_at s) (sym e) ∙ q in
      let u : c.selector ≡ y = cc in
      inr (record { object = o; others = others; is = refl; fit = subst (λ (y : Selector). all_fit s true core.store others (parameter_types y.descriptor) ≡ true) u c.fit; below = f l i })

  special_in : (m : ℕ) (k : Method) (o : Value) (others : List Value) (below : Stack) → method_at s m ≡ Some k → IsCalled k o others below → shape_fits_class s true (shape_of core.store o) k.class.0 ≡ true →
      R (run_row s core m (record { arguments = o ∷ others; below = below }))
  unfolding shape_of
  special_in m k o others below e c fit = run_in m (record { arguments = o ∷ others; below = below }) (called_taken k o others below c) (λ j q.
      let w : Some k ≡ Some j = sym e ∙ q in
      let u : k ≡ j = cc in
      selected_fits k j o others below c (ap (λ (x : Method). x.selector.0) (sym u)) (λ l i r a is of. subst (λ (x : Method). is_below s a x.class.0 ≡ true) u
      (z.receivers a k.class.0 (subst (λ (x : Method). x.class.0 < built_in_count) (sym u) l) (subst (λ (x : Method). is_interface s x.class.0 ≡ false) (sym u) i) (shape_at r a is of))))
    where
      shape_at : (r a : ℕ) → o ≡ value.Ref r → class_of_object core.store r ≡ Some a → shape_fits_class s true (ObjectShape a) k.class.0 ≡ true
      shape_at r a is of =
          let p : shape_fits_class s true (shape_of core.store (value.Ref r)) k.class.0 ≡ true = subst (λ (v : Value). shape_fits_class s true (shape_of core.store v) k.class.0 ≡ true) is fit in
          subst (λ (o : Option ℕ). shape_fits_class s true (elim o as (λ _. Shape) [ None ↦ Unknown | Some c ↦ ObjectShape c ]) k.class.0 ≡ true) of p

  selected_in : (k : Method) (o : Value) (others : List Value) (below : Stack) → IsCalled k o others below → R (selected_row s core k o (record { arguments = o ∷ others; below = below }))
  unfolding selected_row
  selected_in k o others below c = given_in (option_and_then (λ a. selected_method s a k.selector.0) (class_of_shape (shape_of core.store o))) _ (λ m q.
      let x = then_some (class_of_shape (shape_of core.store o)) (λ a. selected_method s a k.selector.0) m q in
      run_in m (record { arguments = o ∷ others; below = below }) (called_taken k o others below c) (λ j w.
      let t = selected_is s x.0 k.selector.0 m j x.2 w in
      selected_fits k j o others below c t.1 (λ l i r a is of. subst (λ (n : ℕ). is_below s n j.class.0 ≡ true) (at_class_of x.0 r a x.1 is of) t.0)))
    where
      at_class_of : (n r a : ℕ) → class_of_shape (shape_of core.store o) ≡ Some n → o ≡ value.Ref r → class_of_object core.store r ≡ Some a → n ≡ a
      at_class_of n r a e is of = class_of_reference core.store r a n of (subst (λ (v : Value). class_of_shape (shape_of core.store v) ≡ Some n) is e)

  at_object_in : (kind : Invocation) (m : ℕ) (k : Method) (o : Value) (others : List Value) (below : Stack) → method_at s m ≡ Some k → IsCalled k o others below → shape_fits_class s true (shape_of core.store o) k.class.0 ≡ true →
      R (invoke_at s core kind m k o (record { arguments = o ∷ others; below = below }))
  unfolding invoke_at
  at_object_in invocation.Special m k o others below e c f = special_in m k o others below e c f
  at_object_in invocation.Interface m k (value.Portal service iface) others below e c f = portal_in service m k others c.object.0 e c.values
  at_object_in invocation.Interface m k (value.Int n) others below e c f = selected_in k (value.Int n) others below c
  at_object_in invocation.Interface m k (value.Long n) others below e c f = selected_in k (value.Long n) others below c
  at_object_in invocation.Interface m k value.Null others below e c f = selected_in k value.Null others below c
  at_object_in invocation.Interface m k (value.Ref n) others below e c f = selected_in k (value.Ref n) others below c
  at_object_in invocation.Interface m k (value.Mem n) others below e c f = selected_in k (value.Mem n) others below c
  at_object_in invocation.Virtual m k o others below e c f = selected_in k o others below c
  at_object_in invocation.Static m k o others below e c f = selected_in k o others below c

  on_object_in : (kind : Invocation) (m : ℕ) (k : Method) (o : Value) (others : List Value) (below : Stack) → method_at s m ≡ Some k → IsCalled k o others below →
      R (invoke_on s core kind m k o (record { arguments = o ∷ others; below = below }))
  unfolding invoke_on
  on_object_in kind m k o others below e c = by (shape_fits_class s true (shape_of core.store o) k.class.0) (is_null o) refl
    where
      by : (a b : Bool) → shape_fits_class s true (shape_of core.store o) k.class.0 ≡ a →
          R (if not a then object.BadCode else if b then object.Raise null_pointer_exception else invoke_at s core kind m k o (record { arguments = o ∷ others; below = below }))
      by false b q = tt
      by true true q = null_class
      by true false q = at_object_in kind m k o others below e c q

  with_object_in : (kind : Invocation) (m : ℕ) (k : Method) (y : Selector) (x : Taken) → method_at s m ≡ Some k → selector_at s k.selector.0 ≡ Some y → IsTaken x → all_fit s true core.store x.arguments (parameter_types y.descriptor) ≡ true →
      R (given (with_object x) (λ w. invoke_on s core kind m k w.0 w.1))
  unfolding with_object
  with_object_in kind m k y x e q i f = by x.below refl
    where
      by : (bs : Stack) → x.below ≡ bs → R (given (with_object x) (λ w. invoke_on s core kind m k w.0 w.1))
      by [] w = rw w (given_in None (λ w. invoke_on s core kind m k w.0 w.1) (λ v u. cc))
      by (o ∷ below) w =
          let b : Vs (o ∷ below) = subst Vs w i.below in
          rw w (given_in (Some (o, record { arguments = o ∷ x.arguments; below = below })) (λ w. invoke_on s core kind m k w.0 w.1) (λ v u.
          let r : (o, record { arguments = o ∷ x.arguments; below = below }) ≡ v = cc in
          subst (λ (v : Value × Taken). R (invoke_on s core kind m k v.0 v.1)) r
          (on_object_in kind m k o x.arguments below e (record { object = b.0; values = i.arguments; rest = b.1; selector = y; has = q; fit = f }))))

  selector_is : (m : ℕ) (k : Method) (y : Selector) → method_at s m ≡ Some k → selector_of_method s m ≡ Some y → selector_at s k.selector.0 ≡ Some y
  unfolding selector_of_method
  selector_is m k y e q =
      let x = then_some (method_at s m) (λ x. selector_at s x.selector.0) y q in
      let w : Some k ≡ Some x.0 = sym e ∙ x.1 in let u : k ≡ x.0 = cc in ap (λ (x : Method). selector_at s x.selector.0) u ∙ x.2

  static_in : (m : ℕ) (k : Method) (y : Selector) (x : Taken) → method_at s m ≡ Some k → selector_at s k.selector.0 ≡ Some y → IsTaken x → all_fit s true core.store x.arguments (parameter_types y.descriptor) ≡ true → R (run_row s core m x)
  static_in m k y x e q i f = run_in m x i (λ j w l n v u.
      let a : Some k ≡ Some j = sym e ∙ w in let b : k ≡ j = cc in
      let c : Some y ≡ Some v = sym q ∙ ap (λ (x : Method). selector_at s x.selector.0) b ∙ u in let d : y ≡ v = cc in
      inl (subst (λ (y : Selector). all_fit s true core.store x.arguments (parameter_types y.descriptor) ≡ true) d f))

  invoke_in : (kind : Invocation) (m : ℕ) (stack : Stack) → Vs stack → R (invoke_row s core kind m stack)
  unfolding invoke_row parameter_types
  invoke_in invocation.Static m stack i = given_in (method_at s m) _ (λ k e. given_in (selector_of_method s m) _ (λ y q. given_in (taken_arguments s core (signature_of y.descriptor).parameters stack) _ (λ x w.
      let t = taken_in (signature_of y.descriptor).parameters stack x i w in static_in m k y x e (selector_is m k y e q) t.0 t.1)))
  invoke_in invocation.Special m stack i = given_in (method_at s m) _ (λ k e. given_in (selector_of_method s m) _ (λ y q. given_in (taken_arguments s core (signature_of y.descriptor).parameters stack) _ (λ x w.
      let t = taken_in (signature_of y.descriptor).parameters stack x i w in with_object_in invocation.Special m k y x e (selector_is m k y e q) t.0 t.1)))
  invoke_in invocation.Virtual m stack i = given_in (method_at s m) _ (λ k e. given_in (selector_of_method s m) _ (λ y q. given_in (taken_arguments s core (signature_of y.descriptor).parameters stack) _ (λ x w.
      let t = taken_in (signature_of y.descriptor).parameters stack x i w in with_object_in invocation.Virtual m k y x e (selector_is m k y e q) t.0 t.1)))
  invoke_in invocation.Interface m stack i = given_in (method_at s m) _ (λ k e. given_in (selector_of_method s m) _ (λ y q. given_in (taken_arguments s core (signature_of y.descriptor).parameters stack) _ (λ x w.
      let t = taken_in (signature_of y.descriptor).parameters stack x i w in with_object_in invocation.Interface m k y x e (selector_is m k y e q) t.0 t.1)))

  -- ---- returns

  return_in : (v : Option Value) → IsValueInSome past core.store v → R (return_row s core v)
  unfolding return_row with_running
  return_in v i = by core.frames refl
    where
      result : (v : Option Value) (stack : Stack) → IsValueInSome past core.store v → Vs stack → Vs (with_result v stack)
      result None stack i k = subst Vs (sym (result_none stack)) k
      result (Some v) stack i k = subst Vs (sym (result_some v stack)) (i, k)

      by : (frames : List Frame) → core.frames ≡ frames → R (return_row s core v)
      by [] e = rw e tt
      by (f ∷ []) e = rw e (same, tt, i)
      by (f ∷ g ∷ frames) e =
          let k : AllByRecursion (IsFrameIn s past core.store) (f ∷ g ∷ frames) = subst (AllByRecursion (IsFrameIn s past core.store)) e fs in
          rw e (next_in core.store (frame_behind s (with_result v g.stack.values) g ∷ frames) same (behind_in core.store (with_result v g.stack.values) (g ∷ frames) k.1 (result v g.stack.values i k.1.0.stack)))

  return_value_in : (k : Kind) (stack : Stack) → Vs stack → R (return_value_row s core k stack)
  unfolding return_value_row
  return_value_in k [] i = tt
  return_value_in k (v ∷ rest) i = given_in (as_kind k v) _ (λ x q. given_in (result_of s core.frames) _ (λ type w. by x (subst V (kind_same k v x q) i.0) (shape_fits s true (shape_of core.store x) type)))
    where
      by : (x : Value) → V x → (b : Bool) → R (if b then return_row s core (Some x) else object.BadCode)
      by x j true = return_in (Some x) j
      by x j false = tt

  return_void_in : R (return_void_row s core)
  unfolding return_void_row
  return_void_in = given_in (result_of s core.frames) _ (λ type w. by (is_void type))
    where
      by : (b : Bool) → R (if b then return_row s core None else object.BadCode)
      by true = return_in None tt
      by false = tt

  -- ---- all rows

  -- the dimensions of an array of arrays are there
  abbrev HasDimensions : Row → Instr → ℕ → Type 0
  HasDimensions r i c = r ≡ row.NewMultiArray → (k : Class) → class_at s c ≡ Some k → index_operand i 1 ≤ dimensions_of k.name

  class_row_in : (r : Row) (i : Instr) (c : ℕ) (stack : Stack) → IsClass s c → HasDimensions r i c → Vs stack → R (class_row s core r i c stack)
  unfolding class_row name_of_class
  class_row_in row.New i c stack k d v = new_in c stack k v
  class_row_in row.NewReferenceArray i c stack k d v = given_in (type_of s c) _ (λ type q. new_array_row_in type stack v)
  class_row_in row.NewMultiArray i c stack k d v = given_in (option_map (λ k. k.name) (class_at s c)) _ (λ type q.
      let x = mapped_some (λ (k : Class). k.name) (class_at s c) type q in
      multi_in type (index_operand i 1) stack (subst (λ (name : List ℕ). index_operand i 1 ≤ dimensions_of name) x.2 (d refl x.0 x.1)) v)
  class_row_in row.CheckCast i c stack k d v = check_in c stack v
  class_row_in row.InstanceOf i c stack k d v = instance_in c stack v
  class_row_in _ i c stack k d v = tt

  used_in : (r : Row) (i : Instr) (x : Resolved) (stack : Stack) → IsResolvedIn s x → ((c : ClassId) → x ≡ resolved.Class c → HasDimensions r i c.0) → Vs stack → R (constant_used_row s core r i x stack)
  unfolding constant_used_row
  used_in row.PushConstant i x stack k d v = constant_in x stack k v
  used_in row.GetStatic i (resolved.Static c n) stack k d v = get_static_in n stack v
  used_in row.PutStatic i (resolved.Static c n) stack k d v = put_static_in n stack v
  used_in row.GetField i (resolved.Instance c n) stack k d v = get_field_in c.0 n stack v
  used_in row.PutField i (resolved.Instance c n) stack k d v = put_field_in c.0 n stack v
  used_in (row.Invoke kind) i (resolved.Method m) stack k d v = invoke_in kind m stack v
  used_in r i (resolved.Class c) stack k d v = class_row_in r i c.0 stack k (d c refl) v
  used_in r i _ stack k d v = tt

  plain_in : (r : Row) (i : Instr) (stack : Stack) → Vs stack → R (plain_row s core r i stack)
  unfolding plain_row
  plain_in (row.LoadElement e) i stack v = load_in e stack v
  plain_in (row.StoreElement e) i stack v = store_row_in e stack v
  plain_in row.NewArray i stack v = new_array_row_in (element_type (index_operand i 0)) stack v
  plain_in row.ArrayLength i stack v = length_in stack v
  plain_in row.Throw i stack v = throw_in stack v
  plain_in (row.Return k) i stack v = return_value_in k stack v
  plain_in row.ReturnVoid i stack v = return_void_in
  plain_in _ i stack v = tt

  row_in : (f : Frame) (i : Instr) → IsFrameIn s past core.store f →
      ((c : ClassId) → constant_at s (class_of_frame s f) (index_operand i 0) ≡ Some (resolved.Class c) → HasDimensions (row_at i.opcode) i c.0) → R (object_row_in s core f i)
  unfolding object_row_in
  row_in f i k d = by (uses_constant (row_at i.opcode))
    where
      by : (b : Bool) → R (elim b as (λ _. ObjectOutcome) [
        | true ↦ given (constant_at s (class_of_frame s f) (index_operand i 0)) (λ x. constant_used_row s core (row_at i.opcode) i x f.stack.values)
        | false ↦ plain_row s core (row_at i.opcode) i f.stack.values
      ])
      by true = given_in (constant_at s (class_of_frame s f) (index_operand i 0)) _ (λ x q.
          used_in (row_at i.opcode) i x f.stack.values (z.constants (class_of_frame s f) (index_operand i 0) x q) (λ c e. d c (q ∙ ap (λ (x : Resolved). Some x) e)) k.stack)
      by false = plain_in (row_at i.opcode) i f.stack.values k.stack

  -- an instruction on objects makes values of values
  pub object_in : (f : Frame) (frames : List Frame) (r : Reading) → core.frames ≡ f ∷ frames → instruction_at (code_bytes s f) f.pc ≡ Some r → R (object_row s core r.instr)
  unfolding object_row
  object_in f frames r e q = by core.frames e fs
    where
      by : (xs : List Frame) → xs ≡ f ∷ frames → AllByRecursion (IsFrameIn s past core.store) xs → R (elim xs as (λ _. ObjectOutcome) [ [] ↦ object.BadCode | g ∷ gs ↦ object_row_in s core g r.instr ])
      by [] e k = tt
      by (g ∷ gs) e k =
          let w : g ≡ f = cc in
          subst (λ (g : Frame). R (object_row_in s core g r.instr)) (sym w) (row_in f r.instr (subst (IsFrameIn s past core.store) w k.0)
          (λ c u v n m. z.dimensions f r c n (subst (IsFrameIn s past core.store) w k.0).place q v u m))
