-- The rows by what stands on the stack.
use Rattle.std.proofs.Common.{◌≡◌, ◌≤◌, All, length, ℕ, List, [], ◌∷◌, ◌++◌, map, get_or, drop, Option, Some, None, refl, sym, ap, ◌∙◌, Bool, true, false, ◌==◌, arith}
use Rattle.std.specs.Prelude.{ℤ, pos, negsuc, slice_get, if◌then◌else◌, int_lt, nat_lt, slice_set, not, ◌&&◌}
use Rattle.std.specs.List.{position}
use Rattle.std.specs.Option.{option_and_then, option_map}
use Rattle.std.specs.Str.{bytes_eq}
use Rattle.std.proofs.lemmas.Option.{slice_get-get_or}
use Rattle.std.proofs.lemmas.Bool.Decides.{nat_tests}
use Rattle.jx_base.specs.declared.class_file.Instr.{Instr}
use Rattle.jx_base.specs.declared.program.Class.{Class}
use Rattle.jx_base.specs.declared.row.Element.{Element}
use Rattle.jx_base.specs.declared.row.Row.{Row}
use Rattle.jx_base.specs.declared.row.Row.TheVariants as row
use Rattle.jx_base.specs.declared.row.Kind.TheVariants as kind
use Rattle.jx_base.specs.declared.program.System.{System}
use Rattle.jx_base.specs.declared.value.Value.{Value}
use Rattle.jx_base.specs.declared.value.Value.TheVariants as value
use Rattle.jx_base.specs.Basics.{contains_number, not_below_zero}
use Rattle.program_model.specs.Types.{is_int_type, is_long_type}
use Rattle.jx_base.proofs.BasicLaws.{eq_of}
use Rattle.interp_access.proofs.ArrayNames.{find_place, within}
use Rattle.program_model.specs.BuiltIn.{string_class, array_index_exception, array_store_exception, throwable_class, negative_size_exception, class_cast_exception}
use Rattle.program_model.specs.Lookup.{class_at, class_named, shape_fits, type_of_class, type_of_name}
use Rattle.machine_model.specs.BuiltInMethods.{int_of_bool, text_cells}
use Rattle.machine_model.specs.NumericRows.{Stack, as_kind, int_of, is_null}
use Rattle.machine_model.specs.ObjectRows.{ObjectOutcome, Raise, Raised, BadCode, at_index, component_for, given, leaves, leaves_new, place_in, class_row, literal_of, name_of_class, type_of, with_literal, text_row, new_row, with_result, kind_of, load_row, store_row, store_in, length_row, new_array_row, field_type, fitting_value, is_object_of, get_field_row, put_field_row, put_static_row, fits_class, check_row, instance_row, throw_row}
use Rattle.machine_model.specs.State.{Core, Store, cells_of, default_cells, kept_value, shape_of, default_of, new_array, new_object, static_types, with_cell}
use Rattle.machine_laws.specs.Values.{cell_limit}
use Rattle.program_model.specs.Parcels.{HeapObject}
use Rattle.interp_core.proofs.FrameLaws.{all_at}
use Rattle.interp_access.specs.Takings.{on_object, receiver_of}
use Rattle.interp_access.specs.declared.taking.Receiver.{Receiver}
use Rattle.interp_access.specs.declared.taking.Receiver.TheVariants as receiver

-- a length that is not below 0
abbrev pub as_length_of : ℤ → Option ℕ
as_length_of n = if int_lt n (pos 0) then None else Some (not_below_zero n)

abbrev pub or_negative : Option ℕ → (ℕ → ObjectOutcome) → ObjectOutcome
or_negative None go = Raise negative_size_exception
or_negative (Some n) go = go n

module _ (s : System) (core : Core) where
  pub load_is : (e : Element) (stack : Stack) → load_row s core e stack
      ≡ given (option_and_then int_of (slice_get stack 0)) (λ i. on_object (receiver_of (slice_get stack 1)) (λ r. load_row s core e (value.Int i ∷ value.Ref r ∷ drop 2 stack)))
  unfolding load_row given int_of receiver_of
  load_is e [] = refl
  load_is e (value.Int i ∷ []) = refl
  load_is e (value.Int i ∷ value.Null ∷ rest) = refl
  load_is e (value.Int i ∷ value.Ref r ∷ rest) = refl
  load_is e (value.Int i ∷ value.Int n ∷ rest) = refl
  load_is e (value.Int i ∷ value.Long n ∷ rest) = refl
  load_is e (value.Int i ∷ value.Portal k c ∷ rest) = refl
  load_is e (value.Int i ∷ value.Mem m ∷ rest) = refl
  load_is e (value.Null ∷ rest) = refl
  load_is e (value.Ref r ∷ rest) = refl
  load_is e (value.Long n ∷ rest) = refl
  load_is e (value.Portal k c ∷ rest) = refl
  load_is e (value.Mem m ∷ rest) = refl

  no_store : (o : Option Value) → given o (λ x. BadCode) ≡ BadCode
  unfolding given
  no_store None = refl
  no_store (Some x) = refl

  pub store_is : (e : Element) (stack : Stack) → store_row s core e stack
      ≡ given (option_and_then (as_kind (kind_of e)) (slice_get stack 0)) (λ x. given (option_and_then int_of (slice_get stack 1)) (λ i. on_object (receiver_of (slice_get stack 2)) (λ r. store_in s core e x i r (drop 3 stack))))
  unfolding store_row given int_of receiver_of
  store_is e [] = refl
  store_is e (v ∷ []) = sym (no_store (as_kind (kind_of e) v))
  store_is e (v ∷ value.Int i ∷ []) = sym (no_store (as_kind (kind_of e) v))
  store_is e (v ∷ value.Int i ∷ value.Null ∷ rest) = refl
  store_is e (v ∷ value.Int i ∷ value.Ref r ∷ rest) = refl
  store_is e (v ∷ value.Int i ∷ value.Int n ∷ rest) = sym (no_store (as_kind (kind_of e) v))
  store_is e (v ∷ value.Int i ∷ value.Long n ∷ rest) = sym (no_store (as_kind (kind_of e) v))
  store_is e (v ∷ value.Int i ∷ value.Portal k c ∷ rest) = sym (no_store (as_kind (kind_of e) v))
  store_is e (v ∷ value.Int i ∷ value.Mem m ∷ rest) = sym (no_store (as_kind (kind_of e) v))
  store_is e (v ∷ value.Null ∷ rest) = sym (no_store (as_kind (kind_of e) v))
  store_is e (v ∷ value.Ref r ∷ rest) = sym (no_store (as_kind (kind_of e) v))
  store_is e (v ∷ value.Long n ∷ rest) = sym (no_store (as_kind (kind_of e) v))
  store_is e (v ∷ value.Portal k c ∷ rest) = sym (no_store (as_kind (kind_of e) v))
  store_is e (v ∷ value.Mem m ∷ rest) = sym (no_store (as_kind (kind_of e) v))

  pub length_is : (stack : Stack) → length_row s core stack ≡ on_object (receiver_of (slice_get stack 0)) (λ r. length_row s core (value.Ref r ∷ drop 1 stack))
  unfolding length_row receiver_of
  length_is [] = refl
  length_is (value.Null ∷ rest) = refl
  length_is (value.Ref r ∷ rest) = refl
  length_is (value.Int n ∷ rest) = refl
  length_is (value.Long n ∷ rest) = refl
  length_is (value.Portal k c ∷ rest) = refl
  length_is (value.Mem m ∷ rest) = refl

  array_is : (type : List ℕ) (stack : Stack) → new_array_row s core type stack
      ≡ given (option_and_then int_of (slice_get stack 0)) (λ n. or_negative (as_length_of n) (λ k. given (class_named s (91 ∷ type)) (λ c. leaves_new s core (drop 1 stack) (new_array core.store c k (default_of type)))))
  unfolding new_array_row given int_of not_below_zero
  array_is type [] = refl
  array_is type (value.Int (pos n) ∷ rest) =
      let least : nat_lt n 0 ≡ false = grind (arith, nat_tests) in
      sym (ap (λ b. or_negative (if b then None else Some n) (λ k. given (class_named s (91 ∷ type)) (λ c. leaves_new s core rest (new_array core.store c k (default_of type))))) least)
  array_is type (value.Int (negsuc n) ∷ rest) = refl
  array_is type (value.Null ∷ rest) = refl
  array_is type (value.Ref r ∷ rest) = refl
  array_is type (value.Long n ∷ rest) = refl
  array_is type (value.Portal k c ∷ rest) = refl
  array_is type (value.Mem m ∷ rest) = refl

  -- with a length, a class and an element that are known
  pub new_array_is : (type : List ℕ) (stack : Stack) (o : Option ℤ) (found : Option ℕ) (v : Value) → o ≡ option_and_then int_of (slice_get stack 0) → found ≡ class_named s (91 ∷ type) → v ≡ default_of type → new_array_row s core type stack
      ≡ given o (λ n. or_negative (as_length_of n) (λ k. given found (λ c. leaves_new s core (drop 1 stack) (new_array core.store c k v))))
  new_array_is type stack o found v e f g =
      array_is type stack
      ∙ ap (λ (x : Option ℤ). given x (λ n. or_negative (as_length_of n) (λ k. given (class_named s (91 ∷ type)) (λ c. leaves_new s core (drop 1 stack) (new_array core.store c k (default_of type)))))) (sym e)
      ∙ ap (λ (x : Option ℕ). given o (λ n. or_negative (as_length_of n) (λ k. given x (λ c. leaves_new s core (drop 1 stack) (new_array core.store c k (default_of type)))))) (sym f)
      ∙ ap (λ (x : Value). given o (λ n. or_negative (as_length_of n) (λ k. given found (λ c. leaves_new s core (drop 1 stack) (new_array core.store c k x))))) (sym g)

  pub get_field_is : (c i : ℕ) (stack : Stack) → get_field_row s core c i stack ≡ on_object (receiver_of (slice_get stack 0)) (λ r. get_field_row s core c i (value.Ref r ∷ drop 1 stack))
  unfolding get_field_row receiver_of
  get_field_is c i [] = refl
  get_field_is c i (value.Null ∷ rest) = refl
  get_field_is c i (value.Ref r ∷ rest) = refl
  get_field_is c i (value.Int n ∷ rest) = refl
  get_field_is c i (value.Long n ∷ rest) = refl
  get_field_is c i (value.Portal k d ∷ rest) = refl
  get_field_is c i (value.Mem m ∷ rest) = refl

  pub put_field_is : (c i : ℕ) (stack : Stack) → put_field_row s core c i stack
      ≡ given (option_and_then (λ v. option_and_then (fitting_value s core.store v) (field_type s c i)) (slice_get stack 0)) (λ x.
      on_object (receiver_of (slice_get stack 1)) (λ r. if is_object_of s core.store c r then leaves s core (with_cell core.store r i x) (drop 2 stack) else BadCode))
  unfolding put_field_row given receiver_of
  put_field_is c i [] = refl
  put_field_is c i (v ∷ []) = sym (no_store (option_and_then (fitting_value s core.store v) (field_type s c i)))
  put_field_is c i (v ∷ value.Null ∷ rest) = refl
  put_field_is c i (v ∷ value.Ref r ∷ rest) = refl
  put_field_is c i (v ∷ value.Int n ∷ rest) = refl
  put_field_is c i (v ∷ value.Long n ∷ rest) = refl
  put_field_is c i (v ∷ value.Portal k d ∷ rest) = refl
  put_field_is c i (v ∷ value.Mem m ∷ rest) = refl

  pub put_static_is : (i : ℕ) (stack : Stack) → put_static_row s core i stack
      ≡ given (slice_get stack 0) (λ v. given (slice_get (static_types s) i) (λ type. given (fitting_value s core.store v type) (λ x.
      leaves s core (record core.store { statics = slice_set core.store.statics i x }) (drop 1 stack))))
  unfolding put_static_row given
  put_static_is i [] = refl
  put_static_is i (v ∷ rest) = by (slice_get (static_types s) i)
    where
      by : (o : Option (List ℕ)) → given (option_and_then (fitting_value s core.store v) o) (λ x. leaves s core (record core.store { statics = slice_set core.store.statics i x }) rest)
          ≡ given o (λ type. given (fitting_value s core.store v type) (λ x. leaves s core (record core.store { statics = slice_set core.store.statics i x }) rest))
      by None = refl
      by (Some t) = refl

  pub check_is : (c : ℕ) (stack : Stack) → check_row s core c stack
      ≡ given (option_and_then (as_kind kind.Reference) (slice_get stack 0)) (λ x. if fits_class s core.store x c then leaves s core core.store (x ∷ drop 1 stack) else Raise class_cast_exception)
  unfolding check_row given
  check_is c [] = refl
  check_is c (v ∷ rest) = refl

  pub instance_is : (c : ℕ) (stack : Stack) → instance_row s core c stack
      ≡ given (option_and_then (as_kind kind.Reference) (slice_get stack 0)) (λ x. leaves s core core.store (int_of_bool (not (is_null x) && fits_class s core.store x c) ∷ drop 1 stack))
  unfolding instance_row given
  instance_is c [] = refl
  instance_is c (v ∷ rest) = refl

  pub throw_is : (stack : Stack) → throw_row s core stack ≡ on_object (receiver_of (slice_get stack 0)) (λ r. if is_object_of s core.store throwable_class r then Raised r core else BadCode)
  unfolding throw_row receiver_of
  throw_is [] = refl
  throw_is (value.Null ∷ rest) = refl
  throw_is (value.Ref r ∷ rest) = refl
  throw_is (value.Int n ∷ rest) = refl
  throw_is (value.Long n ∷ rest) = refl
  throw_is (value.Portal k c ∷ rest) = refl
  throw_is (value.Mem m ∷ rest) = refl

  pub text_known : (text : List ℕ) (stack : Stack) (r : ℕ) → literal_of core.store.literals text ≡ Some r → text_row s core text stack ≡ leaves s core core.store (with_result (Some (value.Ref r)) (drop 0 stack))
  unfolding text_row with_result
  text_known text stack r e = ap (λ (o : Option ℕ). elim o as (λ _. ObjectOutcome) [
    | Some r ↦ leaves s core core.store (value.Ref r ∷ stack)
    | None ↦ leaves_new s core stack (option_map (with_literal text) (new_object core.store string_class (text_cells text)))
  ]) e

  pub text_new : (text : List ℕ) (stack : Stack) → literal_of core.store.literals text ≡ None → text_row s core text stack ≡ leaves_new s core (drop 0 stack) (option_map (with_literal text) (new_object core.store string_class (text_cells text)))
  unfolding text_row
  text_new text stack e = ap (λ (o : Option ℕ). elim o as (λ _. ObjectOutcome) [
    | Some r ↦ leaves s core core.store (value.Ref r ∷ stack)
    | None ↦ leaves_new s core stack (option_map (with_literal text) (new_object core.store string_class (text_cells text)))
  ]) e

  pub new_is : (c : ℕ) (stack : Stack) (cells : List Value) → cells ≡ default_cells s c → new_row s core c stack ≡ leaves_new s core (drop 0 stack) (new_object core.store c cells)
  unfolding new_row
  new_is c stack cells e = ap (λ (vs : List Value). leaves_new s core stack (new_object core.store c vs)) (sym e)

-- the elements of arrays of objects are null at first
pub null_at_first : (name : List ℕ) → default_of (type_of_name name) ≡ value.Null
unfolding default_of type_of_name is_int_type is_long_type contains_number
null_at_first [] = refl
null_at_first (u ∷ name) = by (u == 91) refl name
  where
    by : (b : Bool) → (u == 91) ≡ b → (name : List ℕ) → default_of (if b then u ∷ name else 76 ∷ u ∷ name ++ 59 ∷ []) ≡ value.Null
    by true e [] = ap (λ (n : ℕ). default_of (n ∷ [])) (eq_of u 91 e)
    by true e (v ∷ name) = ap (λ (n : ℕ). default_of (n ∷ v ∷ name)) (eq_of u 91 e)
    by false e name = refl

-- a String object that was made of a text
pub literal_at : (literals : List (List ℕ × ℕ)) (text : List ℕ) (place : ℕ) (x : List ℕ × ℕ) → Some place ≡ position (λ x. bytes_eq x.0 text) literals → Some (get_or literals place x).1 ≡ literal_of literals text
unfolding literal_of
literal_at literals text place x e =
    let test = λ (x : List ℕ × ℕ). bytes_eq x.0 text in
    let less = within test literals place (sym e) in
    sym (ap (option_map (λ (x : List ℕ × ℕ). x.1)) (find_place test literals ∙ ap (option_and_then (slice_get literals)) (sym e) ∙ slice_get-get_or literals place x less))

pub no_literal : (literals : List (List ℕ × ℕ)) (text : List ℕ) → None ≡ position (λ x. bytes_eq x.0 text) literals → literal_of literals text ≡ None
unfolding literal_of
no_literal literals text e =
    let test = λ (x : List ℕ × ℕ). bytes_eq x.0 text in
    ap (option_map (λ (x : List ℕ × ℕ). x.1)) (find_place test literals ∙ ap (option_and_then (slice_get literals)) (sym e))

pub literal_made : (store : Store) (text : List ℕ) (key : List ℕ) (x : Store) (object : ℕ) (new : List (List ℕ × ℕ)) → new_object store string_class (map (λ u. value.Int (pos u)) text) ≡ Some (x, object) → key ≡ text → new ≡ x.literals ++ (key, object) ∷ []
    → option_map (with_literal text) (new_object store string_class (text_cells text)) ≡ Some (record x { literals = new }, object)
unfolding with_literal text_cells
literal_made store text key x object new e k n =
    ap (option_map (with_literal text)) e
    ∙ ap (λ (t : List ℕ). Some (record x { literals = x.literals ++ (t, object) ∷ [] }, object)) (sym k)
    ∙ ap (λ (ls : List (List ℕ × ℕ)). Some (record x { literals = ls }, object)) (sym n)

pub literal_not_made : (store : Store) (text : List ℕ) → new_object store string_class (map (λ u. value.Int (pos u)) text) ≡ None → option_map (with_literal text) (new_object store string_class (text_cells text)) ≡ None
unfolding text_cells
literal_not_made store text e = ap (option_map (with_literal text)) e

pub put_static_by : (s : System) (core : Core) (i : ℕ) (stack : Stack) (v : Value) (type : List ℕ) (x : Value) → Some v ≡ slice_get stack 0 → Some type ≡ slice_get (static_types s) i → Some x ≡ fitting_value s core.store v type
    → put_static_row s core i stack ≡ leaves s core (record core.store { statics = slice_set core.store.statics i x }) (drop 1 stack)
unfolding given
put_static_by s core i stack v type x e f g =
    let last = λ (x : Value). leaves s core (record core.store { statics = slice_set core.store.statics i x }) (drop 1 stack) in
    put_static_is s core i stack
    ∙ ap (λ (o : Option Value). given o (λ v. given (slice_get (static_types s) i) (λ type. given (fitting_value s core.store v type) last))) (sym e)
    ∙ ap (λ (o : Option (List ℕ)). given o (λ type. given (fitting_value s core.store v type) last)) (sym f)
    ∙ ap (λ (o : Option Value). given o last) (sym g)

pub load_at : (s : System) (core : Core) (e : Element) (stack : Stack) (i : ℤ) (r : ℕ) → Some i ≡ option_and_then int_of (slice_get stack 0) → receiver.Object r ≡ receiver_of (slice_get stack 1)
    → load_row s core e stack ≡ load_row s core e (value.Int i ∷ value.Ref r ∷ drop 2 stack)
unfolding given
load_at s core e stack i r f g =
    let last = λ (i : ℤ) (r : ℕ). load_row s core e (value.Int i ∷ value.Ref r ∷ drop 2 stack) in
    load_is s core e stack
    ∙ ap (λ (o : Option ℤ). given o (λ i. on_object (receiver_of (slice_get stack 1)) (last i))) (sym f)
    ∙ ap (λ (o : Receiver). on_object o (last i)) (sym g)

pub store_at : (s : System) (core : Core) (e : Element) (stack : Stack) (x : Value) (i : ℤ) (r : ℕ) → Some x ≡ option_and_then (as_kind (kind_of e)) (slice_get stack 0) → Some i ≡ option_and_then int_of (slice_get stack 1)
    → receiver.Object r ≡ receiver_of (slice_get stack 2) → store_row s core e stack ≡ store_in s core e x i r (drop 3 stack)
unfolding given
store_at s core e stack x i r k f g =
    let last = λ (x : Value) (i : ℤ) (r : ℕ). store_in s core e x i r (drop 3 stack) in
    store_is s core e stack
    ∙ ap (λ (o : Option Value). given o (λ x. given (option_and_then int_of (slice_get stack 1)) (λ i. on_object (receiver_of (slice_get stack 2)) (last x i)))) (sym k)
    ∙ ap (λ (o : Option ℤ). given o (λ i. on_object (receiver_of (slice_get stack 2)) (last x i))) (sym f)
    ∙ ap (λ (o : Receiver). on_object o (last x i)) (sym g)

pub store_by : (s : System) (core : Core) (e : Element) (v : Value) (i : ℤ) (r k : ℕ) (type : List ℕ) (rest : Stack) → Some type ≡ component_for s core.store e r → Some k ≡ place_in i (length (cells_of core.store r)) → true ≡ shape_fits s false (shape_of core.store v) type
    → store_in s core e v i r rest ≡ leaves s core (with_cell core.store r k (kept_value type v)) rest
unfolding store_in given at_index
store_by s core e v i r k type rest f g h =
    let at = λ (type : List ℕ) (k : ℕ). if shape_fits s false (shape_of core.store v) type then leaves s core (with_cell core.store r k (kept_value type v)) rest else Raise array_store_exception in
    ap (λ (o : Option (List ℕ)). given o (λ type. elim (place_in i (length (cells_of core.store r))) as (λ _. ObjectOutcome) [ None ↦ Raise array_index_exception | Some k ↦ at type k ])) (sym f)
    ∙ ap (λ (o : Option ℕ). elim o as (λ _. ObjectOutcome) [ None ↦ Raise array_index_exception | Some k ↦ at type k ]) (sym g)
    ∙ ap (λ b. if b then leaves s core (with_cell core.store r k (kept_value type v)) rest else Raise array_store_exception) (sym h)

-- no object has more cells than a heap
pub small_cells : (store : Store) (r : ℕ) → All (λ o. length o.cells ≤ cell_limit) store.objects → length (cells_of store r) ≤ cell_limit
unfolding cells_of
small_cells store r h = by (slice_get store.objects r) refl
  where
    by : (o : Option HeapObject) → slice_get store.objects r ≡ o → length (elim o as (λ _. List Value) [ None ↦ [] | Some o ↦ o.cells ]) ≤ cell_limit
    by None e = omega arith
    by (Some o) e = all_at (λ (x : HeapObject). length x.cells ≤ cell_limit) store.objects h r o e

pub class_array : (s : System) (core : Core) (r : Row) (i : Instr) (c : ℕ) (stack : Stack) (name : List ℕ) → r ≡ row.NewReferenceArray → Some name ≡ name_of_class s c → class_row s core r i c stack ≡ new_array_row s core (type_of_name name) stack
unfolding class_row given type_of name_of_class type_of_class
class_array s core r i c stack name e f = ap (λ (x : Row). class_row s core x i c stack) e ∙ by (class_at s c) f
  where
    by : (o : Option Class) → Some name ≡ option_map (λ k. k.name) o → given (option_map type_of_class o) (λ type. new_array_row s core type stack) ≡ new_array_row s core (type_of_name name) stack
    by None h = absurd cc
    by (Some k) h = let q : name ≡ k.name = cc in ap (λ (n : List ℕ). new_array_row s core (type_of_name n) stack) (sym q)
