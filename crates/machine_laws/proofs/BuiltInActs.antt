-- The built-in methods perform acts of instructions.
use Rattle.std.proofs.Common.{◌≡◌, refl, ℕ, ℤ, pos, negsuc, Bool, true, false, ◌&&◌, List, [], ◌∷◌, Option, Some, None, slice_get, ◌==◌}
use Rattle.std.specs.Prelude.{find, if◌then◌else◌}
use Rattle.std.specs.List.{AllByRecursion}
use Rattle.std.specs.Option.{option_and_then}
use Rattle.jx_base.specs.declared.act.Act.{Act}
use Rattle.jx_base.specs.declared.act.Act.TheVariants as act
use Rattle.jx_base.specs.declared.ids.ObjectId.{ObjectId}
use Rattle.jx_base.specs.declared.program.Method.{Method}
use Rattle.jx_base.specs.declared.program.Selector.{Selector}
use Rattle.jx_base.specs.declared.program.System.{System}
use Rattle.jx_base.specs.declared.value.Value.{Value}
use Rattle.jx_base.specs.declared.value.Value.TheVariants as value
use Rattle.jx_base.specs.Basics.{not_below_zero}
use Rattle.program_model.specs.BuiltIn.{builder_class, class_cast_exception, memory_class, object_class, portal_class, range_exception, string_class, string_index_exception, throwable_class, zero_class}
use Rattle.program_model.specs.Lookup.{selector_at}
use Rattle.program_model.specs.Ranges.{is_service_name}
use Rattle.machine_model.specs.BuiltInMethods.{BuiltInMethod, BuiltInOutcome, Effect, Gives, HasNoRoom, Performs, Raises, Unfit, act_if, append_of, appended_bool, appended_number, appended_text, appended_unit, bind, builder_constructor, builder_effects, built_in_method, built_in_outcome, constructor, constructor_effects, copy, effects_of, export, export_of, fill, first_cell, identity_test, int_act, interface_named, is_of, is_short, is_thread_count, lookup, memory_act, memory_effects, memory_int_act, memory_ints_act, message_constructor, message_effects, object_effects, pause, result_value, string_effects, text_act, text_cells, text_concatenation, text_hash, text_length, text_of, text_test, text_unit, unit_at, with_new_text, zero_effects}
use Rattle.machine_model.specs.State.{Store, cells_of, class_of_object, new_object}
use Rattle.machine_laws.proofs.Lists.{all_append, all_found}
use Rattle.machine_laws.proofs.CodeActs.{IsInstructionAct}

-- what it performs is an act of an instruction
abbrev pub PerformsOfCode : BuiltInOutcome → Type 0
PerformsOfCode (Performs a) = IsInstructionAct a
PerformsOfCode _ = Unit {0}

-- so is what a method performs, whatever it is called with
abbrev IsOfCode : Effect → Type 0
IsOfCode f = (s : System) (store : Store) (args : List Value) → PerformsOfCode (f s store args)

-- what comes of a test
chosen_of : (b : Bool) (x y : BuiltInOutcome) → PerformsOfCode x → PerformsOfCode y → PerformsOfCode (if b then x else y)
chosen_of true x y h k = h
chosen_of false x y h k = k

-- what makes a text gives a result
new_text_of : (store : Store) (units : List ℕ) (go : Store → ℕ → BuiltInOutcome) → ((new : Store) (x : ℕ) → PerformsOfCode (go new x)) → PerformsOfCode (with_new_text store units go)
unfolding with_new_text
new_text_of store units go h = by (new_object store string_class (text_cells units))
  where
    by : (o : Option (Store × ℕ)) → PerformsOfCode (elim o as (λ _. BuiltInOutcome) [ None ↦ HasNoRoom | Some x ↦ go x.0 x.1 ])
    by None = tt
    by (Some x) = h x.0 x.1

-- ---- objects and texts

constructor_of : IsOfCode constructor
unfolding constructor
constructor_of s store args = tt

identity_of : IsOfCode identity_test
unfolding identity_test result_value
identity_of s store (a ∷ b ∷ []) = tt
identity_of s store _ = tt

message_of : IsOfCode message_constructor
unfolding message_constructor
message_of s store (value.Ref r ∷ v ∷ []) = tt
message_of s store _ = tt

first_cell_of : IsOfCode first_cell
unfolding first_cell
first_cell_of s store (value.Ref r ∷ []) = tt
first_cell_of s store _ = tt

length_of : IsOfCode text_length
unfolding text_length result_value
length_of s store (value.Ref r ∷ []) = tt
length_of s store _ = tt

unit_at_of : (store : Store) (units : List ℕ) (i : ℤ) → PerformsOfCode (unit_at store units i)
unfolding unit_at result_value
unit_at_of store units (pos i) = by (slice_get units i)
  where
    by : (o : Option ℕ) → PerformsOfCode (elim o as (λ _. BuiltInOutcome) [ None ↦ Raises string_index_exception | Some u ↦ Gives store (Some (value.Int (pos u))) ])
    by None = tt
    by (Some u) = tt
unit_at_of store units (negsuc i) = tt

unit_of_text : IsOfCode text_unit
unfolding text_unit
unit_of_text s store (value.Ref r ∷ value.Int i ∷ []) = unit_at_of store (text_of store r) i
unit_of_text s store _ = tt

test_of : IsOfCode text_test
unfolding text_test result_value
test_of s store (value.Ref r ∷ v ∷ []) = tt
test_of s store _ = tt

hash_of_text : IsOfCode text_hash
unfolding text_hash result_value
hash_of_text s store (value.Ref r ∷ []) = tt
hash_of_text s store _ = tt

concatenation_of : IsOfCode text_concatenation
unfolding text_concatenation result_value
concatenation_of s store (value.Ref r ∷ value.Null ∷ []) = tt
concatenation_of s store (value.Ref r ∷ value.Ref o ∷ []) = new_text_of store _ _ (λ new x. tt)
concatenation_of s store _ = tt

builder_of : IsOfCode builder_constructor
unfolding builder_constructor
builder_of s store (value.Ref b ∷ []) = new_text_of store _ _ (λ new x. tt)
builder_of s store _ = tt

append_of_code : (more : Store → Value → List ℕ) → IsOfCode (append_of more)
unfolding append_of result_value
append_of_code more s store (value.Ref b ∷ v ∷ []) = by (slice_get (cells_of store b) 0) refl
  where
    by : (o : Option Value) → slice_get (cells_of store b) 0 ≡ o → PerformsOfCode (append_of more s store (value.Ref b ∷ v ∷ []))
    by (Some (value.Ref r)) e = rw e (new_text_of store _ _ (λ new x. tt))
    by (Some (value.Int n)) e = rw e tt
    by (Some (value.Long n)) e = rw e tt
    by (Some value.Null) e = rw e tt
    by (Some (value.Portal k c)) e = rw e tt
    by (Some (value.Mem m)) e = rw e tt
    by None e = rw e tt
append_of_code more s store _ = tt

-- ---- jx/Zero

text_act_of : (f : List ℕ → Act) → ((t : List ℕ) → IsInstructionAct (f t)) → IsOfCode (text_act f)
unfolding text_act act_if
text_act_of f h s store (value.Null ∷ []) = tt
text_act_of f h s store (value.Ref r ∷ []) = chosen_of (is_short (text_of store r)) _ _ (h (text_of store r)) tt
text_act_of f h s store _ = tt

int_act_of : (f : ℤ → Act) → ((n : ℤ) → IsInstructionAct (f n)) → IsOfCode (int_act f)
unfolding int_act
int_act_of f h s store (value.Int n ∷ []) = h n
int_act_of f h s store _ = tt

pause_of : IsOfCode pause
unfolding pause
pause_of s store args = tt

lookup_of : IsOfCode lookup
unfolding lookup act_if
lookup_of s store (value.Null ∷ []) = tt
lookup_of s store (value.Ref r ∷ []) = chosen_of (is_service_name (text_of store r)) _ _ tt tt
lookup_of s store _ = tt

bind_of : IsOfCode bind
unfolding bind
bind_of s store (value.Null ∷ p ∷ []) = tt
bind_of s store (value.Ref r ∷ value.Null ∷ []) = tt
bind_of s store (value.Ref r ∷ value.Portal k c ∷ []) = chosen_of (is_service_name (text_of store r)) _ _ tt tt
bind_of s store (value.Ref r ∷ value.Ref o ∷ []) = chosen_of (is_service_name (text_of store r)) _ _ tt tt
bind_of s store (value.Ref r ∷ value.Int o ∷ []) = chosen_of (is_service_name (text_of store r)) _ _ tt tt
bind_of s store (value.Ref r ∷ value.Long o ∷ []) = chosen_of (is_service_name (text_of store r)) _ _ tt tt
bind_of s store (value.Ref r ∷ value.Mem o ∷ []) = chosen_of (is_service_name (text_of store r)) _ _ tt tt
bind_of s store _ = tt

export_of_object : (s : System) (store : Store) (v : Value) (name : List ℕ) (n : ℤ) → PerformsOfCode (export_of s store v name n)
unfolding export_of
export_of_object s store (value.Ref r) name n = by (option_and_then (λ c. interface_named s c name) (class_of_object store r))
  where
    by : (o : Option ℕ) → PerformsOfCode (elim o as (λ _. BuiltInOutcome) [ None ↦ Raises class_cast_exception | Some i ↦ Performs (act.Export (record { 0 = i }) (not_below_zero n)) ])
    by None = tt
    by (Some i) = tt
export_of_object s store _ name n = tt

export_when : (s : System) (store : Store) (v : Value) (r : ℕ) (k : ℤ) → PerformsOfCode (if is_short (text_of store r) && is_thread_count k then export_of s store v (text_of store r) k else Raises range_exception)
export_when s store v r k = chosen_of (is_short (text_of store r) && is_thread_count k) _ _ (export_of_object s store v (text_of store r) k) tt

export_of_code : IsOfCode export
unfolding export
export_of_code s store (value.Null ∷ n ∷ k ∷ []) = tt
export_of_code s store (value.Ref o ∷ value.Null ∷ k ∷ []) = tt
export_of_code s store (value.Int o ∷ value.Null ∷ k ∷ []) = tt
export_of_code s store (value.Long o ∷ value.Null ∷ k ∷ []) = tt
export_of_code s store (value.Portal o c ∷ value.Null ∷ k ∷ []) = tt
export_of_code s store (value.Mem o ∷ value.Null ∷ k ∷ []) = tt
export_of_code s store (value.Ref o ∷ value.Ref r ∷ value.Int k ∷ []) = export_when s store (value.Ref o) r k
export_of_code s store (value.Int o ∷ value.Ref r ∷ value.Int k ∷ []) = export_when s store (value.Int o) r k
export_of_code s store (value.Long o ∷ value.Ref r ∷ value.Int k ∷ []) = export_when s store (value.Long o) r k
export_of_code s store (value.Portal o c ∷ value.Ref r ∷ value.Int k ∷ []) = export_when s store (value.Portal o c) r k
export_of_code s store (value.Mem o ∷ value.Ref r ∷ value.Int k ∷ []) = export_when s store (value.Mem o) r k
export_of_code s store _ = tt

-- ---- jx/Memory

memory_of : (f : ObjectId → Act) → ((m : ObjectId) → IsInstructionAct (f m)) → IsOfCode (memory_act f)
unfolding memory_act
memory_of f h s store (value.Mem m ∷ []) = h m
memory_of f h s store _ = tt

memory_int_of : (f : ObjectId → ℤ → Act) → ((m : ObjectId) (n : ℤ) → IsInstructionAct (f m n)) → IsOfCode (memory_int_act f)
unfolding memory_int_act
memory_int_of f h s store (value.Mem m ∷ value.Int n ∷ []) = h m n
memory_int_of f h s store _ = tt

memory_ints_of : (f : ObjectId → ℤ → ℤ → Act) → ((m : ObjectId) (n k : ℤ) → IsInstructionAct (f m n k)) → IsOfCode (memory_ints_act f)
unfolding memory_ints_act
memory_ints_of f h s store (value.Mem m ∷ value.Int n ∷ value.Int k ∷ []) = h m n k
memory_ints_of f h s store _ = tt

fill_of : IsOfCode fill
unfolding fill
fill_of s store (value.Mem m ∷ value.Int n ∷ value.Int k ∷ value.Int b ∷ []) = tt
fill_of s store _ = tt

copy_of : IsOfCode copy
unfolding copy
copy_of s store (value.Mem m ∷ value.Int n ∷ value.Null ∷ value.Int to ∷ value.Int k ∷ []) = tt
copy_of s store (value.Mem m ∷ value.Int n ∷ value.Mem o ∷ value.Int to ∷ value.Int k ∷ []) = tt
copy_of s store _ = tt

-- ---- the lists

abbrev AreOfCode : List BuiltInMethod → Type 0
AreOfCode ms = AllByRecursion (λ (m : BuiltInMethod). IsOfCode m.effect) ms

objects : AreOfCode object_effects
unfolding object_effects built_in_method
objects = (constructor_of, (identity_of, tt))

strings : AreOfCode string_effects
unfolding string_effects built_in_method
strings = (length_of, (unit_of_text, (test_of, (hash_of_text, (concatenation_of, tt)))))

builders : AreOfCode builder_effects
unfolding builder_effects built_in_method
builders = (builder_of, (append_of_code appended_text, (append_of_code appended_number, (append_of_code appended_number, (append_of_code appended_unit, (append_of_code appended_bool, (first_cell_of, tt)))))))

constructors : (c : ℕ) → AreOfCode (constructor_effects c)
unfolding constructor_effects built_in_method
constructors c = (constructor_of, (message_of, tt))

messages : AreOfCode message_effects
unfolding message_effects built_in_method
messages = (first_cell_of, tt)

zeros : AreOfCode zero_effects
unfolding zero_effects built_in_method
zeros = (
  text_act_of (λ t. act.Print t) (λ t. tt),
  (export_of_code, (bind_of, (lookup_of, (int_act_of (λ n. act.Alloc n) (λ n. tt), (text_act_of (λ t. act.Spawn t) (λ t. tt), (int_act_of (λ n. act.Kill n) (λ n. tt), (int_act_of (λ n. act.Exit n) (λ n. tt), (pause_of, tt)))))))),
)

memories : AreOfCode memory_effects
unfolding memory_effects built_in_method
memories = (
  memory_of (λ m. act.Size m) (λ m. tt),
  (
    memory_int_of (λ m at. act.Get m at 1) (λ m n. tt),
    (
      memory_int_of (λ m at. act.Get m at 2) (λ m n. tt),
      (
        memory_int_of (λ m at. act.Get m at 4) (λ m n. tt),
        (
          memory_ints_of (λ m at v. act.Set m at 1 v) (λ m n k. tt),
          (
            memory_ints_of (λ m at v. act.Set m at 2 v) (λ m n k. tt),
            (
              memory_ints_of (λ m at v. act.Set m at 4 v) (λ m n k. tt),
              (
                fill_of,
                (
                  copy_of,
                  (
                    memory_ints_of (λ m at n. act.Sub m at n) (λ m n k. tt),
                    (memory_int_of (λ m at. act.Split m at) (λ m n. tt), (memory_of (λ m. act.Revoke m) (λ m. tt), (memory_of (λ m. act.Release m) (λ m. tt), tt))),
                  ),
                ),
              ),
            ),
          ),
        ),
      ),
    ),
  ),
)

chosen_list : (b : Bool) (xs ys : List BuiltInMethod) → AreOfCode xs → AreOfCode ys → AreOfCode (if b then xs else ys)
chosen_list true xs ys h k = h
chosen_list false xs ys h k = k

effects : (c : ℕ) → AreOfCode (effects_of c)
unfolding effects_of
effects c =
    chosen_list (c == object_class) _ _ objects
    (chosen_list (c == string_class) _ _ strings
    (chosen_list (c == builder_class) _ _ builders
    (chosen_list (c == throwable_class) _ _ (all_append (λ (m : BuiltInMethod). IsOfCode m.effect) (constructor_effects c) message_effects (constructors c) messages)
    (chosen_list (c == portal_class) _ _ tt
    (chosen_list (c == zero_class) _ _ zeros (chosen_list (c == memory_class) _ _ memories (constructors c)))))))

-- a built-in method performs such an act
pub built_in_of : (s : System) (store : Store) (k : Method) (args : List Value) → PerformsOfCode (built_in_outcome s store k args)
unfolding built_in_outcome
built_in_of s store k args = by (selector_at s k.selector.0)
  where
    found : (o : Option BuiltInMethod) (p : BuiltInMethod → Bool) → find p (effects_of k.class.0) ≡ o → PerformsOfCode (elim o as (λ _. BuiltInOutcome) [ None ↦ Unfit | Some b ↦ b.effect s store args ])
    found None p e = tt
    found (Some m) p e = all_found (λ (m : BuiltInMethod). IsOfCode m.effect) p (effects_of k.class.0) m e (effects k.class.0) s store args

    by : (o : Option Selector) → PerformsOfCode (elim (option_and_then (λ x. find (is_of x) (effects_of k.class.0)) o) as (λ _. BuiltInOutcome) [ None ↦ Unfit | Some b ↦ b.effect s store args ])
    by None = tt
    by (Some x) = found (find (is_of x) (effects_of k.class.0)) (is_of x) refl
