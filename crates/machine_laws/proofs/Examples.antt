-- A store whose StringBuilder refers to an object that is no String: what is appended is a String of cells that are no units.
use Rattle.std.proofs.Common.{◌≡◌, refl, pos, [], ◌∷◌, Some}
use Rattle.std.proofs.Common.{List, ℕ, true, not, ◌&&◌, ◌||◌, None, is_some}
use Rattle.std.specs.Prelude.{filter, codes}
use Rattle.std.specs.List.{list_all, range_with_len}
use Rattle.class_grammar.specs.Flags.{is_interface_flag, has_flag}
use Rattle.jx_base.specs.declared.program.System.{System}
use Rattle.program_model.specs.BuiltIn.{built_in_table}
use Rattle.program_model.specs.Lookup.{class_at, class_named, class_fits, is_below, is_interface, shape_fits_class, ObjectShape, opened_lookup}
use Rattle.machine_model.specs.ObjectRows.{field_type}
use Rattle.program_model.specs.Types.{opened_types}
use Rattle.jx_base.specs.Basics.{passes, is_number}
use Rattle.jx_base.specs.declared.value.Value.TheVariants as value
use Rattle.jx_base.specs.Basics.{opened_basics}
use Rattle.program_model.specs.BuiltIn.{opened_built_in}
use Rattle.machine_model.specs.BuiltInMethods.{Gives, append_of, appended_text, opened_built_in_methods}
use Rattle.machine_model.specs.Start.{object_of, opened_start}
use Rattle.machine_model.specs.State.{Store, opened_state}

-- object 0 is a StringBuilder, and object 1, to which it refers, of class 27, with an int as its first field
abbrev strange_store : Store
strange_store = record { objects = object_of 2 (value.Ref 1 ∷ []) ∷ object_of 27 (value.Int (pos 70000) ∷ []) ∷ []; left = 100; statics = []; literals = []; exports = [] }

-- append of null makes a String with the cell 70,000
strange_text : (s : System) → append_of appended_text s strange_store (value.Ref 0 ∷ value.Null ∷ []) ≡ Gives (record {
  objects = object_of 2 (value.Ref 2 ∷ []) ∷ object_of 27 (value.Int (pos 70000) ∷ [])
      ∷ object_of 1 (value.Int (pos 70000) ∷ value.Int (pos 110) ∷ value.Int (pos 117) ∷ value.Int (pos 108) ∷ value.Int (pos 108) ∷ []) ∷ [];
  left = 93;
  statics = [];
  literals = [];
  exports = [];
}) (Some (value.Ref 0))
unfolding opened_built_in_methods opened_state opened_built_in opened_start opened_basics
strange_text s = refl

-- ---- what is asked of a system, at the built-in classes alone

-- the system of the built-in classes
abbrev bare_system : System
bare_system = record { plan = record { granules = 1; journal = 8208; templates = []; classes = [] }; program = record { classes = built_in_table; methods = []; selectors = [] } }

-- the numbers of the built-in classes
abbrev places : List ℕ
places = range_with_len 0 27

names_computed : list_all (λ c. passes (λ k. is_number (class_named bare_system k.name) c) (class_at bare_system c)) places ≡ true
unfolding opened_lookup opened_built_in opened_basics
names_computed = refl

interfaces_computed : filter (is_interface bare_system) places ≡ 18 ∷ []
unfolding opened_lookup opened_built_in opened_basics is_interface_flag has_flag
interfaces_computed = refl

below_computed : (filter (λ c. is_below bare_system c 1) places ≡ 1 ∷ []) × (filter (λ c. is_below bare_system c 2) places ≡ 2 ∷ [])
    × (filter (is_below bare_system 1) places ≡ 0 ∷ 1 ∷ []) × (filter (is_below bare_system 2) places ≡ 0 ∷ 2 ∷ [])
unfolding opened_lookup opened_built_in opened_basics
below_computed = (refl, refl, refl, refl)

receivers_computed : list_all (λ c. is_interface bare_system c || list_all (λ a. not (shape_fits_class bare_system true (ObjectShape a) c) || is_below bare_system a c) places) places ≡ true
unfolding opened_lookup opened_built_in opened_basics opened_types is_interface_flag has_flag
receivers_computed = refl

fields_computed : (filter (λ c. class_fits bare_system 1 c && is_some (field_type bare_system c 0)) places ≡ []) × (filter (λ c. class_fits bare_system 2 c && is_some (field_type bare_system c 0)) places ≡ 2 ∷ [])
    × (field_type bare_system 2 0 ≡ Some (codes "Ljava/lang/String;")) × (field_type bare_system 2 1 ≡ None)
unfolding opened_lookup opened_built_in opened_basics opened_types field_type
fields_computed = (refl, refl, refl, refl)
