-- The keys of a description, and what may stand at them.
use Rattle.std.specs.Prelude.{ℕ, ℤ, pos, int_le, Bool, true, false, ◌&&◌, not, List, [], ◌∷◌, ◌++◌, length, flat_map, Option, Some, None, nat_le, if◌then◌else◌, codes, find}
use Rattle.std.specs.List.{list_any, list_all, filter_map}
use Rattle.std.specs.Str.{bytes_eq, chars}
use Rattle.std.specs.Fmt.{decimal}
use Rattle.std.specs.Char.Escape.{encode_utf16}
unfoldable pub use Rattle.jx_base.specs.Basics.{first_fault, has_text}
use Rattle.jx_base.specs.ClassNames.{is_class_name}
use Rattle.program_model.specs.Plans.{first_texts}
use Rattle.toml.specs.Data.{Data, Items, no_items, item, Members, no_members, member, as_str, as_integer, as_bool, as_array, as_table}
use Rattle.system_text.specs.declared.fault.PlanFault.{PlanFault}
use Rattle.system_text.specs.declared.fault.PlanFault.TheVariants as fault

-- ---- texts

-- the UTF-16 units of a text in UTF-8
unfoldable pub units_of : List ℕ → List ℕ
units_of bytes = flat_map encode_utf16 (chars bytes)

-- the key of a domain, counted from 0
unfoldable pub domain_key : ℕ → List ℕ → List ℕ
domain_key i key = codes "domain[" ++ (decimal i ++ (codes "]." ++ key))

-- the first text that stood before, in a list behind those that were seen
unfoldable pub repeated_after : List (List ℕ) → List (List ℕ) → Option (List ℕ)
repeated_after seen [] = None
repeated_after seen (text ∷ texts) = if has_text seen text then Some text else repeated_after (text ∷ seen) texts

unfoldable pub first_repeated : List (List ℕ) → Option (List ℕ)
first_repeated texts = repeated_after [] texts

-- ---- tables and arrays

unfoldable pub items_in : Items → List Data
items_in no_items = []
items_in (item d ds) = d ∷ items_in ds

-- the keys of a table, by rising bytes
unfoldable pub keys_in : Members → List (List ℕ)
keys_in no_members = []
keys_in (member key d ms) = key ∷ keys_in ms

-- the items of what is an array, else none
unfoldable pub array_items : Option Data → List Data
array_items None = []
array_items (Some d) = elim (as_array d) [ None ↦ [] | Some ds ↦ items_in ds ]

unfoldable pub is_text : Data → Bool
is_text d = elim (as_str d) [ None ↦ false | Some s ↦ true ]

unfoldable pub is_table : Data → Bool
is_table d = elim (as_table d) [ None ↦ false | Some ms ↦ true ]

-- ---- faults

unfoldable pub fault_if : Bool → PlanFault → Option PlanFault
fault_if test f = if test then Some f else None

-- the fault of a key that has to be there, and of one that need not
unfoldable pub required_fault : List ℕ → (Data → Option PlanFault) → Option Data → Option PlanFault
required_fault key check None = Some (fault.Missing key)
required_fault key check (Some d) = check d

unfoldable pub optional_fault : (Data → Option PlanFault) → Option Data → Option PlanFault
optional_fault check None = None
optional_fault check (Some d) = check d

-- whether a number lies in a range, both ends included
unfoldable pub is_between : ℕ → ℕ → ℤ → Bool
is_between low high z = int_le (pos low) z && int_le z (pos high)

-- the fault of a number of that range
unfoldable pub number_fault : List ℕ → ℕ → ℕ → Data → Option PlanFault
number_fault key low high d = elim (as_integer d) [
  | None ↦ Some (fault.Kind key)
  | Some z ↦ fault_if (not (is_between low high z)) (fault.Range key)
]

-- the fault of a truth value
unfoldable pub switch_fault : List ℕ → Data → Option PlanFault
switch_fault key d = elim (as_bool d) [ None ↦ Some (fault.Kind key) | Some b ↦ None ]

-- 1 to 255 bytes from 0x21 to 0x7E
unfoldable pub is_domain_name : List ℕ → Bool
is_domain_name name = nat_le 1 (length name) && nat_le (length name) 255 && list_all (λ b. nat_le 0x21 b && nat_le b 0x7e) name

-- the fault of a domain's name, behind those names
unfoldable pub name_fault : List ℕ → List (List ℕ) → Data → Option PlanFault
name_fault key names d = elim (as_str d) [
  | None ↦ Some (fault.Kind key)
  | Some name ↦
      first_fault (fault_if (not (is_domain_name name)) (fault.Range key) ∷ fault_if (has_text names name) (fault.Twice name) ∷ [])
]

-- the first text that is there twice
unfoldable pub twice_fault : Option (List ℕ) → Option PlanFault
twice_fault None = None
twice_fault (Some name) = Some (fault.Twice name)

-- whether these are 1 to 256 class names that bring no more than 256 different ones in all
unfoldable pub are_classes : List (List ℕ) → List (List ℕ) → Bool
are_classes before names =
    nat_le 1 (length names) && nat_le (length names) 256 && list_all is_class_name names
    && nat_le (length (first_texts (before ++ names))) 256

-- the fault of a domain's classes, behind those classes
unfoldable pub classes_fault : List ℕ → List (List ℕ) → Data → Option PlanFault
classes_fault key before d = elim (as_array d) [
  | None ↦ Some (fault.Kind key)
  | Some ds ↦
      let names : List (List ℕ) = filter_map as_str (items_in ds) in
      first_fault (
      fault_if (not (list_all is_text (items_in ds))) (fault.Kind key)
      ∷ fault_if (not (are_classes before names)) (fault.Range key)
      ∷ twice_fault (first_repeated names) ∷ []
      )
]

-- the fault of a main class, which has to be one of those
unfoldable pub main_fault : List ℕ → List (List ℕ) → Data → Option PlanFault
main_fault key classes d = elim (as_str d) [
  | None ↦ Some (fault.Kind key)
  | Some name ↦ fault_if (not (has_text classes name)) (fault.Range key)
]

-- the fault of the first key that is not known
unfoldable pub unknown_fault : List (List ℕ) → (List ℕ → List ℕ) → Members → Option PlanFault
unknown_fault known_keys written ms = elim (find (λ key. not (has_text known_keys key)) (keys_in ms)) [
  | None ↦ None
  | Some key ↦ Some (fault.Unknown (written (units_of key)))
]

-- what a computed case opens
unfoldable pub opened_keys : Unit {0}
unfolding units_of domain_key repeated_after first_repeated items_in keys_in array_items is_text is_table fault_if required_fault optional_fault is_between number_fault switch_fault is_domain_name name_fault twice_fault are_classes classes_fault main_fault unknown_fault
opened_keys = tt
