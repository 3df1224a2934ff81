-- Descriptions read domain by domain, with what is known of the earlier ones.
use Rattle.std.specs.Prelude.{ℕ, suc, Bool, true, not, ◌&&◌, List, [], ◌∷◌, ◌++◌, length, map, flat_map, Option, Some, None, option_map, String, nat_le, if◌then◌else◌, codes}
use Rattle.std.specs.List.{list_all, filter_map}
use Rattle.std.specs.Str.{bytes_eq}
use Rattle.std.specs.Borrow.{Bor}
use Rattle.std.specs.BTreeMap.{BTreeMap}
use Rattle.std.specs.declared.alloc.Global.{Global}
use Rattle.jx_base.specs.Basics.{added, all_added}
use Rattle.jx_base.specs.ClassNames.{is_class_name}
use Rattle.jx_base.specs.declared.program.Plan.{Plan}
use Rattle.jx_base.specs.declared.program.Template.{Template}
use Rattle.toml.specs.Data.{Data, Members, get_member, as_str, as_array}
use Rattle.toml.specs.View.{table_view}
use Rattle.toml.specs.declared.value.Value.{Value}
use Rattle.system_text.specs.declared.fault.PlanFault.{PlanFault}
use Rattle.system_text.specs.declared.fault.PlanFault.TheVariants as fault
use Rattle.system_text.specs.Keys.{has_text, items_in, is_text, is_table, domain_key, fault_if, first_fault, first_repeated, twice_fault, required_fault, optional_fault, number_fault, switch_fault, name_fault, main_fault, unknown_fault}
use Rattle.system_text.specs.Description.{classes_in, domains_in, text_in, number_in, switch_in, place_in, top_keys, domain_array_fault, unknown_in_domains}

-- what references point to
abbrev pub texts_at : List (Bor (List ℕ)) → List (List ℕ)
texts_at = map (λ text. text.now)

abbrev pub tables_at : List (Bor (BTreeMap (String Global) Value)) → List Members
tables_at = map (λ table. table_view table.now)

-- the number, or the greatest one of 32 bits below it
unfoldable pub capped : ℕ → ℕ
capped n = if nat_le n 0xFFFFFFFF then n else 0xFFFFFFFF

-- the texts with one that is put behind them, unless it is among them
abbrev pub with_new : List (List ℕ) → List ℕ → List (List ℕ)
with_new texts text = added bytes_eq texts text

-- the texts with those others that are new
abbrev pub with_all_new : List (List ℕ) → List (List ℕ) → List (List ℕ)
with_all_new texts others = all_added bytes_eq texts others

-- ---- faults

-- the items of what is an array
abbrev pub array_of : Data → Option (List Data)
array_of d = option_map items_in (as_array d)

-- the fault of the items of the array of domains
unfoldable pub domain_items_fault : List Data → Option PlanFault
domain_items_fault ds = first_fault (
    fault_if (not (list_all is_table ds)) (fault.Kind (codes "domain"))
    ∷ fault_if (not (nat_le (length ds) 64)) (fault.Range (codes "domain")) ∷ []
    )

-- whether these are 1 to 256 class names, with which no more than 256 are known
unfoldable pub are_more_classes : List (List ℕ) → List (List ℕ) → Bool
are_more_classes known names =
    nat_le 1 (length names) && nat_le (length names) 256 && list_all is_class_name names && nat_le (length (with_all_new known names)) 256

-- the fault of the names of a domain's classes, behind those that are known
unfoldable pub class_names_fault : List ℕ → List (List ℕ) → List (List ℕ) → Option PlanFault
class_names_fault key known names =
    first_fault (fault_if (not (are_more_classes known names)) (fault.Range key) ∷ twice_fault (first_repeated names) ∷ [])

unfoldable pub class_items_fault : List ℕ → List (List ℕ) → List Data → Option PlanFault
class_items_fault key known ds =
    first_fault (fault_if (not (list_all is_text ds)) (fault.Kind key) ∷ class_names_fault key known (filter_map as_str ds) ∷ [])

unfoldable pub more_classes_fault : List ℕ → List (List ℕ) → Data → Option PlanFault
more_classes_fault key known d = elim (array_of d) [ None ↦ Some (fault.Kind key) | Some ds ↦ class_items_fault key known ds ]

-- the first fault of the names of domain i, behind those names and classes
unfoldable pub naming_fault : ℕ → List (List ℕ) → List (List ℕ) → Members → Option PlanFault
naming_fault i names known ms = first_fault (
    required_fault (domain_key i (codes "name")) (name_fault (domain_key i (codes "name")) names) (get_member (codes "name") ms)
    ∷ required_fault (domain_key i (codes "classes")) (more_classes_fault (domain_key i (codes "classes")) known) (get_member (codes "classes") ms)
    ∷ required_fault (domain_key i (codes "main")) (main_fault (domain_key i (codes "main")) (classes_in ms)) (get_member (codes "main") ms) ∷ []
    )

-- the first fault of the other keys of domain i
unfoldable pub sizing_fault : ℕ → Members → Option PlanFault
sizing_fault i ms = first_fault (
    required_fault (domain_key i (codes "heap")) (number_fault (domain_key i (codes "heap")) 16 131072) (get_member (codes "heap") ms)
    ∷ required_fault (domain_key i (codes "fuel")) (number_fault (domain_key i (codes "fuel")) 0 100000000) (get_member (codes "fuel") ms)
    ∷ optional_fault (switch_fault (domain_key i (codes "boot"))) (get_member (codes "boot") ms) ∷ []
    )

unfoldable pub next_domain_fault : ℕ → List (List ℕ) → List (List ℕ) → Members → Option PlanFault
next_domain_fault i names known ms = first_fault (naming_fault i names known ms ∷ sizing_fault i ms ∷ [])

-- the first fault of the domains from number i on, behind those names and classes
unfoldable pub next_domains_fault : ℕ → List (List ℕ) → List (List ℕ) → List Members → Option PlanFault
next_domains_fault i names known [] = None
next_domains_fault i names known (ms ∷ domains) = first_fault (
    next_domain_fault i names known ms
    ∷ next_domains_fault (suc i) (with_new names (text_in (codes "name") ms)) (with_all_new known (classes_in ms)) domains ∷ []
    )

-- the first fault of the machine and of the array of domains
unfoldable pub machine_fault : Members → Option PlanFault
machine_fault top = first_fault (
    required_fault (codes "granules") (number_fault (codes "granules") 1 262144) (get_member (codes "granules") top)
    ∷ optional_fault (number_fault (codes "journal") 8208 16777216) (get_member (codes "journal") top)
    ∷ optional_fault domain_array_fault (get_member (codes "domain") top) ∷ []
    )

-- the first key that is not known
unfoldable pub unknown_key_fault : Members → Option PlanFault
unknown_key_fault top = first_fault (unknown_fault top_keys (λ key. key) top ∷ unknown_in_domains 0 (domains_in top) ∷ [])

unfoldable pub scanned_fault : Members → Option PlanFault
scanned_fault top =
    first_fault (machine_fault top ∷ next_domains_fault 0 [] [] (domains_in top) ∷ unknown_key_fault top ∷ [])

-- ---- plans

-- the names of the classes of those domains
abbrev pub names_of_all : List Members → List (List ℕ)
names_of_all domains = with_all_new [] (flat_map classes_in domains)

-- a kind of domain whose numbers are capped
unfoldable pub capped_template : List (List ℕ) → Members → Template
capped_template classes ms = record {
  name = text_in (codes "name") ms;
  main = capped (place_in classes (text_in (codes "main") ms));
  classes = map (λ name. capped (place_in classes name)) (classes_in ms);
  heap = capped (number_in (codes "heap") 0 ms);
  fuel = capped (number_in (codes "fuel") 0 ms);
  boot = switch_in (codes "boot") true ms;
}

-- a plan whose numbers are capped
unfoldable pub capped_plan : Members → Plan
capped_plan top = record {
  granules = capped (number_in (codes "granules") 0 top);
  journal = capped (number_in (codes "journal") 1048576 top);
  templates = map (capped_template (names_of_all (domains_in top))) (domains_in top);
  classes = names_of_all (domains_in top);
}

-- what a computed case opens
unfoldable pub opened_scan : Unit {0}
unfolding capped domain_items_fault are_more_classes class_names_fault class_items_fault more_classes_fault naming_fault sizing_fault next_domain_fault next_domains_fault machine_fault unknown_key_fault scanned_fault capped_template capped_plan
opened_scan = tt
