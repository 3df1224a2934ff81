-- Descriptions of systems: which tables are one, which plan they describe, and the first fault of those that are none.
use Rattle.std.specs.Prelude.{◌≡◌, ℕ, suc, ◌⊎◌, unsigned_abs, Bool, true, not, List, [], ◌∷◌, ◌++◌, length, map, flat_map, position, Option, Some, None, nat_le, if◌then◌else◌, unwrap_or, codes}
use Rattle.std.specs.List.{list_all, filter_map}
use Rattle.std.specs.Str.{bytes_eq, is_utf8}
use Rattle.jx_base.specs.declared.program.Plan.{Plan}
use Rattle.jx_base.specs.declared.program.Template.{Template}
use Rattle.toml.specs.Data.{Data, Members, get_member, as_str, as_integer, as_bool, as_array, as_table}
use Rattle.toml.specs.Parse.{parse_document}
use Rattle.program_model.specs.Plans.{first_texts}
use Rattle.system_text.specs.declared.fault.PlanFault.{PlanFault}
use Rattle.system_text.specs.declared.fault.PlanFault.TheVariants as fault
use Rattle.system_text.specs.Keys.{domain_key, items_in, array_items, is_table, fault_if, first_fault, required_fault, optional_fault, number_fault, switch_fault, name_fault, classes_fault, main_fault, unknown_fault}

-- ---- what a table says

-- the tables of the domains
unfoldable pub domains_in : Members → List Members
domains_in top = filter_map as_table (array_items (get_member (codes "domain") top))

-- a domain's name, the names of its classes, and that of its main class
unfoldable pub text_in : List ℕ → Members → List ℕ
text_in key ms = elim (get_member key ms) [ None ↦ [] | Some d ↦ unwrap_or (as_str d) [] ]

unfoldable pub classes_in : Members → List (List ℕ)
classes_in ms = filter_map as_str (array_items (get_member (codes "classes") ms))

-- a number at a key, or its default
unfoldable pub number_in : List ℕ → ℕ → Members → ℕ
number_in key default ms = elim (get_member key ms) [
  | None ↦ default
  | Some d ↦ elim (as_integer d) [ None ↦ default | Some z ↦ unsigned_abs z ]
]

-- a truth value at a key, or its default
unfoldable pub switch_in : List ℕ → Bool → Members → Bool
switch_in key default ms = elim (get_member key ms) [ None ↦ default | Some d ↦ unwrap_or (as_bool d) default ]

-- ---- faults

-- the fault of the array of domains: 0 to 64 tables
unfoldable pub domain_array_fault : Data → Option PlanFault
domain_array_fault d = elim (as_array d) [
  | None ↦ Some (fault.Kind (codes "domain"))
  | Some ds ↦
      first_fault (
      fault_if (not (list_all is_table (items_in ds))) (fault.Kind (codes "domain"))
      ∷ fault_if (not (nat_le (length (items_in ds)) 64)) (fault.Range (codes "domain")) ∷ []
      )
]

-- the first fault of the keys of domain i, behind those domains
unfoldable pub domain_fault : ℕ → List Members → Members → Option PlanFault
domain_fault i before ms = first_fault (
    required_fault (domain_key i (codes "name")) (name_fault (domain_key i (codes "name")) (map (text_in (codes "name")) before)) (get_member (codes "name") ms)
    ∷ required_fault (domain_key i (codes "classes")) (classes_fault (domain_key i (codes "classes")) (flat_map classes_in before)) (get_member (codes "classes") ms)
    ∷ required_fault (domain_key i (codes "main")) (main_fault (domain_key i (codes "main")) (classes_in ms)) (get_member (codes "main") ms)
    ∷ required_fault (domain_key i (codes "heap")) (number_fault (domain_key i (codes "heap")) 16 131072) (get_member (codes "heap") ms)
    ∷ required_fault (domain_key i (codes "fuel")) (number_fault (domain_key i (codes "fuel")) 0 100000000) (get_member (codes "fuel") ms)
    ∷ optional_fault (switch_fault (domain_key i (codes "boot"))) (get_member (codes "boot") ms) ∷ []
    )

-- the first fault of the domains from number i on, behind those
unfoldable pub domains_fault : ℕ → List Members → List Members → Option PlanFault
domains_fault i before [] = None
domains_fault i before (ms ∷ domains) =
    first_fault (domain_fault i before ms ∷ domains_fault (suc i) (before ++ ms ∷ []) domains ∷ [])

-- the keys of a description, and of a domain
unfoldable pub top_keys : List (List ℕ)
top_keys = codes "granules" ∷ codes "journal" ∷ codes "domain" ∷ []

unfoldable pub domain_keys : List (List ℕ)
domain_keys = codes "name" ∷ codes "classes" ∷ codes "main" ∷ codes "heap" ∷ codes "fuel" ∷ codes "boot" ∷ []

-- the first key that is not known of the domains from number i on
unfoldable pub unknown_in_domains : ℕ → List Members → Option PlanFault
unknown_in_domains i [] = None
unknown_in_domains i (ms ∷ domains) = first_fault (unknown_fault domain_keys (domain_key i) ms ∷ unknown_in_domains (suc i) domains ∷ [])

-- the first fault of a table, in the order in which they count
unfoldable pub plan_fault : Members → Option PlanFault
plan_fault top = first_fault (
    required_fault (codes "granules") (number_fault (codes "granules") 1 262144) (get_member (codes "granules") top)
    ∷ optional_fault (number_fault (codes "journal") 8208 16777216) (get_member (codes "journal") top)
    ∷ optional_fault domain_array_fault (get_member (codes "domain") top)
    ∷ domains_fault 0 [] (domains_in top)
    ∷ unknown_fault top_keys (λ key. key) top
    ∷ unknown_in_domains 0 (domains_in top) ∷ []
    )

-- ---- plans

-- the names of all classes, in order of first mention by the lists of classes
unfoldable pub class_names : Members → List (List ℕ)
class_names top = first_texts (flat_map classes_in (domains_in top))

-- the place of a name
unfoldable pub place_in : List (List ℕ) → List ℕ → ℕ
place_in names name = unwrap_or (position (bytes_eq name) names) 0

-- the kind of domain that a table describes
unfoldable pub described_template : List (List ℕ) → Members → Template
described_template classes ms = record {
  name = text_in (codes "name") ms;
  main = place_in classes (text_in (codes "main") ms);
  classes = map (place_in classes) (classes_in ms);
  heap = number_in (codes "heap") 0 ms;
  fuel = number_in (codes "fuel") 0 ms;
  boot = switch_in (codes "boot") true ms;
}

-- the plan that a table describes
unfoldable pub described_plan : Members → Plan
described_plan top = record {
  granules = number_in (codes "granules") 0 top;
  journal = number_in (codes "journal") 1048576 top;
  templates = map (described_template (class_names top)) (domains_in top);
  classes = class_names top;
}

-- the table describes this plan
pub record IsPlan (top : Members) (plan : Plan) : Type 0 where
  pub accepted : plan_fault top ≡ None
  pub described : plan ≡ described_plan top

-- ---- texts

-- the table of the bytes, where they are TOML in UTF-8
unfoldable pub table_of : List ℕ → Option Members
table_of bytes = if is_utf8 bytes then parse_document bytes else None

-- the bytes describe this plan
pub record Describes (bytes : List ℕ) (plan : Plan) : Type 0 where
  pub top : Members
  pub parsed : table_of bytes ≡ Some top
  pub is_plan : IsPlan top plan

-- the first fault of the bytes
abbrev pub IsPlanFault : List ℕ → PlanFault → Type 0
IsPlanFault bytes f =
    ((table_of bytes ≡ None) × (f ≡ fault.NotToml)) ⊎ ((top : Members) × (table_of bytes ≡ Some top) × (plan_fault top ≡ Some f))

-- ---- the plan of a class alone

-- a machine of 16,384 granules, a journal of 1,048,576 words, and one domain named `main` of that class
unfoldable pub one_class_plan : List ℕ → Plan
one_class_plan name = record {
  granules = 16384;
  journal = 1048576;
  templates = record { name = codes "main"; main = 0; classes = 0 ∷ []; heap = 1024; fuel = 1000000; boot = true } ∷ [];
  classes = name ∷ [];
}

-- what a computed case opens
unfoldable pub opened_description : Unit {0}
unfolding domains_in text_in classes_in number_in switch_in domain_array_fault domain_fault domains_fault top_keys domain_keys unknown_in_domains plan_fault class_names place_in described_template described_plan table_of one_class_plan
opened_description = tt
