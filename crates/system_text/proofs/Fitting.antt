-- What a table without faults holds.
use Rattle.std.proofs.Common.{◌≡◌, ◌∙◌, ◌≤◌, refl, ap, suc, ℕ, ℤ, pos, negsuc, Bool, true, false, List, [], ◌∷◌, ◌++◌, length, map, Option, Some, None, append_assoc, arith}
use Rattle.std.specs.Prelude.{◌&&◌, not, flat_map, codes, nat_le, unsigned_abs, unwrap_or}
use Rattle.std.specs.List.{list_all, filter_map}
use Rattle.std.proofs.lemmas.Bool.{and_parts}
use Rattle.std.proofs.lemmas.Bool.Decides.{nat_tests}
use Rattle.std.proofs.lemmas.List.{append-nil}
use Rattle.std.proofs.lemmas.Grind.{flat_map-append}
use Rattle.jx_base.specs.ClassNames.{is_class_name}
use Rattle.toml.specs.Data.{Data, string, integer, float, boolean, datetime, array, table, Members, as_str, as_integer, get_member}
use Rattle.program_model.specs.Plans.{first_texts}
use Rattle.system_text.specs.declared.fault.PlanFault.{PlanFault}
use Rattle.system_text.specs.declared.fault.PlanFault.TheVariants as fault
use Rattle.system_text.specs.Keys.{first_fault, fault_if, items_in, array_items, is_between, is_domain_name, has_text, are_classes, classes_fault, first_repeated, twice_fault, domain_key, required_fault, optional_fault, number_fault, name_fault, main_fault}
use Rattle.system_text.specs.Description.{classes_in, text_in, number_in, domain_fault, domains_fault}

pub first_none : (o : Option PlanFault) (os : List (Option PlanFault)) → first_fault (o ∷ os) ≡ None → (o ≡ None) × (first_fault os ≡ None)
unfolding first_fault
first_none None os e = (refl, e)
first_none (Some f) os e = absurd (cc)

pub passes : (b : Bool) (f : PlanFault) → fault_if (not b) f ≡ None → b ≡ true
unfolding fault_if
passes true f e = refl
passes false f e = absurd (cc)

fails : (b : Bool) (f : PlanFault) → fault_if b f ≡ None → b ≡ false
unfolding fault_if
fails false f e = refl
fails true f e = absurd (cc)

-- ---- numbers

-- the number that a value is, or the default
abbrev number_of : ℕ → Option Data → ℕ
number_of default None = default
number_of default (Some (integer z)) = unsigned_abs z
number_of default (Some _) = default

abbrev pub IsWithin : ℕ → ℕ → ℕ → Type 0
IsWithin low high n = (low ≤ n) × (n ≤ high)

between : (low high : ℕ) (z : ℤ) → is_between low high z ≡ true → IsWithin low high (unsigned_abs z)
unfolding is_between
between low high (pos n) e = let (a, b) = and_parts (nat_le low n) (nat_le n high) e in (grind (arith, nat_tests), grind (arith, nat_tests))
between low high (negsuc n) e = absurd (cc)

number_passes : (key : List ℕ) (low high default : ℕ) (d : Data) → number_fault key low high d ≡ None → IsWithin low high (number_of default (Some d))
unfolding number_fault
number_passes key low high default (integer z) e = between low high z (passes _ (fault.Range key) e)
number_passes key low high default (string s) e = absurd (cc)
number_passes key low high default (float x) e = absurd (cc)
number_passes key low high default (boolean b) e = absurd (cc)
number_passes key low high default (datetime t) e = absurd (cc)
number_passes key low high default (array ds) e = absurd (cc)
number_passes key low high default (table ms) e = absurd (cc)

required_number : (key : List ℕ) (low high default : ℕ) (o : Option Data) → required_fault key (number_fault key low high) o ≡ None → IsWithin low high (number_of default o)
unfolding required_fault
required_number key low high default None e = absurd (cc)
required_number key low high default (Some d) e = number_passes key low high default d e

optional_number : (key : List ℕ) (low high default : ℕ) (o : Option Data) → optional_fault (number_fault key low high) o ≡ None → IsWithin low high default → IsWithin low high (number_of default o)
unfolding optional_fault
optional_number key low high default None e fits = fits
optional_number key low high default (Some d) e fits = number_passes key low high default d e

by_kind : (default : ℕ) (d : Data) → elim (as_integer d) as (λ _. ℕ) [ None ↦ default | Some z ↦ unsigned_abs z ] ≡ number_of default (Some d)
by_kind default (integer z) = refl
by_kind default (string s) = refl
by_kind default (float x) = refl
by_kind default (boolean b) = refl
by_kind default (datetime t) = refl
by_kind default (array ds) = refl
by_kind default (table ms) = refl

number_in-of : (key : List ℕ) (default : ℕ) (ms : Members) → number_in key default ms ≡ number_of default (get_member key ms)
unfolding number_in
number_in-of key default ms =
    let P : Option Data → Type 0 = λ o. elim o as (λ _. ℕ) [ None ↦ default | Some d ↦ elim (as_integer d) as (λ _. ℕ) [ None ↦ default | Some z ↦ unsigned_abs z ] ] ≡ number_of default o in
    elim (get_member key ms) as P [ None ↦ refl | Some d ↦ by_kind default d ]

pub required_number_fits : (key k : List ℕ) (low high default : ℕ) (ms : Members) → required_fault key (number_fault key low high) (get_member k ms) ≡ None
    → IsWithin low high (number_in k default ms)
required_number_fits key k low high default ms e = rw (number_in-of k default ms) (required_number key low high default (get_member k ms) e)

pub optional_number_fits : (key k : List ℕ) (low high default : ℕ) (ms : Members) → optional_fault (number_fault key low high) (get_member k ms) ≡ None
    → IsWithin low high default → IsWithin low high (number_in k default ms)
optional_number_fits key k low high default ms e fits = rw (number_in-of k default ms) (optional_number key low high default (get_member k ms) e fits)

-- ---- texts

abbrev text_of : Option Data → List ℕ
text_of None = []
text_of (Some d) = unwrap_or (as_str d) []

text_in-of : (key : List ℕ) (ms : Members) → text_in key ms ≡ text_of (get_member key ms)
unfolding text_in
text_in-of key ms =
    let P : Option Data → Type 0 = λ o. elim o as (λ _. List ℕ) [ None ↦ [] | Some d ↦ unwrap_or (as_str d) [] ] ≡ text_of o in
    elim (get_member key ms) as P [ None ↦ refl | Some d ↦ refl ]

abbrev NameFits : List (List ℕ) → List ℕ → Type 0
NameFits names name = (is_domain_name name ≡ true) × (has_text names name ≡ false)

name_passes : (key : List ℕ) (names : List (List ℕ)) (d : Data) → name_fault key names d ≡ None → NameFits names (text_of (Some d))
unfolding name_fault
name_passes key names (string s) e =
    let (range, twice) = first_none _ _ e in
    (passes _ (fault.Range key) range, fails _ (fault.Twice s) (first_none _ _ twice).0)
name_passes key names (integer z) e = absurd (cc)
name_passes key names (float x) e = absurd (cc)
name_passes key names (boolean b) e = absurd (cc)
name_passes key names (datetime t) e = absurd (cc)
name_passes key names (array ds) e = absurd (cc)
name_passes key names (table ms) e = absurd (cc)

required_name : (key : List ℕ) (names : List (List ℕ)) (o : Option Data) → required_fault key (name_fault key names) o ≡ None → NameFits names (text_of o)
unfolding required_fault
required_name key names None e = absurd (cc)
required_name key names (Some d) e = name_passes key names d e

main_passes : (key : List ℕ) (classes : List (List ℕ)) (d : Data) → main_fault key classes d ≡ None → has_text classes (text_of (Some d)) ≡ true
unfolding main_fault
main_passes key classes (string s) e = passes _ (fault.Range key) e
main_passes key classes (integer z) e = absurd (cc)
main_passes key classes (float x) e = absurd (cc)
main_passes key classes (boolean b) e = absurd (cc)
main_passes key classes (datetime t) e = absurd (cc)
main_passes key classes (array ds) e = absurd (cc)
main_passes key classes (table ms) e = absurd (cc)

required_main : (key : List ℕ) (classes : List (List ℕ)) (o : Option Data) → required_fault key (main_fault key classes) o ≡ None → has_text classes (text_of o) ≡ true
unfolding required_fault
required_main key classes None e = absurd (cc)
required_main key classes (Some d) e = main_passes key classes d e

-- ---- classes

pub record ClassesFit (before names : List (List ℕ)) : Type 0 where
  pub some : 1 ≤ length names
  pub few : length names ≤ 256
  pub named : list_all is_class_name names ≡ true
  pub total : length (first_texts (before ++ names)) ≤ 256
  pub once : first_repeated names ≡ None

none_twice : (o : Option (List ℕ)) → twice_fault o ≡ None → o ≡ None
unfolding twice_fault
none_twice None e = refl
none_twice (Some x) e = absurd (cc)

classes_pass : (key : List ℕ) (before : List (List ℕ)) (d : Data) → classes_fault key before d ≡ None → ClassesFit before (filter_map as_str (array_items (Some d)))
unfolding classes_fault array_items are_classes
classes_pass key before (array ds) e =
    let names : List (List ℕ) = filter_map as_str (items_in ds) in
    let (kind, rest) = first_none _ _ e in
    let (range, last) = first_none _ _ rest in
    let (front, total) = and_parts _ (nat_le (length (first_texts (before ++ names))) 256) (passes (are_classes before names) (fault.Range key) range) in
    let (counts, named) = and_parts (nat_le 1 (length names) && nat_le (length names) 256) (list_all is_class_name names) front in
    let (some, few) = and_parts (nat_le 1 (length names)) (nat_le (length names) 256) counts in
    record {
      some = grind (arith, nat_tests);
      few = grind (arith, nat_tests);
      named = named;
      total = grind (arith, nat_tests);
      once = none_twice _ (first_none _ _ last).0;
    }
classes_pass key before (integer z) e = absurd (cc)
classes_pass key before (string s) e = absurd (cc)
classes_pass key before (float x) e = absurd (cc)
classes_pass key before (boolean b) e = absurd (cc)
classes_pass key before (datetime t) e = absurd (cc)
classes_pass key before (table ms) e = absurd (cc)

required_classes : (key : List ℕ) (before : List (List ℕ)) (o : Option Data) → required_fault key (classes_fault key before) o ≡ None → ClassesFit before (filter_map as_str (array_items o))
unfolding required_fault
required_classes key before None e = absurd (cc)
required_classes key before (Some d) e = classes_pass key before d e

-- ---- domains

pub record DomainFits (before : List Members) (ms : Members) : Type 0 where
  pub name : is_domain_name (text_in (codes "name") ms) ≡ true
  pub fresh : has_text (map (text_in (codes "name")) before) (text_in (codes "name") ms) ≡ false
  pub classes : ClassesFit (flat_map classes_in before) (classes_in ms)
  pub main : has_text (classes_in ms) (text_in (codes "main") ms) ≡ true
  pub heap : IsWithin 16 131072 (number_in (codes "heap") 0 ms)
  pub fuel : IsWithin 0 100000000 (number_in (codes "fuel") 0 ms)

pub domain_fits : (i : ℕ) (before : List Members) (ms : Members) → domain_fault i before ms ≡ None → DomainFits before ms
unfolding domain_fault classes_in
domain_fits i before ms e =
    let (name, e1) = first_none _ _ e in
    let (classes, e2) = first_none _ _ e1 in
    let (main, e3) = first_none _ _ e2 in
    let (heap, e4) = first_none _ _ e3 in
    let (fuel, e5) = first_none _ _ e4 in
    let named = required_name (domain_key i (codes "name")) (map (text_in (codes "name")) before) (get_member (codes "name") ms) name in
    record {
      name = rw (text_in-of (codes "name") ms) named.0;
      fresh = ap (has_text (map (text_in (codes "name")) before)) (text_in-of (codes "name") ms) ∙ named.1;
      classes = required_classes (domain_key i (codes "classes")) (flat_map classes_in before) (get_member (codes "classes") ms) classes;
      main = ap (has_text (classes_in ms)) (text_in-of (codes "main") ms) ∙ required_main (domain_key i (codes "main")) (classes_in ms) (get_member (codes "main") ms) main;
      heap = required_number_fits (domain_key i (codes "heap")) (codes "heap") 16 131072 0 ms heap;
      fuel = required_number_fits (domain_key i (codes "fuel")) (codes "fuel") 0 100000000 0 ms fuel;
    }

-- each domain fits behind those before it
abbrev pub DomainsFit : List Members → List Members → Type 0
DomainsFit before [] = Unit {0}
DomainsFit before (ms ∷ domains) = DomainFits before ms × DomainsFit (before ++ ms ∷ []) domains

pub domains_fit : (i : ℕ) (before domains : List Members) → domains_fault i before domains ≡ None → DomainsFit before domains
unfolding domains_fault
domains_fit i before [] e = tt
domains_fit i before (ms ∷ domains) e =
    let (here, rest) = first_none _ _ e in
    (domain_fits i before ms here, domains_fit (suc i) (before ++ ms ∷ []) domains (first_none _ _ rest).0)

-- the number of different classes
pub total_fits : (before domains : List Members) → DomainsFit before domains → length (first_texts (flat_map classes_in before)) ≤ 256
    → length (first_texts (flat_map classes_in (before ++ domains))) ≤ 256
total_fits before [] fit few = rw (append-nil before) few
total_fits before (ms ∷ domains) fit few =
    let joined = flat_map-append classes_in before (ms ∷ []) ∙ ap (λ xs. flat_map classes_in before ++ xs) (append-nil (classes_in ms)) in
    let here : length (first_texts (flat_map classes_in (before ++ ms ∷ []))) ≤ 256 = rw joined fit.0.classes.total in
    rw (← append_assoc before (ms ∷ []) domains) (total_fits (before ++ ms ∷ []) domains fit.1 here)
