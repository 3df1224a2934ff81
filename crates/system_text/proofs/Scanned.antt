-- The faults, found domain by domain, are those of the description.
use Rattle.std.proofs.Common.{◌≡◌, ◌∙◌, refl, sym, ap, suc, ℕ, List, [], ◌∷◌, ◌++◌, length, map, Option, Some, None, option_map}
use Rattle.std.specs.Prelude.{◌&&◌, not, flat_map, codes, nat_le}
use Rattle.std.specs.List.{list_all, filter_map}
use Rattle.std.proofs.lemmas.List.{append-nil, map-append}
use Rattle.std.proofs.lemmas.Grind.{flat_map-append}
use Rattle.jx_base.specs.ClassNames.{is_class_name}
use Rattle.toml.specs.Data.{Data, Items, Members, as_array, as_str, get_member}
use Rattle.program_model.specs.Plans.{first_texts, first_texts_after}
use Rattle.jx_base.specs.Basics.{all_added, distinct, distinct_after}
use Rattle.system_text.specs.declared.fault.PlanFault.{PlanFault}
use Rattle.system_text.specs.declared.fault.PlanFault.TheVariants as fault
use Rattle.system_text.specs.Keys.{first_fault, fault_if, items_in, is_text, are_classes, classes_fault, first_repeated, twice_fault, domain_key, has_text, is_domain_name, name_fault, required_fault}
use Rattle.system_text.specs.Description.{classes_in, domains_in, text_in, domain_fault, domains_fault, plan_fault}
use Rattle.system_text.specs.Scan.{are_more_classes, class_names_fault, class_items_fault, more_classes_fault, naming_fault, sizing_fault, next_domain_fault, next_domains_fault, machine_fault, unknown_key_fault, scanned_fault, with_all_new, with_new}
use Rattle.system_text.proofs.Distinct.{HasSame, distinct-append}
use Rattle.system_text.proofs.TextSets.{has_distinct}

one_and_two : (a b c : Option PlanFault) → first_fault (a ∷ b ∷ c ∷ []) ≡ first_fault (a ∷ first_fault (b ∷ c ∷ []) ∷ [])
unfolding first_fault
one_and_two (Some f) b c = refl
one_and_two None (Some f) c = refl
one_and_two None None (Some f) = refl
one_and_two None None None = refl

three_and_three : (a b c d e f : Option PlanFault)
    → first_fault (a ∷ b ∷ c ∷ d ∷ e ∷ f ∷ []) ≡ first_fault (first_fault (a ∷ b ∷ c ∷ []) ∷ first_fault (d ∷ e ∷ f ∷ []) ∷ [])
unfolding first_fault
three_and_three (Some x) b c d e f = refl
three_and_three None (Some x) c d e f = refl
three_and_three None None (Some x) d e f = refl
three_and_three None None None (Some x) e f = refl
three_and_three None None None None (Some x) f = refl
three_and_three None None None None None (Some x) = refl
three_and_three None None None None None None = refl

three_one_two : (a b c d e f : Option PlanFault)
    → first_fault (a ∷ b ∷ c ∷ d ∷ e ∷ f ∷ []) ≡ first_fault (first_fault (a ∷ b ∷ c ∷ []) ∷ d ∷ first_fault (e ∷ f ∷ []) ∷ [])
unfolding first_fault
three_one_two (Some x) b c d e f = refl
three_one_two None (Some x) c d e f = refl
three_one_two None None (Some x) d e f = refl
three_one_two None None None (Some x) e f = refl
three_one_two None None None None (Some x) f = refl
three_one_two None None None None None (Some x) = refl
three_one_two None None None None None None = refl

classes_same : (before names : List (List ℕ)) → are_classes before names ≡ are_more_classes (first_texts before) names
unfolding are_classes are_more_classes
classes_same before names =
    ap (λ xs. nat_le 1 (length names) && nat_le (length names) 256 && list_all is_class_name names && nat_le (length xs) 256) (sym (distinct-append before names))

-- the fault of the items of an array of classes
abbrev early_fault : List ℕ → List (List ℕ) → List Data → Option PlanFault
early_fault key before ds = first_fault (
    fault_if (not (list_all is_text ds)) (fault.Kind key)
    ∷ fault_if (not (are_classes before (filter_map as_str ds))) (fault.Range key)
    ∷ twice_fault (first_repeated (filter_map as_str ds)) ∷ []
    )

items_same : (key : List ℕ) (before : List (List ℕ)) (ds : List Data) → early_fault key before ds ≡ class_items_fault key (first_texts before) ds
unfolding class_items_fault class_names_fault
items_same key before ds =
    ap (λ b. first_fault (
    fault_if (not (list_all is_text ds)) (fault.Kind key)
    ∷ fault_if (not b) (fault.Range key)
    ∷ twice_fault (first_repeated (filter_map as_str ds)) ∷ []
    )) (classes_same before (filter_map as_str ds))
    ∙ one_and_two _ _ _

more_classes_same : (key : List ℕ) (before : List (List ℕ)) (d : Data) → classes_fault key before d ≡ more_classes_fault key (first_texts before) d
unfolding classes_fault more_classes_fault
more_classes_same key before d =
    let P : Option Items → Type 0 = λ r.
    elim r as (λ _. Option PlanFault) [ None ↦ Some (fault.Kind key) | Some ds ↦ early_fault key before (items_in ds) ]
    ≡ elim (option_map items_in r) as (λ _. Option PlanFault) [ None ↦ Some (fault.Kind key) | Some ds ↦ class_items_fault key (first_texts before) ds ] in
    elim (as_array d) as P [ None ↦ refl | Some ds ↦ items_same key before (items_in ds) ]

required_same : (key : List ℕ) (check other : Data → Option PlanFault) (o : Option Data) → ((d : Data) → check d ≡ other d)
    → required_fault key check o ≡ required_fault key other o
unfolding required_fault
required_same key check other None same = refl
required_same key check other (Some d) same = same d

-- ---- the names and the classes of those domains

abbrev pub names_of : List Members → List (List ℕ)
names_of before = map (text_in (codes "name")) before

abbrev pub known_names_of : List Members → List (List ℕ)
known_names_of before = first_texts (names_of before)

abbrev pub known_of : List Members → List (List ℕ)
known_of before = first_texts (flat_map classes_in before)

name_same : (key : List ℕ) (names others : List (List ℕ)) (d : Data) → HasSame names others → name_fault key names d ≡ name_fault key others d
unfolding name_fault
name_same key names others d same =
    let P : Option (List ℕ) → Type 0 = λ r.
    elim r as (λ _. Option PlanFault) [
      | None ↦ Some (fault.Kind key)
      | Some name ↦ first_fault (fault_if (not (is_domain_name name)) (fault.Range key) ∷ fault_if (has_text names name) (fault.Twice name) ∷ [])
    ]
    ≡ elim r as (λ _. Option PlanFault) [
      | None ↦ Some (fault.Kind key)
      | Some name ↦ first_fault (fault_if (not (is_domain_name name)) (fault.Range key) ∷ fault_if (has_text others name) (fault.Twice name) ∷ [])
    ] in
    elim (as_str d) as P [ None ↦ refl | Some name ↦ ap (λ b. first_fault (fault_if (not (is_domain_name name)) (fault.Range key) ∷ fault_if b (fault.Twice name) ∷ [])) (same name) ]

domain_same : (i : ℕ) (before : List Members) (ms : Members) → domain_fault i before ms ≡ next_domain_fault i (known_names_of before) (known_of before) ms
unfolding domain_fault next_domain_fault naming_fault sizing_fault
domain_same i before ms =
    three_and_three _ _ _ _ _ _
    ∙ rw (
      required_same (domain_key i (codes "name")) _ _ (get_member (codes "name") ms) (λ d. name_same (domain_key i (codes "name")) (names_of before) (known_names_of before) d (has_distinct (names_of before))),
      required_same (domain_key i (codes "classes")) _ _ (get_member (codes "classes") ms) (more_classes_same (domain_key i (codes "classes")) (flat_map classes_in before)),
    ) refl

pub names_more : (before : List Members) (ms : Members) → names_of (before ++ ms ∷ []) ≡ names_of before ++ text_in (codes "name") ms ∷ []
names_more before ms = map-append (text_in (codes "name")) before (ms ∷ [])

known_names_more : (before : List Members) (ms : Members) → known_names_of (before ++ ms ∷ []) ≡ with_new (known_names_of before) (text_in (codes "name") ms)
unfolding all_added
known_names_more before ms =
    ap first_texts (names_more before ms)
    ∙ sym (distinct-append (names_of before) (text_in (codes "name") ms ∷ []))

known_more : (before : List Members) (ms : Members) → known_of (before ++ ms ∷ []) ≡ with_all_new (known_of before) (classes_in ms)
known_more before ms =
    ap first_texts (flat_map-append classes_in before (ms ∷ []) ∙ ap (λ xs. flat_map classes_in before ++ xs) (append-nil (classes_in ms)))
    ∙ sym (distinct-append (flat_map classes_in before) (classes_in ms))

domains_same : (i : ℕ) (before domains : List Members) → domains_fault i before domains ≡ next_domains_fault i (known_names_of before) (known_of before) domains
unfolding domains_fault next_domains_fault
domains_same i before [] = refl
domains_same i before (ms ∷ domains) =
    ap (λ o. first_fault (o ∷ domains_fault (suc i) (before ++ ms ∷ []) domains ∷ [])) (domain_same i before ms)
    ∙ ap (λ o. first_fault (next_domain_fault i (known_names_of before) (known_of before) ms ∷ o ∷ []))
    (domains_same (suc i) (before ++ ms ∷ []) domains
    ∙ (ap (λ xs. next_domains_fault (suc i) xs (known_of (before ++ ms ∷ [])) domains) (known_names_more before ms)
    ∙ ap (λ xs. next_domains_fault (suc i) (with_new (known_names_of before) (text_in (codes "name") ms)) xs domains) (known_more before ms)))

pub plan_fault-scanned : (top : Members) → plan_fault top ≡ scanned_fault top
unfolding plan_fault scanned_fault machine_fault unknown_key_fault distinct distinct_after has_text
plan_fault-scanned top = three_one_two _ _ _ _ _ _ ∙ rw (domains_same 0 [] (domains_in top)) refl
