-- A described plan lies in its ranges.
use Rattle.std.proofs.Common.{◌≡◌, ◌∙◌, ◌≤◌, refl, sym, ap, ℕ, Bool, true, List, [], ◌∷◌, ◌++◌, length, map, subst, Option, Some, None, arith}
use Rattle.std.specs.Prelude.{nat_le, All, codes, flat_map}
use Rattle.std.specs.List.{list_all, range_with_len, filter_map}
use Rattle.std.proofs.lemmas.Bool.{and_parts}
use Rattle.std.proofs.lemmas.Bool.Decides.{nat_tests}
use Rattle.std.proofs.lemmas.List.{map-append, length-map}
use Rattle.std.proofs.lemmas.List.Elements.{All-nil, All-cons}
use Rattle.std.proofs.lemmas.List.Folds.{list_all-append}
use Rattle.std.proofs.lemmas.List.Sums.{AllPass-from_list_all}
use Rattle.jx_base.specs.ClassNames.{is_class_name}
use Rattle.jx_base.specs.declared.program.Plan.{Plan}
use Rattle.jx_base.specs.Basics.{firsts, distinct}
use Rattle.program_model.specs.Plans.{first_texts, has_name_length, is_template_name, IsTemplateInRange, IsPlanInRange}
use Rattle.toml.specs.Data.{Data, string, integer, float, boolean, datetime, array, table, Members, as_table, get_member}
use Rattle.system_text.specs.declared.fault.PlanFault.TheVariants as fault
use Rattle.system_text.specs.Keys.{array_items, first_repeated, has_text, is_domain_name, items_in, optional_fault}
use Rattle.system_text.specs.Description.{class_names, classes_in, described_plan, described_template, domain_array_fault, domains_in, place_in, plan_fault, text_in, Describes}
use Rattle.system_text.proofs.Capped.{top_fits}
use Rattle.system_text.proofs.Distinct.{with_all_new-distinct}
use Rattle.system_text.proofs.Fitting.{DomainFits, DomainsFit, first_none, passes}
use Rattle.system_text.proofs.Places.{all_pass, all_taken, and_true, AreAmong, AreNew, contains_place, distinct_are_new, distinct_of_once, first_texts_of_new, firsts_of_places, places_in_turn, places_within}
use Rattle.system_text.proofs.Scanned.{names_of, names_more}

once_in_order : (names texts : List (List ℕ)) → AreAmong names texts → first_repeated texts ≡ None → firsts (map (place_in names) texts) ≡ map (place_in names) texts
unfolding distinct first_repeated
once_in_order names texts among once = firsts_of_places names [] texts refl among ∙ ap (map (place_in names)) (distinct_of_once [] texts once)

template_in_range : (names : List (List ℕ)) (before : List Members) (ms : Members) → AreAmong names (classes_in ms) → DomainFits before ms
    → IsTemplateInRange (length names) (described_template names ms)
unfolding described_template is_template_name has_name_length is_domain_name
template_in_range names before ms among fit = record {
  name = fit.name;
  main = contains_place (place_in names) (classes_in ms) (text_in (codes "main") ms) fit.main;
  class_count = rw (length-map (classes_in ms) (place_in names)) (fit.classes.some, fit.classes.few);
  class_places = places_within names (classes_in ms) among;
  class_once = once_in_order names (classes_in ms) among fit.classes.once;
  heap = fit.heap;
  fuel = fit.fuel.1;
}

among_first : (p : List ℕ → Bool) (ms : Members) (domains : List Members) → list_all p (flat_map classes_in (ms ∷ domains)) ≡ true
    → (list_all p (classes_in ms) ≡ true) × (list_all p (flat_map classes_in domains) ≡ true)
among_first p ms domains e =
    and_parts (list_all p (classes_in ms)) (list_all p (flat_map classes_in domains)) (sym (list_all-append p (classes_in ms) (flat_map classes_in domains)) ∙ e)

templates_in_range : (names : List (List ℕ)) (before domains : List Members) → AreAmong names (flat_map classes_in domains) → DomainsFit before domains
    → All (IsTemplateInRange (length names)) (map (described_template names) domains)
templates_in_range names before [] among fit = All-nil (IsTemplateInRange (length names))
templates_in_range names before (ms ∷ domains) among fit =
    let (here, more) = among_first (has_text names) ms domains among in
    All-cons (IsTemplateInRange (length names)) (described_template names ms) (map (described_template names) domains) (template_in_range names before ms here fit.0) (templates_in_range names (before ++ ms ∷ []) domains more fit.1)

names_new : (before domains : List Members) → DomainsFit before domains → AreNew (names_of before) (names_of domains)
names_new before [] fit = tt
names_new before (ms ∷ domains) fit =
    let rest : AreNew (names_of (before ++ ms ∷ [])) (names_of domains) = names_new (before ++ ms ∷ []) domains fit.1 in
    let P : List (List ℕ) → Type 0 = λ names. AreNew names (names_of domains) in
    (fit.0.fresh, subst P (names_more before ms) rest)

template_names : (names : List (List ℕ)) (domains : List Members) → map (λ t. t.name) (map (described_template names) domains) ≡ names_of domains
unfolding described_template
template_names names [] = refl
template_names names (ms ∷ domains) = ap (λ ns. text_in (codes "name") ms ∷ ns) (template_names names domains)

template_classes : (names : List (List ℕ)) (domains : List Members) → flat_map (λ t. t.classes) (map (described_template names) domains) ≡ map (place_in names) (flat_map classes_in domains)
unfolding described_template
template_classes names [] = refl
template_classes names (ms ∷ domains) =
    ap (λ cs. map (place_in names) (classes_in ms) ++ cs) (template_classes names domains) ∙ sym (map-append (place_in names) (classes_in ms) (flat_map classes_in domains))

all_named : (before domains : List Members) → DomainsFit before domains → list_all is_class_name (flat_map classes_in domains) ≡ true
all_named before [] fit = refl
all_named before (ms ∷ domains) fit =
    list_all-append is_class_name (classes_in ms) (flat_map classes_in domains) ∙ and_true _ _ fit.0.classes.named (all_named (before ++ ms ∷ []) domains fit.1)

fewer_tables : (ds : List Data) → length (filter_map as_table ds) ≤ length ds
fewer_tables [] = omega arith
fewer_tables (table ms ∷ ds) = let rest = fewer_tables ds in omega arith
fewer_tables (string s ∷ ds) = let rest = fewer_tables ds in omega arith
fewer_tables (integer z ∷ ds) = let rest = fewer_tables ds in omega arith
fewer_tables (float x ∷ ds) = let rest = fewer_tables ds in omega arith
fewer_tables (boolean b ∷ ds) = let rest = fewer_tables ds in omega arith
fewer_tables (datetime t ∷ ds) = let rest = fewer_tables ds in omega arith
fewer_tables (array xs ∷ ds) = let rest = fewer_tables ds in omega arith

few_in_array : (d : Data) → domain_array_fault d ≡ None → length (filter_map as_table (array_items (Some d))) ≤ 64
unfolding domain_array_fault array_items
few_in_array (array ds) e =
    let (tables, rest) = first_none _ _ e in
    let few : nat_le (length (items_in ds)) 64 ≡ true = passes _ (fault.Range (codes "domain")) (first_none _ _ rest).0 in
    let fewer = fewer_tables (items_in ds) in
    grind (arith, nat_tests)
few_in_array (string s) e = absurd (cc)
few_in_array (integer z) e = absurd (cc)
few_in_array (float x) e = absurd (cc)
few_in_array (boolean b) e = absurd (cc)
few_in_array (datetime t) e = absurd (cc)
few_in_array (table ms) e = absurd (cc)

few_domains : (o : Option Data) → optional_fault domain_array_fault o ≡ None → length (filter_map as_table (array_items o)) ≤ 64
unfolding optional_fault array_items
few_domains None e = omega arith
few_domains (Some d) e = few_in_array d e

domain_count : (top : Members) → plan_fault top ≡ None → length (domains_in top) ≤ 64
unfolding plan_fault domains_in
domain_count top e = few_domains (get_member (codes "domain") top) (first_none _ _ (first_none _ _ (first_none _ _ e).1).1).0

among_all : (top : Members) → AreAmong (class_names top) (flat_map classes_in (domains_in top))
unfolding class_names
among_all top =
    subst (λ (names : List (List ℕ)). AreAmong names (flat_map classes_in (domains_in top))) (with_all_new-distinct (flat_map classes_in (domains_in top)))
    (all_taken [] (flat_map classes_in (domains_in top)))

names_pass : (top : Members) → DomainsFit [] (domains_in top) → list_all is_class_name (class_names top) ≡ true
unfolding class_names
names_pass top fit =
    subst (λ (names : List (List ℕ)). list_all is_class_name names ≡ true) (with_all_new-distinct (flat_map classes_in (domains_in top)))
    (all_pass is_class_name [] (flat_map classes_in (domains_in top)) refl (all_named [] (domains_in top) fit))

classes_new : (top : Members) → AreNew [] (class_names top)
unfolding class_names distinct
classes_new top = distinct_are_new [] [] (flat_map classes_in (domains_in top)) (λ t. refl)

in_order : (top : Members) → firsts (flat_map (λ t. t.classes) (map (described_template (class_names top)) (domains_in top))) ≡ range_with_len 0 (length (class_names top))
unfolding distinct class_names
in_order top =
    ap firsts (template_classes (class_names top) (domains_in top))
    ∙ (firsts_of_places (class_names top) [] (flat_map classes_in (domains_in top)) refl (among_all top)
    ∙ places_in_turn [] (class_names top) (classes_new top))

top_in_range : (top : Members) → plan_fault top ≡ None → IsPlanInRange (described_plan top)
unfolding described_plan distinct
top_in_range top accepted =
    let fits = top_fits top accepted in
    let tables = domains_in top in
    let names = class_names top in
    record {
      granules = fits.granules;
      journal = fits.journal;
      template_count = rw (length-map (domains_in top) (described_template (class_names top))) (domain_count top accepted);
      templates = templates_in_range (class_names top) [] (domains_in top) (among_all top) fits.domains;
      template_once = rw (template_names (class_names top) (domains_in top)) (first_texts_of_new [] [] (names_of (domains_in top)) (λ t. refl) (names_new [] (domains_in top) fits.domains));
      class_count = fits.total;
      class_names = AllPass-from_list_all is_class_name (class_names top) (names_pass top fits.domains);
      class_once = first_texts_of_new [] [] (class_names top) (λ t. refl) (classes_new top);
      class_order = in_order top;
    }

pub plan_in_range : (bytes : List ℕ) (plan : Plan) → Describes bytes plan → IsPlanInRange plan
plan_in_range bytes plan d = subst IsPlanInRange (sym d.is_plan.described) (top_in_range d.top d.is_plan.accepted)
