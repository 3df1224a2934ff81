-- Plans without faults have no number that is capped.
use Rattle.std.proofs.Common.{◌≡◌, ◌≤◌, refl, ℕ, Bool, true, false, cond, List, [], ◌∷◌, ◌++◌, length, map, Some, None, arith, le-leb}
use Rattle.std.specs.Prelude.{codes, nat_le, unwrap_or, flat_map}
use Rattle.std.specs.List.{position_or_len}
use Rattle.std.specs.Str.{bytes_eq}
use Rattle.std.proofs.lemmas.Bool.Decides.{nat_tests}
use Rattle.toml.specs.Data.{Members}
use Rattle.program_model.specs.Plans.{first_texts, first_texts_after}
use Rattle.jx_base.specs.Basics.{distinct, distinct_after, has_text}
use Rattle.system_text.specs.Description.{plan_fault, described_plan, described_template, class_names, domains_in, classes_in, place_in, number_in, text_in}
use Rattle.system_text.specs.Scan.{capped, capped_plan, capped_template, names_of_all}
use Rattle.system_text.proofs.Distinct.{with_all_new-distinct}
use Rattle.system_text.proofs.Fitting.{DomainFits, DomainsFit, IsWithin, domains_fit, first_none, optional_number_fits, required_number_fits, total_fits}

capped_small : (n : ℕ) → n ≤ 0xFFFFFFFF → capped n ≡ n
unfolding capped
capped_small n small = let e : nat_le n 0xFFFFFFFF ≡ true = le-leb n 0xFFFFFFFF small in rw e refl

place_of_cond : (b : Bool) (n k : ℕ) → n ≡ k → (b ≡ true → n ≤ 256) → unwrap_or (cond b (Some n) None) 0 ≤ 256
place_of_cond true n k e small = small refl
place_of_cond false n k e small = omega arith

pub place_is_small : (names : List (List ℕ)) (name : List ℕ) → length names ≤ 256 → place_in names name ≤ 256
unfolding place_in
place_is_small names name few = place_of_cond _ (position_or_len (bytes_eq name) names) _ refl (λ within. grind (arith, nat_tests))

places_same : (names texts : List (List ℕ)) → length names ≤ 256 → map (λ name. capped (place_in names name)) texts ≡ map (place_in names) texts
places_same names [] few = refl
places_same names (text ∷ texts) few =
    let small = place_is_small names text few in
    rw (capped_small (place_in names text) (omega arith), places_same names texts few) refl

template_same : (names : List (List ℕ)) (before : List Members) (ms : Members) → length names ≤ 256 → DomainFits before ms → capped_template names ms ≡ described_template names ms
unfolding capped_template described_template
template_same names before ms few fit =
    let main = place_is_small names (text_in (codes "main") ms) few in
    let heap = fit.heap.1 in
    let fuel = fit.fuel.1 in
    rw (capped_small (place_in names (text_in (codes "main") ms)) (omega arith), places_same names (classes_in ms) few, capped_small (number_in (codes "heap") 0 ms) (omega arith), capped_small (number_in (codes "fuel") 0 ms) (omega arith)) refl

templates_same : (names : List (List ℕ)) (before domains : List Members) → length names ≤ 256 → DomainsFit before domains
    → map (capped_template names) domains ≡ map (described_template names) domains
templates_same names before [] few fit = refl
templates_same names before (ms ∷ domains) few fit =
    rw (template_same names before ms few fit.0, templates_same names (before ++ ms ∷ []) domains few fit.1) refl

pub record TopFits (top : Members) : Type 0 where
  pub granules : IsWithin 1 262144 (number_in (codes "granules") 0 top)
  pub journal : IsWithin 8208 16777216 (number_in (codes "journal") 1048576 top)
  pub domains : DomainsFit [] (domains_in top)
  pub total : length (class_names top) ≤ 256

pub top_fits : (top : Members) → plan_fault top ≡ None → TopFits top
unfolding plan_fault class_names distinct distinct_after has_text
top_fits top e =
    let (granules, e1) = first_none _ _ e in
    let (journal, e2) = first_none _ _ e1 in
    let (domain_array, e3) = first_none _ _ e2 in
    let (domains, e4) = first_none _ _ e3 in
    let fit = domains_fit 0 [] (domains_in top) domains in
    record {
      granules = required_number_fits (codes "granules") (codes "granules") 1 262144 0 top granules;
      journal = optional_number_fits (codes "journal") (codes "journal") 8208 16777216 1048576 top journal (omega arith, omega arith);
      domains = fit;
      total = total_fits [] (domains_in top) fit (omega arith);
    }

pub capped_is_described : (top : Members) → plan_fault top ≡ None → capped_plan top ≡ described_plan top
unfolding capped_plan described_plan class_names
capped_is_described top accepted =
    let fits = top_fits top accepted in
    let names : names_of_all (domains_in top) ≡ class_names top = with_all_new-distinct (flat_map classes_in (domains_in top)) in
    let granules = fits.granules.1 in
    let journal = fits.journal.1 in
    rw (names, templates_same (class_names top) [] (domains_in top) fits.total fits.domains, capped_small (number_in (codes "granules") 0 top) (omega arith), capped_small (number_in (codes "journal") 1048576 top) (omega arith)) refl
