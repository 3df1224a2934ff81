-- Faults of one domain after the other.
use Rattle.std.proofs.Common.{◌≡◌, ◌∙◌, ◌<◌, ◌+◌, refl, sym, ap, suc, ℕ, true, false, List, [], ◌∷◌, length, drop, get_or, Option, Some, None, option_map, Bor, BTreeMap, String, Global, arith}
use Rattle.std.specs.Prelude.{is_some, codes}
use Rattle.std.proofs.lemmas.Bool.{false≢true}
use Rattle.std.proofs.lemmas.List.{drop_more}
use Rattle.toml.specs.Data.{Data, Items, as_array}
use Rattle.toml.specs.View.{table_view}
use Rattle.toml.specs.declared.value.Value.{Value}
use Rattle.system_text.specs.declared.fault.PlanFault.{PlanFault}
use Rattle.system_text.specs.declared.fault.PlanFault.TheVariants as fault
use Rattle.system_text.specs.Keys.{first_fault, domain_key, unknown_fault, items_in}
use Rattle.system_text.specs.Description.{classes_in, text_in, domain_keys, unknown_in_domains, domain_array_fault}
use Rattle.system_text.specs.Scan.{array_of, domain_items_fault, next_domain_fault, next_domains_fault, tables_at, with_new, with_all_new}

abbrev pub Tables : Type 0
Tables = List (Bor (BTreeMap (String Global) Value))

first_alone : (o : Option PlanFault) → first_fault (o ∷ []) ≡ o
unfolding first_fault
first_alone None = refl
first_alone (Some f) = refl

first_of_two : (o other : Option PlanFault) → is_some o ≡ true → first_fault (o ∷ other ∷ []) ≡ o
unfolding first_fault
first_of_two None other h = absurd (false≢true h)
first_of_two (Some f) other h = refl

second_of_two : (o other : Option PlanFault) → is_some o ≡ false → first_fault (o ∷ other ∷ []) ≡ other
unfolding first_fault
second_of_two None other h = first_alone other
second_of_two (Some f) other h = absurd (false≢true (sym h))

pub tables_step : (ts : Tables) (i : ℕ) (x : Bor (BTreeMap (String Global) Value)) → i < length ts → x ≡ get_or ts i x
    → tables_at (drop i ts) ≡ table_view x.now ∷ tables_at (drop (i + 1) ts)
tables_step ts i x lt is =
    ap tables_at (drop_more ts i x lt) ∙ ap (λ t. table_view t.now ∷ tables_at (drop (i + 1) ts)) (sym is)

unknown_step : (ts : Tables) (i : ℕ) (x : Bor (BTreeMap (String Global) Value)) (o : Option PlanFault) → i < length ts → x ≡ get_or ts i x
    → o ≡ unknown_fault domain_keys (domain_key i) (table_view x.now)
    → unknown_in_domains i (tables_at (drop i ts)) ≡ first_fault (o ∷ unknown_in_domains (i + 1) (tables_at (drop (i + 1) ts)) ∷ [])
unfolding unknown_in_domains
unknown_step ts i x o lt is e =
    let next : suc i ≡ i + 1 = omega arith in
    ap (unknown_in_domains i) (tables_step ts i x lt is)
    ∙ (ap (λ p. first_fault (p ∷ unknown_in_domains (suc i) (tables_at (drop (i + 1) ts)) ∷ [])) (sym e)
    ∙ ap (λ n. first_fault (o ∷ unknown_in_domains n (tables_at (drop (i + 1) ts)) ∷ [])) next)

pub unknown_here : (ts : Tables) (i : ℕ) (x : Bor (BTreeMap (String Global) Value)) (o : Option PlanFault) → i < length ts → x ≡ get_or ts i x
    → o ≡ unknown_fault domain_keys (domain_key i) (table_view x.now) → is_some o ≡ true
    → unknown_in_domains i (tables_at (drop i ts)) ≡ o
unknown_here ts i x o lt is e h = unknown_step ts i x o lt is e ∙ first_of_two o _ h

pub unknown_later : (ts : Tables) (i : ℕ) (x : Bor (BTreeMap (String Global) Value)) (o : Option PlanFault) → i < length ts → x ≡ get_or ts i x
    → o ≡ unknown_fault domain_keys (domain_key i) (table_view x.now) → is_some o ≡ false
    → unknown_in_domains i (tables_at (drop i ts)) ≡ unknown_in_domains (i + 1) (tables_at (drop (i + 1) ts))
unknown_later ts i x o lt is e h = unknown_step ts i x o lt is e ∙ second_of_two o _ h

domains_step : (ts : Tables) (i : ℕ) (x : Bor (BTreeMap (String Global) Value)) (names known : List (List ℕ)) (o : Option PlanFault) → i < length ts → x ≡ get_or ts i x
    → o ≡ next_domain_fault i names known (table_view x.now)
    → next_domains_fault i names known (tables_at (drop i ts))
    ≡ first_fault (o ∷ next_domains_fault (i + 1) (with_new names (text_in (codes "name") (table_view x.now))) (with_all_new known (classes_in (table_view x.now))) (tables_at (drop (i + 1) ts)) ∷ [])
unfolding next_domains_fault
domains_step ts i x names known o lt is e =
    let next : suc i ≡ i + 1 = omega arith in
    let more : ℕ → Option PlanFault = λ n. next_domains_fault n (with_new names (text_in (codes "name") (table_view x.now))) (with_all_new known (classes_in (table_view x.now))) (tables_at (drop (i + 1) ts)) in
    ap (next_domains_fault i names known) (tables_step ts i x lt is)
    ∙ (ap (λ p. first_fault (p ∷ more (suc i) ∷ [])) (sym e)
    ∙ ap (λ n. first_fault (o ∷ more n ∷ [])) next)

pub domain_here : (ts : Tables) (i : ℕ) (x : Bor (BTreeMap (String Global) Value)) (names known : List (List ℕ)) (o : Option PlanFault) → i < length ts → x ≡ get_or ts i x
    → o ≡ next_domain_fault i names known (table_view x.now) → is_some o ≡ true
    → next_domains_fault i names known (tables_at (drop i ts)) ≡ o
domain_here ts i x names known o lt is e h = domains_step ts i x names known o lt is e ∙ first_of_two o _ h

pub domain_later : (ts : Tables) (i : ℕ) (x : Bor (BTreeMap (String Global) Value)) (names known : List (List ℕ)) (o : Option PlanFault) → i < length ts → x ≡ get_or ts i x
    → o ≡ next_domain_fault i names known (table_view x.now) → is_some o ≡ false
    → next_domains_fault i names known (tables_at (drop i ts))
    ≡ next_domains_fault (i + 1) (with_new names (text_in (codes "name") (table_view x.now))) (with_all_new known (classes_in (table_view x.now))) (tables_at (drop (i + 1) ts))
domain_later ts i x names known o lt is e h = domains_step ts i x names known o lt is e ∙ second_of_two o _ h

-- ---- the array of domains

abbrev by_items : Option (List Data) → Option PlanFault
by_items None = Some (fault.Kind (codes "domain"))
by_items (Some ds) = domain_items_fault ds

array_by_items : (d : Data) → domain_array_fault d ≡ by_items (array_of d)
unfolding domain_array_fault domain_items_fault
array_by_items d =
    let P : Option Items → Type 0 = λ r. elim r as (λ _. Option PlanFault) [ None ↦ Some (fault.Kind (codes "domain")) | Some ds ↦ domain_items_fault (items_in ds) ] ≡ by_items (option_map items_in r) in
    elim (as_array d) as P [ None ↦ refl | Some ds ↦ refl ]

pub array_with_items : (d : Data) (ds : List Data) → Some ds ≡ array_of d → domain_items_fault ds ≡ domain_array_fault d
array_with_items d ds e = ap by_items e ∙ sym (array_by_items d)

pub no_array : (d : Data) → None ≡ array_of d → Some (fault.Kind (codes "domain")) ≡ domain_array_fault d
no_array d e = ap by_items e ∙ sym (array_by_items d)
