-- The items of arrays, as lists.
use Rattle.std.proofs.Common.{◌≡◌, ◌∙◌, ◌<◌, ◌+◌, refl, sym, ap, ℕ, List, [], ◌∷◌, ◌++◌, map, length, take, get_or, Option, Some, None}
use Rattle.std.specs.List.{filter_map}
use Rattle.std.proofs.lemmas.List.{take_more, map-append, append-nil}
use Rattle.std.proofs.lemmas.List.Elements.{filter_map-append}
use Rattle.toml.specs.Data.{Data, Items, as_array}
use Rattle.toml.specs.View.{items_of, view}
use Rattle.toml.specs.declared.value.Value.{Value}
use Rattle.system_text.specs.Keys.{array_items, items_in}

pub items_in-items_of : (ds : List Data) → items_in (items_of ds) ≡ ds
unfolding items_in
items_in-items_of [] = refl
items_in-items_of (d ∷ ds) = ap (λ xs. d ∷ xs) (items_in-items_of ds)

abbrev listed : Option Items → List Data
listed None = []
listed (Some ds) = items_in ds

array_items_at : (d : Data) → array_items (Some d) ≡ listed (as_array d)
unfolding array_items
array_items_at d = elim (as_array d) as (λ r. elim r as (λ _. List Data) [ None ↦ [] | Some ds ↦ items_in ds ] ≡ listed r) [ None ↦ refl | Some ds ↦ refl ]

pub array_items_seen : (o : Option Data) (d : Data) (ds : List Data) → Some d ≡ o → Some (items_of ds) ≡ as_array d → ds ≡ array_items o
array_items_seen o d ds here array =
    sym (items_in-items_of ds) ∙ (ap listed array ∙ (sym (array_items_at d) ∙ ap array_items here))

-- what is found among one more value
pub one_more_value : {A : Type 0} (h : Data → Option A) (vs : List Value) (i : ℕ) (v : Value) → i < length vs → v ≡ get_or vs i v
    → filter_map h (map view (take (i + 1) vs)) ≡ filter_map h (map view (take i vs)) ++ filter_map h (view v ∷ [])
one_more_value h vs i v lt is =
    ap (λ xs. filter_map h (map view xs)) (take_more vs i v lt)
    ∙ (ap (filter_map h) (map-append view (take i vs) (get_or vs i v ∷ []))
    ∙ (filter_map-append h (map view (take i vs)) (view (get_or vs i v) ∷ [])
    ∙ ap (λ x. filter_map h (map view (take i vs)) ++ filter_map h (view x ∷ [])) (sym is)))

pub value_found : {A : Type 0} (h : Data → Option A) (vs : List Value) (i : ℕ) (v : Value) (x : A) (xs : List A) → i < length vs → v ≡ get_or vs i v
    → xs ≡ filter_map h (map view (take i vs)) → Some x ≡ h (view v) → xs ++ x ∷ [] ≡ filter_map h (map view (take (i + 1) vs))
value_found h vs i v x xs lt is before found = rw (one_more_value h vs i v lt is, ← found, before) refl

pub value_passed : {A : Type 0} (h : Data → Option A) (vs : List Value) (i : ℕ) (v : Value) (xs : List A) → i < length vs → v ≡ get_or vs i v
    → xs ≡ filter_map h (map view (take i vs)) → None ≡ h (view v) → xs ≡ filter_map h (map view (take (i + 1) vs))
value_passed h vs i v xs lt is before none = rw (one_more_value h vs i v lt is, ← none) (before ∙ sym (append-nil _))
