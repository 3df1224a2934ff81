-- The walks over the classes of a template, and over the templates of a plan.
use Rattle.std.proofs.Common.{◌≡◌, ◌∙◌, refl, sym, ap, ℕ, ◌+◌, ◌<◌, ◌≤◌, true, false, List, [], ◌∷◌, ◌++◌, length, take, drop, get_or, Option, Some, None, is_some, slice_get}
use Rattle.std.specs.List.{cons_option, filter_map}
use Rattle.std.specs.Option.{option_and_then, option_map}
use Rattle.std.proofs.lemmas.List.{drop_all, drop_more, take_more}
use Rattle.std.proofs.lemmas.Option.{slice_get-get_or}
use Rattle.jx_base.specs.Basics.{first_some}
use Rattle.jx_base.specs.declared.class_file.ClassFile.{ClassFile}
use Rattle.jx_base.specs.declared.program.Plan.{Plan}
use Rattle.link_model.specs.LinkFaults.{Listing, listed_name, listing_at}

-- at its place stands the file of a listing
pub listed_file : (plan : Plan) (files : List ClassFile) (p : ℕ) (x : Listing) → Some x ≡ listing_at plan files p → slice_get files x.place ≡ Some x.file
unfolding listing_at
listed_file plan files p x e = by (listed_name plan p) (slice_get files p) refl e
  where
    by : (name : Option (List ℕ)) (file : Option ClassFile) → slice_get files p ≡ file
        → Some x ≡ option_and_then (λ n. option_map (λ f. record { place = p; name = n; file = f }) file) name → slice_get files x.place ≡ Some x.file
    by None file k q = absurd cc
    by (Some n) None k q = absurd cc
    by (Some n) (Some f) k q =
        let same : x ≡ record { place = p; name = n; file = f } = cc in
        ap (λ (y : Listing). slice_get files y.place) same ∙ k ∙ ap (λ (y : Listing). Some y.file) (sym same)

module _ {A B : Type 0} (f : A → Option B) (found : Option B) where
  -- what the item that is there gives is the first
  gives : (o : Option A) (xs : List A) → found ≡ option_and_then f o → is_some found ≡ true → found ≡ first_some f (cons_option o xs)
  unfolding first_some
  gives None xs e h = absurd cc
  gives (Some x) xs e h = e ∙ by (f x) (ap is_some (sym e) ∙ h)
    where
      by : (o : Option B) → is_some o ≡ true → o ≡ (elim o as (λ _. Option B) [ Some y ↦ Some y | None ↦ first_some f xs ])
      by None k = absurd cc
      by (Some y) k = refl

  -- where it gives nothing, the rest gives the first
  passed_by : (o : Option A) (xs : List A) → found ≡ option_and_then f o → is_some found ≡ false → first_some f xs ≡ first_some f (cons_option o xs)
  unfolding first_some
  passed_by None xs e h = refl
  passed_by (Some x) xs e h = by (f x) (ap is_some (sym e) ∙ h)
    where
      by : (o : Option B) → is_some o ≡ false → first_some f xs ≡ (elim o as (λ _. Option B) [ Some y ↦ Some y | None ↦ first_some f xs ])
      by None k = refl
      by (Some y) k = absurd cc

  module _ (g : ℕ → Option A) (ps : List ℕ) (i d : ℕ) (le : i < length ps) (e : found ≡ option_and_then f (g (get_or ps i d))) where
    -- what is found at a place is the first of it and what is behind it
    pub found_there : is_some found ≡ true → found ≡ first_some f (filter_map g (drop i ps))
    found_there h =
        gives (g (get_or ps i d)) (filter_map g (drop (i + 1) ps)) e h ∙ ap (λ qs. first_some f (filter_map g qs)) (sym (drop_more ps i d le))

    -- where nothing is found, it is behind the place
    pub found_behind : is_some found ≡ false → first_some f (filter_map g (drop (i + 1) ps)) ≡ first_some f (filter_map g (drop i ps))
    found_behind h =
        passed_by (g (get_or ps i d)) (filter_map g (drop (i + 1) ps)) e h ∙ ap (λ qs. first_some f (filter_map g qs)) (sym (drop_more ps i d le))

-- behind all nothing is found
pub found_none : {A B : Type 0} (f : A → Option B) (g : ℕ → Option A) (ps : List ℕ) (i : ℕ) → length ps ≤ i → None ≡ first_some f (filter_map g (drop i ps))
unfolding first_some
found_none f g ps i le = ap (λ qs. first_some f (filter_map g qs)) (sym (drop_all i ps le))

-- ---- templates

module _ {A B : Type 0} (f : A → Option B) where
  -- none gives anything, and one more doesn't
  none_more : (xs : List A) (x : A) → first_some f xs ≡ None → f x ≡ None → first_some f (xs ++ x ∷ []) ≡ None
  unfolding first_some
  none_more [] x h e = ap (λ (o : Option B). elim o as (λ _. Option B) [ Some y ↦ Some y | None ↦ None ]) e
  none_more (y ∷ xs) x h e = by (f y) h (λ k. none_more xs x k e)
    where
      by : (o : Option B) → (elim o as (λ _. Option B) [ Some z ↦ Some z | None ↦ first_some f xs ]) ≡ None → (first_some f xs ≡ None → first_some f (xs ++ x ∷ []) ≡ None)
          → (elim o as (λ _. Option B) [ Some z ↦ Some z | None ↦ first_some f (xs ++ x ∷ []) ]) ≡ None
      by None k again = again k
      by (Some z) k again = absurd cc

  -- so it is along a list
  pub none_further : (xs : List A) (i : ℕ) (x : A) → i < length xs → x ≡ get_or xs i x → first_some f (take i xs) ≡ None → f x ≡ None → first_some f (take (i + 1) xs) ≡ None
  none_further xs i x le at h e =
      ap (first_some f) (take_more xs i x le ∙ ap (λ y. take i xs ++ y ∷ []) (sym at)) ∙ none_more (take i xs) x h e

  -- what the item at a place of a list gives
  pub given_at : (xs : List A) (i : ℕ) (x : A) (found : Option B) → i < length xs → x ≡ get_or xs i x → found ≡ f x → option_and_then f (slice_get xs i) ≡ found
  given_at xs i x found le at e =
      ap (option_and_then f) (slice_get-get_or xs i x le) ∙ ap f (sym at) ∙ sym e

  -- none of no items
  pub none_yet : (xs : List A) → first_some f (take 0 xs) ≡ None
  unfolding first_some
  none_yet xs = refl
