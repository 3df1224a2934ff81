-- The selectors of methods, put together one class after the other.
use Rattle.std.proofs.Common.{◌≡◌, ◌∙◌, refl, sym, ap, ℕ, suc, ◌+◌, ◌<◌, Bool, true, false, List, [], ◌∷◌, ◌++◌, length, map, take, get_or, reverse, append_assoc, None, arith, inl, inr}
use Rattle.std.specs.Prelude.{flat_map}
use Rattle.std.specs.List.{list_any}
use Rattle.std.proofs.Math.Seq.{take-suc}
use Rattle.std.proofs.lemmas.Bool.{cases_Bool}
use Rattle.std.proofs.lemmas.List.{append-nil, get_or_default, map-append, reverse-append}
use Rattle.std.proofs.lemmas.List.Sorted.{list_any-IsPermutation, IsPermutation-reverse}
use Rattle.jx_base.specs.Basics.{added, all_added}
use Rattle.jx_base.specs.declared.class_file.ClassFile.{ClassFile}
use Rattle.jx_base.specs.declared.class_file.Member.{Member}
use Rattle.jx_base.specs.declared.program.Class.{Class}
use Rattle.jx_base.specs.declared.program.Declared.{Declared}
use Rattle.jx_base.specs.declared.program.Selector.{Selector}
use Rattle.jx_base.proofs.BasicLaws.{ap2}
use Rattle.program_model.specs.BuiltIn.{built_in_count, built_in_table}
use Rattle.program_model.specs.Lookup.{same_selector}
use Rattle.link_model.specs.ClassFiles.{member_selector}
use Rattle.link_model.specs.Linking.{Source, built_in_sources_from, declared_of, file_sources, file_sources_from, first_selectors_after, linked_selectors, sources}

-- ---- adding

module _ {A : Type 0} (same : A → A → Bool) where
  -- items that are added one list after the other
  pub added_lists : (xs ys zs : List A) → all_added same xs (ys ++ zs) ≡ all_added same (all_added same xs ys) zs
  unfolding all_added
  added_lists xs [] zs = refl
  added_lists xs (y ∷ ys) zs = added_lists (added same xs y) ys zs

  -- one item more
  pub added_last : (xs ys : List A) (y : A) → all_added same xs (ys ++ y ∷ []) ≡ added same (all_added same xs ys) y
  unfolding all_added
  added_last xs ys y = added_lists xs ys (y ∷ [])

  -- one item more of a list
  pub added_next : {B : Type 0} (f : B → A) (xs : List A) (ys : List B) (i : ℕ) (y : B) → i < length ys → y ≡ get_or ys i y
      → all_added same xs (map f (take (i + 1) ys)) ≡ added same (all_added same xs (map f (take i ys))) (f y)
  added_next f xs ys i y le is =
      ap (λ zs. all_added same xs (map f zs)) (ap (λ n. take n ys) (next i) ∙ take-suc ys i y le ∙ ap (λ z. take i ys ++ z ∷ []) (sym is))
      ∙ ap (all_added same xs) (map-append f (take i ys) (y ∷ []))
      ∙ added_last xs (map f (take i ys)) (f y)
    where
      next : (i : ℕ) → i + 1 ≡ suc i
      next i = omega arith

  -- the items of one more of a list
  pub added_flat : {B : Type 0} (f : B → List A) (xs front : List A) (ys : List B) (i : ℕ) (y : B) → i < length ys → y ≡ get_or ys i y
      → all_added same xs (front ++ flat_map f (take (i + 1) ys)) ≡ all_added same (all_added same xs (front ++ flat_map f (take i ys))) (f y)
  added_flat {B = B} f xs front ys i y le is =
      ap (λ zs. all_added same xs (front ++ flat_map f zs)) (ap (λ n. take n ys) (next i) ∙ take-suc ys i y le ∙ ap (λ z. take i ys ++ z ∷ []) (sym is))
      ∙ ap (λ zs. all_added same xs (front ++ zs)) (last (take i ys))
      ∙ ap (all_added same xs) (sym (append_assoc front (flat_map f (take i ys)) (f y)))
      ∙ added_lists xs (front ++ flat_map f (take i ys)) (f y)
    where
      next : (i : ℕ) → i + 1 ≡ suc i
      next i = omega arith

      last : (zs : List B) → flat_map f (zs ++ y ∷ []) ≡ flat_map f zs ++ f y
      last [] = append-nil (f y)
      last (z ∷ zs) = ap (λ r. f z ++ r) (last zs) ∙ sym (append_assoc (f z) (flat_map f zs) (f y))

-- the items of one more of a list, at its place
pub added_at : {A B : Type 0} (same : A → A → Bool) (f : B → List A) (xs front : List A) (ys : List B) (i : ℕ) (d : B) → i < length ys
    → all_added same xs (front ++ flat_map f (take (i + 1) ys)) ≡ all_added same (all_added same xs (front ++ flat_map f (take i ys))) (f (get_or ys i d))
added_at same f xs front ys i d le = added_flat same f xs front ys i (get_or ys i d) le (get_or_default ys i d (get_or ys i d) le)

-- ---- first mentions

module _ (known : List Selector) (x : Selector) where
  -- a selector is among those that are known, newest first
  any_seen : list_any (same_selector x) (reverse known) ≡ list_any (same_selector x) known
  any_seen = sym (list_any-IsPermutation (same_selector x) known (reverse known) (IsPermutation-reverse known))

  -- one that is known is not added
  kept : list_any (same_selector x) known ≡ true → added same_selector known x ≡ known
  unfolding added
  kept e = rw e refl

  -- another one is
  grown : list_any (same_selector x) known ≡ false → added same_selector known x ≡ known ++ x ∷ []
  unfolding added
  grown e = rw e refl

  -- one that was seen is left out
  left_out : (xs : List Selector) → list_any (same_selector x) known ≡ true → first_selectors_after (reverse known) (x ∷ xs) ≡ first_selectors_after (reverse known) xs
  unfolding first_selectors_after
  left_out xs e = rw (any_seen ∙ e, first_selectors_after) refl

  -- another one comes first
  comes_first : (xs : List Selector) → list_any (same_selector x) known ≡ false → first_selectors_after (reverse known) (x ∷ xs) ≡ x ∷ first_selectors_after (x ∷ reverse known) xs
  unfolding first_selectors_after
  comes_first xs e = rw (any_seen ∙ e, first_selectors_after) refl

-- the selectors that are new behind those that are known
added_known : (known xs : List Selector) → all_added same_selector known xs ≡ known ++ first_selectors_after (reverse known) xs
unfolding all_added first_selectors_after
added_known known [] = sym (append-nil known)
added_known known (x ∷ xs) = elim (cases_Bool (list_any (same_selector x) known)) [
  | inl there ↦
      ap (λ ks. all_added same_selector ks xs) (kept known x there) ∙ added_known known xs ∙ ap (λ ys. known ++ ys) (sym (left_out known x xs there))
  | inr new ↦
      ap (λ ks. all_added same_selector ks xs) (grown known x new) ∙ added_known (known ++ x ∷ []) xs
      ∙ append_assoc known (x ∷ []) (first_selectors_after (reverse (known ++ x ∷ [])) xs)
      ∙ ap (λ seen. known ++ x ∷ first_selectors_after seen xs) (reverse-append known (x ∷ []))
      ∙ ap (λ ys. known ++ ys) (sym (comes_first known x xs new))
]

-- ---- the selectors of all methods

-- those of a class
abbrev pub class_selectors : Class → List Selector
class_selectors k = map (λ m. m.selector) k.methods

-- those of a file
abbrev pub file_selectors : ClassFile → List Selector
file_selectors f = map member_selector f.methods

-- the selectors of a class's methods
own_of_class : (c : ℕ) (ms : List Declared) → map (λ (x : Source). x.declared.selector) (map (λ m. record { class = c; declared = m; code = None }) ms) ≡ map (λ (m : Declared). m.selector) ms
own_of_class c [] = refl
own_of_class c (m ∷ ms) = ap (λ xs. m.selector ∷ xs) (own_of_class c ms)

-- the selectors of a file's methods
own_of_file : (c : ℕ) (ms : List Member) → map (λ (x : Source). x.declared.selector) (map (λ m. record { class = c; declared = declared_of m; code = m.code }) ms) ≡ map member_selector ms
unfolding declared_of
own_of_file c [] = refl
own_of_file c (m ∷ ms) = ap (λ xs. member_selector m ∷ xs) (own_of_file c ms)

-- those of all classes
of_classes : (c : ℕ) (ks : List Class) → map (λ x. x.declared.selector) (built_in_sources_from c ks) ≡ flat_map class_selectors ks
unfolding built_in_sources_from
of_classes c [] = refl
of_classes c (k ∷ ks) =
    map-append (λ (x : Source). x.declared.selector) (map (λ m. record { class = c; declared = m; code = None }) k.methods) (built_in_sources_from (c + 1) ks)
    ∙ ap2 (λ xs ys. xs ++ ys) (own_of_class c k.methods) (of_classes (c + 1) ks)

-- those of all files
of_files : (c : ℕ) (fs : List ClassFile) → map (λ x. x.declared.selector) (file_sources_from c fs) ≡ flat_map file_selectors fs
unfolding file_sources_from file_sources declared_of
of_files c [] = refl
of_files c (f ∷ fs) =
    map-append (λ (x : Source). x.declared.selector) (file_sources c f) (file_sources_from (c + 1) fs)
    ∙ ap2 (λ xs ys. xs ++ ys) (own_of_file c f.methods) (of_files (c + 1) fs)

-- the selectors in the order in which methods first have them
pub selectors_are : (files : List ClassFile) → all_added same_selector [] (flat_map class_selectors built_in_table ++ flat_map file_selectors files) ≡ linked_selectors (sources files)
unfolding linked_selectors sources
selectors_are files =
    added_known [] (flat_map class_selectors built_in_table ++ flat_map file_selectors files)
    ∙ ap (first_selectors_after []) (sym (map-append (λ x. x.declared.selector) (built_in_sources_from 0 built_in_table) (file_sources_from built_in_count files)
    ∙ ap2 (λ xs ys. xs ++ ys) (of_classes 0 built_in_table) (of_files built_in_count files)))
