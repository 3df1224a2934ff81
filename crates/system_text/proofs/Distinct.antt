-- Texts without repeats, put together one list after the other.
use Rattle.std.proofs.Common.{◌≡◌, ◌∙◌, ◌<◌, ◌+◌, refl, sym, ap, ℕ, Bool, true, false, List, [], ◌∷◌, ◌++◌, length, drop, get_or, append_assoc, inl, inr, Bor, BTreeMap, String, Global}
use Rattle.std.specs.Prelude.{◌||◌, flat_map}
use Rattle.std.specs.List.{list_any}
use Rattle.std.specs.Str.{bytes_eq}
use Rattle.std.proofs.lemmas.Bool.{cases_Bool}
use Rattle.std.proofs.lemmas.List.{append-nil}
use Rattle.std.proofs.lemmas.List.Folds.{list_any-append}
use Rattle.toml.specs.View.{table_view}
use Rattle.toml.specs.declared.value.Value.{Value}
use Rattle.program_model.specs.Plans.{first_texts, first_texts_after}
use Rattle.jx_base.specs.Basics.{added, all_added, distinct, distinct_after}
use Rattle.system_text.specs.Keys.{has_text}
use Rattle.system_text.specs.Description.{classes_in}
use Rattle.system_text.specs.Scan.{tables_at, with_new, with_all_new}
use Rattle.system_text.proofs.Chains.{Tables, tables_step}

pub with_known : (texts : List (List ℕ)) (text : List ℕ) → has_text texts text ≡ true → with_new texts text ≡ texts
unfolding added has_text
with_known texts text e = rw e refl

pub with_unknown : (texts : List (List ℕ)) (text : List ℕ) → has_text texts text ≡ false → with_new texts text ≡ texts ++ text ∷ []
unfolding added has_text
with_unknown texts text e = rw e refl

pub distinct_known : (seen : List (List ℕ)) (text : List ℕ) (texts : List (List ℕ)) → has_text seen text ≡ true → first_texts_after seen (text ∷ texts) ≡ first_texts_after seen texts
unfolding distinct_after has_text
distinct_known seen text texts e = rw e refl

pub distinct_unknown : (seen : List (List ℕ)) (text : List ℕ) (texts : List (List ℕ)) → has_text seen text ≡ false
    → first_texts_after seen (text ∷ texts) ≡ text ∷ first_texts_after (text ∷ seen) texts
unfolding distinct_after has_text
distinct_unknown seen text texts e = rw e refl

-- the same texts are in both lists
abbrev pub HasSame : List (List ℕ) → List (List ℕ) → Type 0
HasSame xs ys = (t : List ℕ) → has_text xs t ≡ has_text ys t

or_last : (a b : Bool) → (a || (b || false)) ≡ (b || a)
or_last true true = refl
or_last true false = refl
or_last false true = refl
or_last false false = refl

pub same_more : (xs ys : List (List ℕ)) (text : List ℕ) → HasSame xs ys → HasSame (xs ++ text ∷ []) (text ∷ ys)
unfolding has_text
same_more xs ys text same t =
    list_any-append (bytes_eq t) xs (text ∷ [])
    ∙ (or_last (list_any (bytes_eq t) xs) (bytes_eq t text) ∙ ap (λ b. bytes_eq t text || b) (same t))

with_all_new-after : (texts seen others : List (List ℕ)) → HasSame texts seen → with_all_new texts others ≡ texts ++ first_texts_after seen others
unfolding all_added distinct_after has_text
with_all_new-after texts seen [] same = sym (append-nil texts)
with_all_new-after texts seen (text ∷ others) same =
    elim (cases_Bool (has_text texts text)) [
      | inl known ↦
          rw (with_known texts text known) (with_all_new-after texts seen others same ∙ ap (λ xs. texts ++ xs) (sym (distinct_known seen text others (sym (same text) ∙ known))))
      | inr other ↦
          rw (with_unknown texts text other)
          (with_all_new-after (texts ++ text ∷ []) (text ∷ seen) others (same_more texts seen text same)
          ∙ (append_assoc texts (text ∷ []) (first_texts_after (text ∷ seen) others)
          ∙ ap (λ xs. texts ++ xs) (sym (distinct_unknown seen text others (sym (same text) ∙ other)))))
    ]

pub with_all_new-distinct : (texts : List (List ℕ)) → with_all_new [] texts ≡ first_texts texts
unfolding distinct
with_all_new-distinct texts = with_all_new-after [] [] texts (λ t. refl)

pub with_all_new-append : (texts xs ys : List (List ℕ)) → with_all_new texts (xs ++ ys) ≡ with_all_new (with_all_new texts xs) ys
unfolding all_added
with_all_new-append texts [] ys = refl
with_all_new-append texts (x ∷ xs) ys = with_all_new-append (with_new texts x) xs ys

pub distinct-append : (xs ys : List (List ℕ)) → with_all_new (first_texts xs) ys ≡ first_texts (xs ++ ys)
distinct-append xs ys =
    ap (λ ts. with_all_new ts ys) (sym (with_all_new-distinct xs)) ∙ (sym (with_all_new-append [] xs ys) ∙ with_all_new-distinct (xs ++ ys))

pub names_later : (ts : Tables) (i : ℕ) (x : Bor (BTreeMap (String Global) Value)) (names : List (List ℕ)) → i < length ts → x ≡ get_or ts i x
    → with_all_new (with_all_new names (classes_in (table_view x.now))) (flat_map classes_in (tables_at (drop (i + 1) ts)))
    ≡ with_all_new names (flat_map classes_in (tables_at (drop i ts)))
names_later ts i x names lt is =
    sym (with_all_new-append names (classes_in (table_view x.now)) (flat_map classes_in (tables_at (drop (i + 1) ts))))
    ∙ ap (λ ms. with_all_new names (flat_map classes_in ms)) (sym (tables_step ts i x lt is))
