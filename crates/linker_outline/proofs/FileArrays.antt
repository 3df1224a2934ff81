-- The array classes of files, each file once.
use Rattle.std.proofs.Common.{◌≡◌, ◌∙◌, refl, sym, ap, subst, ℕ, zero, suc, ◌+◌, ◌<◌, ◌≤◌, ◌⊎◌, get_or, Bool, true, false, ◌||◌, ◌==◌, inl, inr, List, [], ◌∷◌, ◌++◌, length, drop, reverse, slice_get, Option, Some, None, append_assoc, true≢false, codes, arith}
use Rattle.std.specs.Prelude.{flat_map, if◌then◌else◌}
use Rattle.std.specs.List.{list_any, cons_option, filter_map, range_with_len}
use Rattle.std.specs.Str.{bytes_eq}
use Rattle.std.proofs.lemmas.Bool.{cases_Bool}
use Rattle.std.proofs.lemmas.List.{append-nil, drop_all, drop_more, reverse-append}
use Rattle.std.proofs.lemmas.List.Folds.{list_any-append}
use Rattle.std.proofs.lemmas.List.Sorted.{list_any-IsPermutation, IsPermutation-reverse}
use Rattle.std.proofs.lemmas.Option.{slice_get_cases}
use Rattle.std.specs.Cmp.Lexicographic.{nat_list_eq_equiv}
use Rattle.jx_base.specs.Basics.{added, all_added, distinct, distinct_after, firsts_after, firsts}
use Rattle.jx_base.specs.declared.class_file.ClassFile.{ClassFile}
use Rattle.jx_base.specs.declared.program.Plan.{Plan}
use Rattle.jx_base.specs.declared.program.Template.{Template}
use Rattle.jx_base.proofs.BasicLaws.{ap2, eq_of}
use Rattle.link_model.specs.ClassFiles.{arrays_of}
use Rattle.link_model.specs.LinkFaults.{HasFiles}
use Rattle.link_model.specs.Linking.{array_names, files_of, named_arrays}
use Rattle.linker_outline.proofs.SelectorLists.{added_lists}

-- ---- texts that are there

-- the text is among those
abbrev pub IsThere : List (List ℕ) → List ℕ → Type 0
IsThere xs t = list_any (bytes_eq t) xs ≡ true

-- all of these are
abbrev pub AreThere : List (List ℕ) → List (List ℕ) → Type 0
AreThere xs [] = Unit {0}
AreThere xs (t ∷ ts) = IsThere xs t × AreThere xs ts

module _ (xs : List (List ℕ)) (u : List ℕ) where
  -- a text that is there is not added
  kept : IsThere xs u → added bytes_eq xs u ≡ xs
  unfolding added
  kept e = rw e refl

  -- another one is
  grown : list_any (bytes_eq u) xs ≡ false → added bytes_eq xs u ≡ xs ++ u ∷ []
  unfolding added
  grown e = rw e refl

  -- what is there stays there
  there_added : (t : List ℕ) → IsThere xs t → IsThere (added bytes_eq xs u) t
  there_added t h = elim (cases_Bool (list_any (bytes_eq u) xs)) [
    | inl there ↦ subst (λ ys. IsThere ys t) (sym (kept there)) h
    | inr new ↦ subst (λ ys. IsThere ys t) (sym (grown new)) (list_any-append (bytes_eq t) xs (u ∷ []) ∙ ap (λ b. b || list_any (bytes_eq t) (u ∷ [])) h)
  ]

  -- what was added is there
  there_itself : IsThere (added bytes_eq xs u) u
  there_itself = elim (cases_Bool (list_any (bytes_eq u) xs)) [
    | inl there ↦ subst (λ ys. IsThere ys u) (sym (kept there)) there
    | inr new ↦ subst (λ ys. IsThere ys u) (sym (grown new))
        (list_any-append (bytes_eq u) xs (u ∷ []) ∙ ap (λ b. b || list_any (bytes_eq u) (u ∷ [])) new ∙ ap (λ b. b || false) (nat_list_eq_equiv.refl u))
  ]

-- what is there stays there
there_all : (xs ys : List (List ℕ)) (t : List ℕ) → IsThere xs t → IsThere (all_added bytes_eq xs ys) t
unfolding all_added
there_all xs [] t h = h
there_all xs (y ∷ ys) t h = there_all (added bytes_eq xs y) ys t (there_added xs y t h)

-- so do they all
are_more : (xs ys ts : List (List ℕ)) → AreThere xs ts → AreThere (all_added bytes_eq xs ys) ts
are_more xs ys [] h = tt
are_more xs ys (t ∷ ts) h = (there_all xs ys t h.0, are_more xs ys ts h.1)

-- what was added is there
are_all : (xs ys : List (List ℕ)) → AreThere (all_added bytes_eq xs ys) ys
unfolding all_added
are_all xs [] = tt
are_all xs (y ∷ ys) = (there_all (added bytes_eq xs y) ys y (there_itself xs y), are_all (added bytes_eq xs y) ys)

-- nothing is added of what is there
none_added : (xs ys : List (List ℕ)) → AreThere xs ys → all_added bytes_eq xs ys ≡ xs
unfolding all_added
none_added xs [] h = refl
none_added xs (y ∷ ys) h = ap (λ zs. all_added bytes_eq zs ys) (kept xs y h.0) ∙ none_added xs ys h.1

-- ---- each place once

module _ (g : ℕ → List (List ℕ)) where
  -- of places that come again nothing is added
  once_after : (ps seen : List ℕ) (xs : List (List ℕ)) → ((p : ℕ) → list_any (λ y. y == p) seen ≡ true → AreThere xs (g p)) → all_added bytes_eq xs (flat_map g ps) ≡ all_added bytes_eq xs (flat_map g (firsts_after seen ps))
  unfolding distinct_after
  once_after [] seen xs h = refl
  once_after (p ∷ ps) seen xs h = by (list_any (λ y. y == p) seen) refl (once_after ps)
    where
      by : (b : Bool) → list_any (λ y. y == p) seen ≡ b
          → ((others : List ℕ) (ys : List (List ℕ)) → ((q : ℕ) → list_any (λ y. y == q) others ≡ true → AreThere ys (g q)) → all_added bytes_eq ys (flat_map g ps) ≡ all_added bytes_eq ys (flat_map g (firsts_after others ps)))
          → all_added bytes_eq xs (g p ++ flat_map g ps) ≡ all_added bytes_eq xs (flat_map g (if b then firsts_after seen ps else p ∷ firsts_after (p ∷ seen) ps))
      by true e again = added_lists bytes_eq xs (g p) (flat_map g ps) ∙ ap (λ ys. all_added bytes_eq ys (flat_map g ps)) (none_added xs (g p) (h p e)) ∙ again seen xs h
      by false e again =
          added_lists bytes_eq xs (g p) (flat_map g ps) ∙ again (p ∷ seen) (all_added bytes_eq xs (g p)) also
          ∙ sym (added_lists bytes_eq xs (g p) (flat_map g (firsts_after (p ∷ seen) ps)))
        where
          also : (q : ℕ) → ((p == q) || list_any (λ y. y == q) seen) ≡ true → AreThere (all_added bytes_eq xs (g p)) (g q)
          also q k = pick (p == q) refl k
            where
              pick : (b : Bool) → (p == q) ≡ b → (b || list_any (λ y. y == q) seen) ≡ true → AreThere (all_added bytes_eq xs (g p)) (g q)
              pick true w r = subst (λ n. AreThere (all_added bytes_eq xs (g p)) (g n)) (eq_of p q w) (are_all xs (g p))
              pick false w r = are_more xs (g p) (g q) (h q r)

  -- so each counts once
  once : (ps : List ℕ) (xs : List (List ℕ)) → all_added bytes_eq xs (flat_map g ps) ≡ all_added bytes_eq xs (flat_map g (firsts ps))
  unfolding distinct
  once ps xs = once_after ps [] xs (λ p e. absurd (true≢false (sym e)))

  -- places of lists, one list behind the other
  joined : (ts : List Template) → flat_map (λ t. flat_map g t.classes) ts ≡ flat_map g (flat_map (λ t. t.classes) ts)
  joined [] = refl
  joined (t ∷ ts) = ap (λ xs. flat_map g t.classes ++ xs) (joined ts) ∙ sym (both t.classes)
    where
      both : (ps : List ℕ) → flat_map g (ps ++ flat_map (λ t. t.classes) ts) ≡ flat_map g ps ++ flat_map g (flat_map (λ t. t.classes) ts)
      both [] = refl
      both (p ∷ ps) = ap (λ xs. g p ++ xs) (both ps) ∙ sym (append_assoc (g p) (flat_map g ps) (flat_map g (flat_map (λ t. t.classes) ts)))

-- ---- files

-- the array classes of a file, where there is one
abbrev arrays_there : Option ClassFile → List (List ℕ)
arrays_there None = []
arrays_there (Some f) = arrays_of f

module _ (files : List ClassFile) where
  -- the array classes of the file at a place
  abbrev arrays_at : ℕ → List (List ℕ)
  arrays_at p = arrays_there (slice_get files p)

  -- those of the files at places
  of_places : (ps : List ℕ) → flat_map arrays_of (filter_map (slice_get files) ps) ≡ flat_map arrays_at ps
  of_places [] = refl
  of_places (p ∷ ps) = by (slice_get files p) (of_places ps)
    where
      by : (o : Option ClassFile) → flat_map arrays_of (filter_map (slice_get files) ps) ≡ flat_map arrays_at ps
          → flat_map arrays_of (cons_option o (filter_map (slice_get files) ps)) ≡ arrays_there o ++ flat_map arrays_at ps
      by None again = again
      by (Some f) again = ap (λ xs. arrays_of f ++ xs) again

  -- those of all places from one on
  of_range : (k i : ℕ) → i + k ≡ length files → flat_map arrays_at (range_with_len i k) ≡ flat_map arrays_of (drop i files)
  of_range zero i e = ap (flat_map arrays_of) (sym (drop_all i files (omega (arith, e))))
  of_range (suc k) i e = by (slice_get_cases files i).1 (of_range k (i + 1) (omega (arith, e)))
    where
      by : ((x : ClassFile) × (i < length files) × (slice_get files i ≡ Some x) × (get_or files i x ≡ x)) ⊎ ((length files ≤ i) × (slice_get files i ≡ None))
          → flat_map arrays_at (range_with_len (i + 1) k) ≡ flat_map arrays_of (drop (i + 1) files) → arrays_at i ++ flat_map arrays_at (range_with_len (i + 1) k) ≡ flat_map arrays_of (drop i files)
      by (inl h) again =
          ap (λ o. arrays_there o ++ flat_map arrays_at (range_with_len (i + 1) k)) h.2 ∙ ap (λ xs. arrays_of h.0 ++ xs) again
          ∙ ap (λ f. arrays_of f ++ flat_map arrays_of (drop (i + 1) files)) (sym h.3) ∙ ap (flat_map arrays_of) (sym (drop_more files i h.0 h.1))
      by (inr h) again = absurd (omega (arith, e, h.0))

  -- those of the templates' lists
  each_list : (ts : List Template) → flat_map (λ t. flat_map arrays_of (files_of files t.classes)) ts ≡ flat_map (λ t. flat_map arrays_at t.classes) ts
  unfolding files_of
  each_list [] = refl
  each_list (t ∷ ts) = ap2 (λ xs ys. xs ++ ys) (of_places t.classes) (each_list ts)

  -- the array classes of the templates' lists, each class once
  pub named_once : (plan : Plan) → HasFiles plan files → (xs : List (List ℕ)) → all_added bytes_eq xs (named_arrays plan files) ≡ all_added bytes_eq xs (flat_map arrays_of files)
  unfolding named_arrays
  named_once plan has xs =
      ap (all_added bytes_eq xs) (each_list plan.templates ∙ joined arrays_at plan.templates)
      ∙ once arrays_at (flat_map (λ t. t.classes) plan.templates) xs
      ∙ ap (λ ps. all_added bytes_eq xs (flat_map arrays_at ps)) has.range.class_order
      ∙ ap (all_added bytes_eq xs) (of_range (length plan.classes) 0 (omega (arith, has.count)))

-- ---- texts without repeats

-- the texts that are new behind those that are known
added_distinct : (known xs : List (List ℕ)) → all_added bytes_eq known xs ≡ known ++ distinct_after bytes_eq (reverse known) xs
unfolding all_added distinct_after
added_distinct known [] = sym (append-nil known)
added_distinct known (x ∷ xs) = elim (cases_Bool (list_any (bytes_eq x) known)) [
  | inl there ↦
      ap (λ ks. all_added bytes_eq ks xs) (kept known x there) ∙ added_distinct known xs
      ∙ ap (λ b. known ++ (if b then distinct_after bytes_eq (reverse known) xs else x ∷ distinct_after bytes_eq (x ∷ reverse known) xs)) (sym (any_seen ∙ there))
  | inr new ↦
      ap (λ ks. all_added bytes_eq ks xs) (grown known x new) ∙ added_distinct (known ++ x ∷ []) xs
      ∙ append_assoc known (x ∷ []) (distinct_after bytes_eq (reverse (known ++ x ∷ [])) xs)
      ∙ ap (λ seen. known ++ x ∷ distinct_after bytes_eq seen xs) (reverse-append known (x ∷ []))
      ∙ ap (λ b. known ++ (if b then distinct_after bytes_eq (reverse known) xs else x ∷ distinct_after bytes_eq (x ∷ reverse known) xs)) (sym (any_seen ∙ new))
]
  where
    any_seen : list_any (bytes_eq x) (reverse known) ≡ list_any (bytes_eq x) known
    any_seen = sym (list_any-IsPermutation (bytes_eq x) known (reverse known) (IsPermutation-reverse known))

-- the class of arrays of strings
abbrev pub strings : List ℕ
strings = codes "[Ljava/lang/String;"

-- the class of arrays of memory objects
abbrev pub memories : List ℕ
memories = codes "[Ljx/Memory;"

-- the two that stand first
two_first : all_added bytes_eq [] (strings ∷ memories ∷ []) ≡ strings ∷ memories ∷ []
unfolding all_added added
two_first = refl

-- the array classes of a system are those two, then those of the files, each once
pub arrays_are : (plan : Plan) (files : List ClassFile) → HasFiles plan files → all_added bytes_eq (strings ∷ memories ∷ []) (flat_map arrays_of files) ≡ array_names plan files
unfolding array_names distinct
arrays_are plan files has =
    sym (named_once files plan has (strings ∷ memories ∷ []))
    ∙ ap (λ xs. all_added bytes_eq xs (named_arrays plan files)) (sym two_first)
    ∙ sym (added_lists bytes_eq [] (strings ∷ memories ∷ []) (named_arrays plan files))
    ∙ added_distinct [] (strings ∷ memories ∷ named_arrays plan files)

-- a text inserted into a set
abbrev inserted_into : List (List ℕ) → List ℕ → List (List ℕ)
inserted_into ks t = if list_any (bytes_eq t) ks then ks else ks ++ t ∷ []

-- the two that are inserted first
pub first_two : (none one both : List (List ℕ)) (a b : List ℕ) → none ≡ [] → one ≡ inserted_into none a → both ≡ inserted_into one b → a ≡ strings → b ≡ memories
    → both ≡ all_added bytes_eq (strings ∷ memories ∷ []) []
unfolding all_added
first_two none one both a b n o t p q = t ∙ ap2 inserted_into (o ∙ ap2 inserted_into n p) q
