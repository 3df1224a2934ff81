-- The first member that stands twice.
use Rattle.std.proofs.Common.{◌≡◌, ◌∙◌, refl, sym, ap, ℕ, ◌+◌, ◌<◌, ◌≤◌, ◌||◌, ◌&&◌, Bool, true, false, not, List, [], ◌∷◌, ◌++◌, length, map, reverse, take, drop, get_or, Some, None}
use Rattle.std.specs.Prelude.{if◌then◌else◌}
use Rattle.std.specs.List.{list_any}
use Rattle.std.proofs.lemmas.List.{drop_all, drop_more, map-append, reverse-append, take_more}
use Rattle.std.proofs.lemmas.List.Sorted.{list_any-IsPermutation, IsPermutation-reverse}
use Rattle.std.specs.Option.{option_map}
use Rattle.std.specs.Str.{bytes_eq}
use Rattle.jx_base.proofs.BasicLaws.{ap2}
use Rattle.jx_base.specs.declared.class_file.Member.{Member}
use Rattle.jx_base.specs.declared.program.Selector.{Selector}
use Rattle.link_model.specs.ClassFiles.{member_selector}
use Rattle.link_model.specs.LinkFaults.{repeated_after, repeated_name}
use Rattle.linker_names.specs.Names.{selector_of}
use Rattle.linker_names.specs.declared.names.NameAndType.{NameAndType}
use Rattle.program_model.specs.Lookup.{same_selector}

-- the selectors of members in front, newest first
abbrev pub before : List Member → ℕ → List Selector
before ms i = reverse (map member_selector (take i ms))

-- those that were seen are the members in front, and a repeat is sought among the rest
pub record IsSeen (ms : List Member) (i : ℕ) (seen : List NameAndType) : Type 0 where
  pub front : map selector_of seen ≡ map member_selector (take i ms)
  pub rest : repeated_after (before ms i) (map member_selector (drop i ms)) ≡ repeated_after [] (map member_selector ms)

-- whether a selector was seen, newest first
any_before : (ms : List Member) (i : ℕ) (x : Selector) → list_any (same_selector x) (before ms i) ≡ list_any (same_selector x) (map member_selector (take i ms))
any_before ms i x = sym (list_any-IsPermutation (same_selector x) _ _ (IsPermutation-reverse (map member_selector (take i ms))))

-- one that was seen is the repeat
seen_again : (seen : List Selector) (x : Selector) (xs : List Selector) → list_any (same_selector x) seen ≡ true → repeated_after seen (x ∷ xs) ≡ Some x
unfolding repeated_after
seen_again seen x xs e = rw (e, repeated_after) refl

-- another one is passed
not_seen : (seen : List Selector) (x : Selector) (xs : List Selector) → list_any (same_selector x) seen ≡ false → repeated_after seen (x ∷ xs) ≡ repeated_after (x ∷ seen) xs
unfolding repeated_after
not_seen seen x xs e = rw (e, repeated_after) refl

-- whether two members have the same name and descriptor, as keys of a set
abbrev pub same_member : NameAndType → NameAndType → Bool
same_member k x = bytes_eq k.name.now x.name.now && bytes_eq k.descriptor.now x.descriptor.now

-- keys are the same where their selectors are
any_key : (k : NameAndType) (seen : List NameAndType) → list_any (same_member k) seen ≡ list_any (same_selector (selector_of k)) (map selector_of seen)
unfolding same_selector
any_key k [] = refl
any_key k (x ∷ seen) = ap (λ b. same_member k x || b) (any_key k seen)

module _ (ms : List Member) (i : ℕ) (m : Member) (seen : List NameAndType) (k : NameAndType) (le : i < length ms) (at : m ≡ get_or ms i m) (is : selector_of k ≡ member_selector m) (h : IsSeen ms i seen) where
  -- whether the member at the place was seen
  tested : list_any (same_member k) seen ≡ list_any (same_selector (member_selector m)) (before ms i)
  tested =
      any_key k seen ∙ ap (λ x. list_any (same_selector x) (map selector_of seen)) is ∙ ap (list_any (same_selector (member_selector m))) h.front
      ∙ sym (any_before ms i (member_selector m))

  -- the rest begins with it
  begun : repeated_after (before ms i) (map member_selector (drop i ms)) ≡ repeated_after (before ms i) (member_selector m ∷ map member_selector (drop (i + 1) ms))
  begun = ap (λ xs. repeated_after (before ms i) (map member_selector xs)) (drop_more ms i m le ∙ ap (λ x. x ∷ drop (i + 1) ms) (sym at))

  -- the members in front of the next one
  further : map member_selector (take (i + 1) ms) ≡ map member_selector (take i ms) ++ member_selector m ∷ []
  further = ap (map member_selector) (take_more ms i m le ∙ ap (λ x. take i ms ++ x ∷ []) (sym at)) ∙ map-append member_selector (take i ms) (m ∷ [])

  -- one that was seen is the repeat
  pub repeated_here : list_any (same_member k) seen ≡ true → Some m.name ≡ repeated_name ms
  unfolding repeated_name member_selector
  repeated_here e =
      ap (option_map (λ (x : Selector). x.name))
      (sym (seen_again (before ms i) (member_selector m) (map member_selector (drop (i + 1) ms)) (sym tested ∙ e)) ∙ sym begun ∙ h.rest)

  -- another one is seen then
  pub seen_next : list_any (same_member k) seen ≡ false → (new : List NameAndType) → new ≡ (if list_any (same_member k) seen then seen else seen ++ k ∷ []) → IsSeen ms (i + 1) new
  seen_next e new made = record {
    front =
        ap (map selector_of) (made ∙ ap (λ b. if b then seen else seen ++ k ∷ []) e) ∙ map-append selector_of seen (k ∷ [])
        ∙ ap2 (λ xs x. xs ++ x ∷ []) h.front is ∙ sym further;
    rest =
        ap (λ xs. repeated_after xs (map member_selector (drop (i + 1) ms))) (ap reverse further ∙ reverse-append (map member_selector (take i ms)) (member_selector m ∷ []))
        ∙ sym (not_seen (before ms i) (member_selector m) (map member_selector (drop (i + 1) ms)) (sym tested ∙ e)) ∙ sym begun ∙ h.rest;
  }

-- none was seen yet
pub seen_none : (ms : List Member) (seen : List NameAndType) → seen ≡ [] → IsSeen ms 0 seen
seen_none ms seen e = record { front = ap (map selector_of) e; rest = refl }

-- where all were seen there is no repeat
pub none_repeated : (ms : List Member) (i : ℕ) (seen : List NameAndType) → length ms ≤ i → IsSeen ms i seen → None ≡ repeated_name ms
unfolding repeated_name repeated_after
none_repeated ms i seen le h =
    ap (option_map (λ (x : Selector). x.name)) (sym (ap (λ xs. repeated_after (before ms i) (map member_selector xs)) (drop_all i ms le)) ∙ h.rest)

-- what wasn't new was seen
pub was_seen : (b : Bool) → not b ≡ false → b ≡ true
was_seen true h = refl
was_seen false h = sym h

-- and what was new wasn't
pub was_new : (b : Bool) → not b ≡ true → b ≡ false
was_new true h = sym h
was_new false h = refl
