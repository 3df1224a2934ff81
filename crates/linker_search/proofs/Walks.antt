-- Walks over supers, within so many steps.
use Rattle.std.proofs.Common.{◌≡◌, ◌∙◌, refl, sym, ap, ℕ, zero, suc, ◌≤◌, ◌<◌, nat_lt, Bool, true, false, ◌||◌, List, [], ◌∷◌, ◌++◌, length, Option, Some, None, nat_eq, slice_get, true≢false, arith}
use Rattle.std.specs.Prelude.{flat_map, unwrap_or}
use Rattle.indexmap.specs.IndexMap.{IndexMap, get, keys}
use Rattle.jx_base.specs.Basics.{all_added}
use Rattle.jx_base.specs.declared.program.Class.{Class}
use Rattle.jx_base.specs.declared.program.System.{System}
use Rattle.jx_base.proofs.BasicLaws.{ap2, eq_of}
use Rattle.std.proofs.lemmas.Bool.{ltb-false, ltb-true}
use Rattle.std.proofs.lemmas.Option.{slice_get_past}
use Rattle.program_model.specs.Lookup.{class_at, class_count, supers_of, supers_within}
use Rattle.linker_search.specs.Walked.{AreFollowed, HasAll, above, distinct_supers, has, list_at}
use Rattle.linker_search.specs.Visits.{above_at}
use Rattle.linker_search.proofs.Added.{none_added, any_flat, any_more, left, right}

module _ (s : System) where
  -- a class and what is above it, where there is such a class
  abbrev pub from_class : ℕ → ℕ → Option Class → List ℕ
  from_class k c None = []
  from_class k c (Some x) = c ∷ flat_map (supers_within s k) (above x)

  -- one step and those behind it
  pub one_step : (k c : ℕ) → supers_within s (suc k) c ≡ from_class k c (class_at s c)
  unfolding supers_within
  one_step k c = by (class_at s c)
    where
      by : (o : Option Class) → elim o [ None ↦ [] | Some x ↦ c ∷ flat_map (supers_within s k) (above x) ] ≡ from_class k c o
      by None = refl
      by (Some x) = refl

  -- no steps lead to nothing
  pub no_steps : (c : ℕ) → supers_within s zero c ≡ []
  unfolding supers_within
  no_steps c = refl

  -- more steps lead to no fewer classes
  pub more_steps : (j k c n : ℕ) → j ≤ k → has (supers_within s j c) n ≡ true → has (supers_within s k c) n ≡ true
  more_steps zero k c n le h = absurd (true≢false (sym h ∙ ap (λ xs. has xs n) (no_steps c)))
  more_steps (suc j) zero c n le h = absurd (omega (arith, le))
  more_steps (suc j) (suc k) c n le h =
      ap (λ xs. has xs n) (one_step k c)
      ∙ by (class_at s c) (λ d g. more_steps j k d n (omega (arith, le)) g) (ap (λ xs. has xs n) (sym (one_step j c)) ∙ h)
    where
      some : (x : Class) (b : Bool) → nat_eq n c ≡ b → ((d : ℕ) → has (supers_within s j d) n ≡ true → has (supers_within s k d) n ≡ true)
          → has (from_class j c (Some x)) n ≡ true → has (from_class k c (Some x)) n ≡ true
      some x true q more e = left (nat_eq n c) (has (flat_map (supers_within s k) (above x)) n) q
      some x false q more e =
          right (nat_eq n c) (has (flat_map (supers_within s k) (above x)) n)
          (any_flat (nat_eq n) (supers_within s k) (above x)
          ∙ any_more (λ d. has (supers_within s j d) n) (λ d. has (supers_within s k d) n) more (above x)
          (sym (any_flat (nat_eq n) (supers_within s j) (above x)) ∙ ap (λ b. b || has (flat_map (supers_within s j) (above x)) n) (sym q) ∙ e))

      by : (o : Option Class) → ((d : ℕ) → has (supers_within s j d) n ≡ true → has (supers_within s k d) n ≡ true)
          → has (from_class j c o) n ≡ true → has (from_class k c o) n ≡ true
      by None more e = e
      by (Some x) more e = some x (nat_eq n c) refl more e

  -- a class that was followed as far leads to nothing new
  pub followed_before : {S : Type 0} (followed : IndexMap ℕ ℕ S) (steps k c : ℕ) → AreFollowed s followed → get nat_eq followed c ≡ Some k → steps ≤ k
      → HasAll (keys followed) (supers_within s (suc steps) c)
  followed_before followed steps k c all is le n h = all c k is n (more_steps (suc steps) (suc k) c n (omega (arith, le)) h)

  -- one step leads to the class alone
  pub one_alone : (c n : ℕ) → has (supers_within s (suc zero) c) n ≡ true → n ≡ c
  one_alone c n h = by (class_at s c) (ap (λ xs. has xs n) (sym (one_step zero c)) ∙ h)
    where
      nothing : (xs : List ℕ) → flat_map (supers_within s zero) xs ≡ []
      nothing [] = refl
      nothing (x ∷ xs) = ap2 (λ us ws. us ++ ws) (no_steps x) (nothing xs)

      only : (b : Bool) → nat_eq n c ≡ b → (b || false) ≡ true → n ≡ c
      only true q e = eq_of n c q
      only false q e = absurd (true≢false (sym e))

      by : (o : Option Class) → has (from_class zero c o) n ≡ true → n ≡ c
      by None e = absurd (true≢false (sym e))
      by (Some x) e = only (nat_eq n c) refl (ap (λ xs. nat_eq n c || has xs n) (sym (nothing (above x))) ∙ e)

  -- there is nothing where there is no such class
  pub no_class : (k steps c : ℕ) → suc k ≡ steps → slice_get s.program.classes c ≡ None → supers_within s steps c ≡ []
  unfolding class_at
  no_class k steps c e none = ap (λ n. supers_within s n c) (sym e) ∙ one_step k c ∙ ap (from_class k c) none

  -- a class leads to itself and on to what is above it
  pub led_to : (k c : ℕ) (x : Class) → slice_get s.program.classes c ≡ Some x → supers_within s (suc k) c ≡ c ∷ flat_map (supers_within s k) (above_at s c)
  unfolding class_at
  led_to k c x there = one_step k c ∙ by (slice_get s.program.classes c) there
    where
      by : (o : Option Class) → o ≡ Some x → from_class k c o ≡ c ∷ flat_map (supers_within s k) (elim o [ None ↦ [] | Some y ↦ above y ])
      by None e = cc
      by (Some y) e = refl

  -- so does no class
  from_nowhere : (n c : ℕ) → slice_get s.program.classes c ≡ None → supers_within s n c ≡ []
  from_nowhere zero c none = no_steps c
  from_nowhere (suc k) c none = no_class k (suc k) c refl none

  -- where there is a list for each class, there is one for each number
  pub lists_of_all : (lists : List (List ℕ)) → length lists ≡ length s.program.classes → ((c : ℕ) → c < length lists → list_at lists c ≡ distinct_supers s c)
      → (c : ℕ) → list_at lists c ≡ distinct_supers s c
  unfolding supers_of
  lists_of_all lists count all c = by (nat_lt c (length lists)) refl
    where
      by : (b : Bool) → nat_lt c (length lists) ≡ b → list_at lists c ≡ distinct_supers s c
      by true e = all c (ltb-true c (length lists) e)
      by false e =
          let beyond : length lists ≤ c = ltb-false c (length lists) e in
          ap (λ o. unwrap_or o []) (slice_get_past lists c beyond) ∙ none_added []
          ∙ ap (all_added nat_eq []) (sym (from_nowhere (class_count s) c (slice_get_past s.program.classes c (omega (arith, beyond, count)))))
