-- Maps from classes to the steps that they were followed.
use Rattle.std.proofs.Common.{◌≡◌, ◌∙◌, refl, sym, ap, ℕ, suc, ◌==◌, Bool, true, false, [], ◌∷◌, Option, Some, None, is_some, nat_eq, true≢false, arith, if◌then◌else◌}
use Rattle.std.specs.Map.{keys_of}
use Rattle.std.proofs.lemmas.List.{map-append}
use Rattle.std.proofs.lemmas.Map.Made.{is_some-lookup}
use Rattle.indexmap.specs.IndexMap.{IndexMap, get, insert_entry, keys}
use Rattle.indexmap.proofs.CallerLemmas.{insert_entry-new}
use Rattle.jx_base.specs.Basics.{added}
use Rattle.jx_base.specs.declared.program.System.{System}
use Rattle.jx_base.proofs.BasicLaws.{ap2, eq_of}
use Rattle.linker_outline.specs.Indexed.{place_or}
use Rattle.program_model.specs.Lookup.{supers_within}
use Rattle.linker_search.specs.Walked.{AreFollowed, HasAll, has}
use Rattle.linker_search.proofs.Added.{comes, grows, kept, stays}
use Rattle.linker_search.proofs.Walks.{one_alone}

-- there is nothing where nothing is said to be
none_of : {A : Type 0} (o : Option A) → is_some o ≡ false → o ≡ None
none_of None h = refl
none_of (Some x) h = absurd (true≢false h)

module _ {S : Type 0} (old : IndexMap ℕ ℕ S) (class : ℕ) where
  -- a class that has steps is among the keys
  pub is_key : has (keys old) class ≡ is_some (get nat_eq old class)
  is_key = sym (is_some-lookup (nat_eq class) old.entries)

  -- the keys where a class is new
  pub new_key : {T : Type 0} (new : IndexMap ℕ ℕ T) (steps : ℕ) → is_some (get nat_eq old class) ≡ false → new.entries ≡ insert_entry nat_eq old.entries class steps → keys new ≡ added nat_eq (keys old) class
  new_key new steps h e =
      ap keys_of (e ∙ insert_entry-new nat_eq old class steps (none_of (get nat_eq old class) h))
      ∙ map-append (λ p. p.0) old.entries ((class, steps) ∷ []) ∙ sym (grows (keys old) class (is_key ∙ h))

  -- the keys where it isn't
  pub known_key : is_some (get nat_eq old class) ≡ true → keys old ≡ added nat_eq (keys old) class
  known_key h = sym (stays (keys old) class (is_key ∙ h))

module _ (s : System) where
  -- a class that the walk comes to was not followed by that
  pub came_to : {S T : Type 0} (old : IndexMap ℕ ℕ S) (new : IndexMap ℕ ℕ T) (class : ℕ) → AreFollowed s old → keys new ≡ added nat_eq (keys old) class
      → ((c : ℕ) → get nat_eq new c ≡ place_or (get nat_eq old c) (class == c) 0) → AreFollowed s new
  came_to old new class all order steps c k is n h = by (get nat_eq old c) (class == c) refl refl
    where
      same : (j : ℕ) → Some k ≡ Some j → k ≡ j
      same j h = grind (arith, h)

      differ : Some k ≡ None → ⊥
      differ h = cc

      by : (o : Option ℕ) (b : Bool) → get nat_eq old c ≡ o → (class == c) ≡ b → has (keys new) n ≡ true
      by (Some j) b p q =
          ap (λ xs. has xs n) order
          ∙ kept (keys old) class n (all c k (sym (steps c ∙ ap (λ o. place_or o (class == c) 0) p ∙ sym p) ∙ is) n h)
      by None false p q = absurd (differ (sym is ∙ steps c ∙ ap (λ o. place_or o (class == c) 0) p ∙ ap (λ b. place_or None b 0) q))
      by None true p q =
          let zero_is : k ≡ 0 = same 0 (sym is ∙ steps c ∙ ap (λ o. place_or o (class == c) 0) p ∙ ap (λ b. place_or None b 0) q) in
          let alone : n ≡ c = one_alone s c n (ap (λ j. has (supers_within s (suc j) c) n) (sym zero_is) ∙ h) in
          ap2 (λ xs m. has xs m) order (alone ∙ sym (eq_of class c q)) ∙ comes (keys old) class

  -- a class that the walk leaves was followed
  pub left_class : {S T : Type 0} (old : IndexMap ℕ ℕ S) (new : IndexMap ℕ ℕ T) (class steps : ℕ) → AreFollowed s old → keys new ≡ keys old
      → ((c : ℕ) → get nat_eq new c ≡ (if class == c then Some steps else get nat_eq old c))
      → HasAll (keys old) (supers_within s (suc steps) class) → AreFollowed s new
  left_class old new class steps all order noted whole c k is n h = by (class == c) refl
    where
      same : Some steps ≡ Some k → steps ≡ k
      same h = grind (arith, h)

      by : (b : Bool) → (class == c) ≡ b → has (keys new) n ≡ true
      by false q =
          ap (λ xs. has xs n) order
          ∙ all c k (sym (noted c ∙ ap (λ b. if b then Some steps else get nat_eq old c) q) ∙ is) n h
      by true q =
          ap (λ xs. has xs n) order
          ∙ whole n (ap2 (λ j d. has (supers_within s (suc j) d) n) (same (sym (noted c ∙ ap (λ b. if b then Some steps else get nat_eq old c) q) ∙ is)) (eq_of class c q) ∙ h)
