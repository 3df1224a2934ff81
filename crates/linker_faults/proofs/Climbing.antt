-- The classes of a template above one of them.
use Rattle.std.proofs.Common.{◌≡◌, ◌∙◌, refl, sym, ap, subst, ℕ, zero, suc, ◌≤◌, inl, inr, List, [], ◌∷◌, ◌++◌, length, take, Option, Some, None, slice_get, arith}
use Rattle.std.specs.Prelude.{flat_map}
use Rattle.std.specs.List.{filter_map}
use Rattle.std.proofs.lemmas.List.Elements.{filter_map-append}
use Rattle.jx_base.specs.Basics.{distinct, distinct_after, firsts}
use Rattle.jx_base.specs.declared.class_file.ClassFile.{ClassFile}
use Rattle.jx_base.specs.declared.program.Plan.{Plan}
use Rattle.jx_base.specs.declared.program.Template.{Template}
use Rattle.link_laws.proofs.Above.{find_some, first_there, firsts_once, no_longer}
use Rattle.link_laws.proofs.Lists.{Among, IsOnce, among_either, from_flat, from_given}
use Rattle.link_model.specs.ClassFiles.{super_name, interface_names}
use Rattle.link_model.specs.LinkFaults.{all_above, listed_place, next_above}
use Rattle.linker_faults.specs.Hierarchies.{above_at, all_right_above, joined, listed_places}
use Rattle.linker_faults.proofs.Growing.{firsts_joined, joined_lists}
use Rattle.linker_faults.proofs.Rounds.{IsFollowed, followed_all, rounds}

-- a listed place is one of the list
listed_there : (plan : Plan) (t : Template) (name : List ℕ) (p : ℕ) → listed_place plan t name ≡ Some p → Among t.classes p
unfolding listed_place
listed_there plan t name p h = (find_some _ t.classes p h).0

-- one name more, behind those that were looked up
pub names_next : (plan : Plan) (t : Template) (names : List (List ℕ)) (name : List ℕ) (xs : List ℕ)
    → joined (joined xs (listed_places plan t names)) (listed_places plan t (name ∷ [])) ≡ joined xs (listed_places plan t (names ++ name ∷ []))
names_next plan t names name xs =
    sym (ap (joined xs) (filter_map-append (listed_place plan t) names (name ∷ [])) ∙ joined_lists xs (listed_places plan t names) (listed_places plan t (name ∷ [])))

-- there are no first numbers of no numbers
none_first : [] ≡ firsts []
unfolding distinct distinct_after
none_first = refl

module _ (plan : Plan) (files : List ClassFile) (t : Template) where
  -- what stands right above a class is in the list
  next_there : (p q : ℕ) → Among (next_above plan files t p) q → Among t.classes q
  unfolding next_above
  next_there p q h = by (slice_get files p) h
    where
      by : (o : Option ClassFile) → Among (elim o as (λ _. List ℕ) [ None ↦ [] | Some f ↦ filter_map (listed_place plan t) (super_name f ∷ interface_names f) ]) q → Among t.classes q
      by None k = absurd k
      by (Some f) k = let r = from_given (listed_place plan t) (super_name f ∷ interface_names f) q k in listed_there plan t r.0 q r.2

  -- the first numbers of what stands right above a class
  pub next_firsts : (p : ℕ) → above_at (all_right_above plan t files) p ≡ firsts (next_above plan files t p)
  unfolding next_above
  next_firsts p = at files p
    where
      at : (fs : List ClassFile) (i : ℕ) → above_at (all_right_above plan t fs) i ≡ firsts (elim (slice_get fs i) as (λ _. List ℕ) [ None ↦ [] | Some f ↦ filter_map (listed_place plan t) (super_name f ∷ interface_names f) ])
      at [] i = none_first
      at (f ∷ fs) zero = refl
      at (f ∷ fs) (suc i) = at fs i

  -- what stands above a class is what the rounds lead to
  pub above_rounds : (p k : ℕ) → all_above plan files t p k ≡ rounds (next_above plan files t) (next_above plan files t p) k
  unfolding all_above
  above_rounds p zero = refl
  above_rounds p (suc k) = ap (λ xs. firsts (next_above plan files t p ++ flat_map (next_above plan files t) xs)) (above_rounds p k)

  -- a list that was followed is no longer than the template's
  pub followed_short : (p i : ℕ) (xs : List ℕ) → IsFollowed (next_above plan files t) (next_above plan files t p) i xs → length xs ≤ length t.classes
  followed_short p i xs h = no_longer xs t.classes (subst IsOnce (sym made) (firsts_once whole)) (λ x a. there x (first_there whole x (subst (λ ys. Among ys x) made a)))
    where
      whole : List ℕ
      whole = next_above plan files t p ++ flat_map (next_above plan files t) (take i xs)

      made : xs ≡ firsts whole
      made = h.led ∙ sym (joined_lists [] (next_above plan files t p) (flat_map (next_above plan files t) (take i xs))) ∙ sym (firsts_joined whole)

      there : (x : ℕ) → Among whole x → Among t.classes x
      there x a = elim (among_either (next_above plan files t p) _ x a) [
        | inl k ↦ next_there p x k
        | inr k ↦ let r = from_flat (next_above plan files t) (take i xs) x k in next_there r.0 x r.2
      ]

  -- a list that was followed to its end has all classes above
  pub followed_above : (p i : ℕ) (xs : List ℕ) → length xs ≤ i → IsFollowed (next_above plan files t) (next_above plan files t p) i xs → xs ≡ all_above plan files t p (length t.classes)
  followed_above p i xs end h =
      followed_all (next_above plan files t) (next_above plan files t p) (length t.classes) i xs end (followed_short p i xs h) h
      ∙ sym (above_rounds p (length t.classes))

-- where nothing stands is behind the end
pub at_end : (xs : List ℕ) (i : ℕ) → slice_get xs i ≡ None → length xs ≤ i
at_end [] i e = omega arith
at_end (x ∷ xs) zero e = absurd cc
at_end (x ∷ xs) (suc i) e = omega (arith, at_end xs i e)
