-- The classes right above a class, one after the other.
use Rattle.std.proofs.Common.{◌≡◌, ◌∙◌, refl, ap, ℕ, zero, suc, ◌+◌, ◌<◌, ◌≤◌, List, [], ◌∷◌, ◌++◌, length, map, drop, get_or, slice_get, Option, Some, None, arith}
use Rattle.std.specs.Option.{option_map}
use Rattle.std.proofs.lemmas.List.{length-append, length-map}
use Rattle.std.proofs.lemmas.Option.{slice_get-get_or, slice_get-map, slice_get_past}
use Rattle.jx_base.specs.declared.ids.ClassId.{ClassId}
use Rattle.jx_base.specs.declared.program.Class.{Class}
use Rattle.jx_base.specs.declared.program.System.{System}
use Rattle.jx_base.proofs.BasicLaws.{get_left, get_right}
use Rattle.program_model.specs.Lookup.{class_at, parent_list}
use Rattle.linker_search.specs.Visits.{above_at}
use Rattle.linker_search.specs.Walked.{above}

-- from an item on
pub drop_next : {A : Type 0} (xs : List A) (i : ℕ) (x : A) → slice_get xs i ≡ Some x → drop i xs ≡ x ∷ drop (i + 1) xs
drop_next xs i x e = by xs i e ∙ ap (λ n. x ∷ drop n xs) (next i)
  where
    next : (i : ℕ) → suc i ≡ i + 1
    next i = omega arith

    by : {A : Type 0} {x : A} (xs : List A) (i : ℕ) → slice_get xs i ≡ Some x → drop i xs ≡ x ∷ drop (suc i) xs
    by [] i e = cc
    by (y ∷ ys) zero e = ap (λ z. z ∷ ys) (same e)
      where
        same : {A : Type 0} {x y : A} → Some y ≡ Some x → y ≡ x
        same e = cc
    by (y ∷ ys) (suc i) e = by ys i e

-- behind the last item
pub drop_end : {A : Type 0} (xs : List A) (i : ℕ) → slice_get xs i ≡ None → drop i xs ≡ []
drop_end [] zero e = refl
drop_end [] (suc i) e = refl
drop_end (x ∷ xs) zero e = cc
drop_end (x ∷ xs) (suc i) e = drop_end xs i e

module _ (s : System) (c : ℕ) where
  -- of a class
  pub above_there : (x : Class) → slice_get s.program.classes c ≡ Some x → above_at s c ≡ above x
  unfolding class_at
  above_there x e = ap (λ o. elim o as (λ _. List ℕ) [ None ↦ [] | Some y ↦ above y ]) e

  -- of no class
  pub above_nothing : slice_get s.program.classes c ≡ None → above_at s c ≡ []
  unfolding class_at
  above_nothing e = ap (λ o. elim o as (λ _. List ℕ) [ None ↦ [] | Some y ↦ above y ]) e

module _ (x : Class) (i : ℕ) where
  -- an interface
  pub above_interface : (d : ClassId) → i < length x.interfaces → slice_get (above x) i ≡ Some ((get_or x.interfaces i d).0)
  above_interface d le =
      get_left (map (λ j. j.0) x.interfaces) (parent_list x.parent) i (omega (arith, le, length-map x.interfaces (λ (j : ClassId). j.0)))
      ∙ slice_get-map (λ j. j.0) x.interfaces i ∙ ap (option_map (λ j. j.0)) (slice_get-get_or x.interfaces i d le)

  -- the super
  pub above_super : (p : ClassId) → i ≡ length x.interfaces → x.parent ≡ Some p → slice_get (above x) i ≡ Some p.0
  unfolding parent_list
  above_super p e is =
      ap (λ o. slice_get (map (λ j. j.0) x.interfaces ++ parent_list o) i) is
      ∙ get_right (map (λ j. j.0) x.interfaces) (p.0 ∷ []) 0 i (omega (arith, e, length-map x.interfaces (λ (j : ClassId). j.0)))

  -- nothing behind the interfaces
  pub no_super : length x.interfaces ≤ i → x.parent ≡ None → slice_get (above x) i ≡ None
  unfolding parent_list
  no_super le is =
      ap (λ o. slice_get (map (λ j. j.0) x.interfaces ++ parent_list o) i) is
      ∙ slice_get_past (map (λ j. j.0) x.interfaces ++ []) i
      (omega (arith, le, length-map x.interfaces (λ (j : ClassId). j.0), length-append (map (λ (j : ClassId). j.0) x.interfaces) []))

  -- nothing behind the super
  pub past_super : length x.interfaces < i → slice_get (above x) i ≡ None
  unfolding parent_list
  past_super le =
      slice_get_past (above x) i
      (omega (arith, le, length-map x.interfaces (λ (j : ClassId). j.0), length-append (map (λ (j : ClassId). j.0) x.interfaces) (parent_list x.parent), one x.parent))
    where
      one : (o : Option ClassId) → length (parent_list o) ≤ 1
      one None = omega arith
      one (Some p) = omega arith
