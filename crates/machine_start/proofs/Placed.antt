-- The classes that are started are classes of the system.
use Rattle.std.proofs.Common.{◌≡◌, ◌<◌, ◌+◌, refl, sym, subst, ℕ, zero, suc, Bool, true, false, cond, List, [], ◌∷◌, slice_get, get_or, length, Option, Some, None, if◌then◌else◌}
use Rattle.std.specs.Prelude.{filter, flat_map, reverse, ◌==◌}
use Rattle.std.specs.List.{AllByRecursion, list_any}
use Rattle.std.proofs.lemmas.Option.{slice_get_read, slice_get_within}
use Rattle.std.proofs.lemmas.List.{get_or_default}
use Rattle.jx_base.specs.Basics.{distinct, distinct_after}
use Rattle.jx_base.specs.declared.program.Class.{Class}
use Rattle.jx_base.specs.declared.program.System.{System}
use Rattle.machine_laws.proofs.Lists.{all_append, all_get, all_reverse}
use Rattle.machine_model.specs.Start.{started_classes}
use Rattle.machine_start.specs.Found.{is_loaded}
use Rattle.machine_start.proofs.Chains.{no_steps, one_step}
use Rattle.program_model.specs.BuiltIn.{built_in_count}
use Rattle.program_model.specs.Lookup.{chain_of, chain_within, class_count, parent_list}

module _ {X : Type 0} (P : X → Type 0) where
  all_filter : (p : X → Bool) (xs : List X) → AllByRecursion P xs → AllByRecursion P (filter p xs)
  all_filter p [] h = tt
  all_filter p (x ∷ xs) h = by (p x) (all_filter p xs h.1)
    where
      by : (b : Bool) → AllByRecursion P (filter p xs) → AllByRecursion P (cond b (x ∷ filter p xs) (filter p xs))
      by true k = (h.0, k)
      by false k = k

  all_flat_map : {A : Type 0} (f : A → List X) → ((a : A) → AllByRecursion P (f a)) → (xs : List A) → AllByRecursion P (flat_map f xs)
  all_flat_map f g [] = tt
  all_flat_map f g (a ∷ xs) = all_append P (f a) (flat_map f xs) (g a) (all_flat_map f g xs)

  all_distinct : (same : X → X → Bool) (seen xs : List X) → AllByRecursion P xs → AllByRecursion P (distinct_after same seen xs)
  unfolding distinct_after
  all_distinct same seen [] h = tt
  all_distinct same seen (x ∷ xs) h =
      by (list_any (same x) seen) (distinct_after same seen xs) (distinct_after same (x ∷ seen) xs) (all_distinct same seen xs h.1) (all_distinct same (x ∷ seen) xs h.1)
    where
      by : (b : Bool) (ys zs : List X) → AllByRecursion P ys → AllByRecursion P zs → AllByRecursion P (if b then ys else x ∷ zs)
      by true ys zs k l = k
      by false ys zs k l = (h.0, l)

module _ (s : System) where
  abbrev Placed : ℕ → Type 0
  Placed c = c < class_count s

  chain_placed : (n c : ℕ) → AllByRecursion Placed (chain_within s n c)
  unfolding class_count
  chain_placed zero c = subst (AllByRecursion Placed) (sym (no_steps s 0 c refl)) tt
  chain_placed (suc k) c = subst (AllByRecursion Placed) (sym (one_step s k c)) (by (slice_get s.program.classes c) refl (chain_placed k))
    where
      by : (o : Option Class) → slice_get s.program.classes c ≡ o → ((d : ℕ) → AllByRecursion Placed (chain_within s k d))
          → AllByRecursion Placed (elim o as (λ _. List ℕ) [ None ↦ [] | Some x ↦ c ∷ flat_map (chain_within s k) (parent_list x.parent) ])
      by None e h = tt
      by (Some x) e h = (slice_get_within s.program.classes c x e, all_flat_map Placed (chain_within s k) h (parent_list x.parent))

  pub started_placed : (places : List ℕ) → AllByRecursion Placed (started_classes s places)
  unfolding started_classes distinct chain_of
  started_placed places =
      all_distinct Placed (λ x y. y == x) [] (flat_map one places) (all_flat_map Placed one placed_one places)
    where
      one : ℕ → List ℕ
      one place = reverse (filter is_loaded (chain_of s (built_in_count + place)))

      placed_one : (place : ℕ) → AllByRecursion Placed (one place)
      placed_one place =
          all_reverse Placed (filter is_loaded (chain_of s (built_in_count + place)))
          (all_filter Placed is_loaded (chain_of s (built_in_count + place)) (chain_placed (class_count s) (built_in_count + place)))

  -- each class that is started
  pub started_at : (places found : List ℕ) (i : ℕ) → found ≡ started_classes s places → i < length found → get_or found i 0 < class_count s
  started_at places found i e l =
      all_get Placed found i (get_or found i 0) (slice_get_read found (length found) i (get_or found i 0) refl l (get_or_default found i 0 (get_or found i 0) l))
      (subst (AllByRecursion Placed) (sym e) (started_placed places))
