-- The classes of a chain that are not built in.
use Rattle.std.proofs.Common.{◌≡◌, ◌∙◌, refl, sym, ap, ℕ, zero, suc, List, [], ◌∷◌, ◌++◌, append_assoc, append-nil, slice_get, Option, Some, None, ◌<◌, ◌+◌, length, take, get_or}
use Rattle.std.specs.Prelude.{filter, flat_map, reverse}
use Rattle.std.proofs.lemmas.Grind.{flat_map-append}
use Rattle.std.proofs.lemmas.List.{take_more}
use Rattle.std.proofs.lemmas.List.Elements.{filter-append}
use Rattle.jx_base.specs.declared.ids.ClassId.{ClassId}
use Rattle.jx_base.specs.declared.program.Class.{Class}
use Rattle.jx_base.specs.declared.program.System.{System}
use Rattle.program_model.specs.BuiltIn.{built_in_count}
use Rattle.program_model.specs.Lookup.{chain_of, chain_within, class_at, parent_list}
use Rattle.machine_start.specs.Found.{is_loaded}

module _ (s : System) where
  -- a class and the rest of its chain, where there is such a class
  abbrev from_class : ℕ → ℕ → Option Class → List ℕ
  from_class k c None = []
  from_class k c (Some x) = c ∷ flat_map (chain_within s k) (parent_list x.parent)

  pub one_step : (k c : ℕ) → chain_within s (suc k) c ≡ from_class k c (slice_get s.program.classes c)
  unfolding chain_within class_at
  one_step k c = by (slice_get s.program.classes c)
    where
      by : (o : Option Class) → elim o [ None ↦ [] | Some x ↦ c ∷ flat_map (chain_within s k) (parent_list x.parent) ] ≡ from_class k c o
      by None = refl
      by (Some x) = refl

  pub no_steps : (n c : ℕ) → n ≡ 0 → chain_within s n c ≡ []
  unfolding chain_within
  no_steps n c e = ap (λ m. chain_within s m c) e

  pub no_class : (n c : ℕ) → slice_get s.program.classes c ≡ None → chain_within s n c ≡ []
  no_class zero c none = no_steps 0 c refl
  no_class (suc k) c none = one_step k c ∙ ap (from_class k c) none

  -- a class that has a super
  pub below : (n k c : ℕ) (x : Class) (p : ClassId) → n ≡ suc k → slice_get s.program.classes c ≡ Some x → x.parent ≡ Some p
      → chain_within s n c ≡ c ∷ chain_within s k p.0
  unfolding parent_list
  below n k c x p e there one =
      ap (λ m. chain_within s m c) e ∙ one_step k c ∙ ap (from_class k c) there
      ∙ ap (λ o. c ∷ flat_map (chain_within s k) (parent_list o)) one
      ∙ ap (λ xs. c ∷ xs) (append-nil (chain_within s k p.0))

  -- or none
  pub topmost : (n k c : ℕ) (x : Class) → n ≡ suc k → slice_get s.program.classes c ≡ Some x → x.parent ≡ None → chain_within s n c ≡ c ∷ []
  unfolding parent_list
  topmost n k c x e there none =
      ap (λ m. chain_within s m c) e ∙ one_step k c ∙ ap (from_class k c) there
      ∙ ap (λ o. c ∷ flat_map (chain_within s k) (parent_list o)) none

-- the class at the front of a chain goes behind those before it
pub moved : (before after rest : List ℕ) (c : ℕ) → after ≡ before ++ filter is_loaded (c ∷ [])
    → before ++ filter is_loaded (c ∷ rest) ≡ after ++ filter is_loaded rest
moved before after rest c e =
    ap (λ xs. before ++ xs) (filter-append is_loaded (c ∷ []) rest)
    ∙ sym (append_assoc before (filter is_loaded (c ∷ [])) (filter is_loaded rest))
    ∙ ap (λ xs. xs ++ filter is_loaded rest) (sym e)

-- what a place of the plan brings
abbrev pub supers_of_place : System → ℕ → List ℕ
supers_of_place s place = reverse (filter is_loaded (chain_of s (built_in_count + place)))

-- one place more
pub started_more : (s : System) (places : List ℕ) (i : ℕ) → i < length places
    → flat_map (supers_of_place s) (take i places) ++ supers_of_place s (get_or places i 0) ≡ flat_map (supers_of_place s) (take (i + 1) places)
started_more s places i l =
    let one = supers_of_place s in
    sym (ap (flat_map one) (take_more places i 0 l)
    ∙ flat_map-append one (take i places) (get_or places i 0 ∷ [])
    ∙ ap (λ xs. flat_map one (take i places) ++ xs) (append-nil (one (get_or places i 0))))
