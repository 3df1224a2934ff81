-- What is found first in the class and its supers.
use Rattle.std.proofs.Common.{◌≡◌, ◌∙◌, refl, ap, ℕ, zero, suc, List, [], ◌∷◌, slice_get, Option, Some, None}
use Rattle.std.specs.Prelude.{flat_map}
use Rattle.std.proofs.lemmas.List.{append-nil}
use Rattle.jx_base.specs.Basics.{first_some}
use Rattle.jx_base.specs.declared.ids.ClassId.{ClassId}
use Rattle.jx_base.specs.declared.program.Class.{Class}
use Rattle.jx_base.specs.declared.program.System.{System}
use Rattle.program_model.specs.Lookup.{chain_within, class_at, parent_list}

module _ {B : Type 0} (s : System) (f : ℕ → Option B) where
  -- a class and the rest of its chain, where there is such a class
  abbrev from_class : ℕ → ℕ → Option Class → List ℕ
  from_class k c None = []
  from_class k c (Some x) = c ∷ flat_map (chain_within s k) (parent_list x.parent)

  -- one step and those behind it
  one_step : (k c : ℕ) → chain_within s (suc k) c ≡ from_class k c (slice_get s.program.classes c)
  unfolding chain_within class_at
  one_step k c = by (slice_get s.program.classes c)
    where
      by : (o : Option Class) → elim o [ None ↦ [] | Some x ↦ c ∷ flat_map (chain_within s k) (parent_list x.parent) ] ≡ from_class k c o
      by None = refl
      by (Some x) = refl

  -- no steps lead to nothing
  pub no_steps : (n c : ℕ) → n ≡ 0 → first_some f (chain_within s n c) ≡ None
  unfolding chain_within first_some
  no_steps n c e = ap (λ m. first_some f (chain_within s m c)) e

  -- nor does no class
  pub no_class : (n c : ℕ) → slice_get s.program.classes c ≡ None → first_some f (chain_within s n c) ≡ None
  unfolding first_some
  no_class zero c none = no_steps 0 c refl
  no_class (suc k) c none = ap (first_some f) (one_step k c ∙ ap (from_class k c) none)

  -- a class that gives something
  pub found_here : (n k c : ℕ) (x : Class) (y : B) → n ≡ suc k → slice_get s.program.classes c ≡ Some x → f c ≡ Some y → first_some f (chain_within s n c) ≡ Some y
  unfolding first_some
  found_here n k c x y e there is =
      ap (first_some f) (ap (λ m. chain_within s m c) e ∙ one_step k c ∙ ap (from_class k c) there) ∙ by (f c) is
    where
      rest : List ℕ
      rest = flat_map (chain_within s k) (parent_list x.parent)

      by : (o : Option B) → o ≡ Some y → elim o [ Some z ↦ Some z | None ↦ first_some f rest ] ≡ Some y
      by (Some z) q = q
      by None q = cc

  -- one that gives nothing
  not_here : (n k c : ℕ) (x : Class) → n ≡ suc k → slice_get s.program.classes c ≡ Some x → f c ≡ None
      → first_some f (chain_within s n c) ≡ first_some f (flat_map (chain_within s k) (parent_list x.parent))
  unfolding first_some
  not_here n k c x e there is =
      ap (first_some f) (ap (λ m. chain_within s m c) e ∙ one_step k c ∙ ap (from_class k c) there) ∙ by (f c) is
    where
      rest : List ℕ
      rest = flat_map (chain_within s k) (parent_list x.parent)

      by : (o : Option B) → o ≡ None → elim o [ Some z ↦ Some z | None ↦ first_some f rest ] ≡ first_some f rest
      by (Some z) q = cc
      by None q = refl

  -- and has a super
  pub found_above : (n k c : ℕ) (x : Class) (p : ClassId) → n ≡ suc k → slice_get s.program.classes c ≡ Some x → f c ≡ None → x.parent ≡ Some p
      → first_some f (chain_within s n c) ≡ first_some f (chain_within s k p.0)
  unfolding parent_list
  found_above n k c x p e there is one =
      not_here n k c x e there is ∙ ap (λ o. first_some f (flat_map (chain_within s k) (parent_list o))) one
      ∙ ap (first_some f) (append-nil (chain_within s k p.0))

  -- or none
  pub top_reached : (n k c : ℕ) (x : Class) → n ≡ suc k → slice_get s.program.classes c ≡ Some x → f c ≡ None → x.parent ≡ None → first_some f (chain_within s n c) ≡ None
  unfolding parent_list first_some
  top_reached n k c x e there is none =
      not_here n k c x e there is ∙ ap (λ o. first_some f (flat_map (chain_within s k) (parent_list o))) none
