-- The first of some faults.
use Rattle.std.proofs.Common.{◌≡◌, ◌∙◌, refl, sym, ap, true, false, List, [], ◌∷◌, Option, Some, None, is_some}
use Rattle.jx_base.specs.Basics.{first_fault}
use Rattle.link_model.specs.LinkFaults.{class_fault}
use Rattle.link_model.specs.declared.fault.LinkFault.{LinkFault}
use Rattle.linker_faults.specs.ClassFaults.{first_fault_of, hierarchy_fault, wrong_name_fault}
use Rattle.linker_faults.specs.Hierarchies.{OfFiles}
use Rattle.linker_faults.specs.Repeats.{twice_fault}
use Rattle.link_model.specs.LinkFaults.{Listing}

module _ (found fault : Option LinkFault) (faults : List (Option LinkFault)) (is : found ≡ fault) where
  -- a fault that is there is the first one
  pub first_there : is_some found ≡ true → found ≡ first_fault (fault ∷ faults)
  unfolding first_fault
  first_there h = is ∙ by fault (ap is_some (sym is) ∙ h)
    where
      by : (o : Option LinkFault) → is_some o ≡ true → o ≡ first_fault (o ∷ faults)
      by None k = absurd cc
      by (Some f) k = refl

  -- and without one it is the first of the rest
  pub first_behind : is_some found ≡ false → first_fault faults ≡ first_fault (fault ∷ faults)
  unfolding first_fault
  first_behind h = by fault (ap is_some (sym is) ∙ h)
    where
      by : (o : Option LinkFault) → is_some o ≡ false → first_fault faults ≡ first_fault (o ∷ faults)
      by None k = refl
      by (Some f) k = absurd cc

-- the first of one fault is that one
pub first_alone : (fault : Option LinkFault) → fault ≡ first_fault (fault ∷ [])
unfolding first_fault
first_alone None = refl
first_alone (Some f) = refl

-- the first fault of groups of faults is the first of them all
grouped : (a b c d e f : Option LinkFault) → first_fault (a ∷ first_fault (b ∷ c ∷ d ∷ []) ∷ first_fault (e ∷ f ∷ []) ∷ []) ≡ first_fault (a ∷ b ∷ c ∷ d ∷ e ∷ f ∷ [])
unfolding first_fault
grouped (Some x) b c d e f = refl
grouped None (Some x) c d e f = refl
grouped None None (Some x) d e f = refl
grouped None None None (Some x) e f = refl
grouped None None None None (Some x) f = refl
grouped None None None None None (Some x) = refl
grouped None None None None None None = refl

-- so it is of those of a class
pub class_fault_is : (h : OfFiles) (x : Listing) → first_fault (wrong_name_fault x ∷ hierarchy_fault h x ∷ twice_fault x.name x.file ∷ []) ≡ first_fault_of h x
unfolding class_fault
class_fault_is h x = grouped _ _ _ _ _ _
