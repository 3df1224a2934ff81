-- The supers, interfaces and layouts of classes.
use Rattle.std.specs.Prelude.{◌≡◌, ◌≢◌, ℕ, ◌+◌, ◌<◌, ◌⊎◌, List, [], ◌∷◌, ◌++◌, map, flat_map, Some, None, IfSome, IsSomeAnd, IsTrue, AllPairs, Contains}
use Rattle.std.specs.List.{AllByRecursion}
use Rattle.jx_base.specs.declared.ids.ClassId.{ClassId}
use Rattle.jx_base.specs.declared.program.Class.{Class}
use Rattle.jx_base.specs.declared.program.Field.{Field}
use Rattle.jx_base.specs.declared.program.System.{System}
use Rattle.jx_base.specs.declared.program.Template.{Template}
use Rattle.program_model.specs.BuiltIn.{object_class, built_in_count}
use Rattle.program_model.specs.Lookup.{class_at, class_count, chain_of, supers_of, parent_list, is_interface}

-- the layout begins with that of the class
abbrev pub BeginsWithLayout : Class → Class → Type 0
BeginsWithLayout k parent = (own : List Field) × (k.fields ≡ parent.fields ++ own)

-- class c has its supers in the system, up to java/lang/Object and each once, and its layout begins with its parent's
pub record HasSupers (s : System) (c : ℕ) (k : Class) : Type 0 where
  pub parent : IfSome k.parent (λ p. p.0 < class_count s)
  pub no_parent : k.parent ≡ None → c ≡ object_class
  pub object : c ≡ object_class → k.parent ≡ None
  pub interfaces : AllByRecursion (λ (i : ClassId). IsTrue (is_interface s i.0)) k.interfaces
  pub chain : chain_of s c ≡ c ∷ flat_map (chain_of s) (parent_list k.parent)
  pub end : (front : List ℕ) × (chain_of s c ≡ front ++ object_class ∷ [])
  pub once : AllPairs (λ a b. a ≢ b) (chain_of s c)
  pub layout : IfSome k.parent (λ p. IfSome (class_at s p.0) (BeginsWithLayout k))

-- so it is of each class
abbrev pub SupersHold : System → Type 0
SupersHold s = (c : ℕ) (k : Class) → class_at s c ≡ Some k → HasSupers s c k

-- what stands right above a class: its interfaces, then its parent
abbrev pub right_above : Class → List ℕ
right_above k = map (λ (i : ClassId). i.0) k.interfaces ++ parent_list k.parent

-- all that each class extends and implements is the class, and behind it all of each that stands right above it
abbrev pub InterfacesHold : System → Type 0
InterfacesHold s = (c : ℕ) (k : Class) → class_at s c ≡ Some k → supers_of s c ≡ c ∷ flat_map (supers_of s) (right_above k)

-- ---- templates

-- a class that is built in or in the template's list
abbrev pub IsKnownTo : Template → ℕ → Type 0
IsKnownTo t c = (c < built_in_count) ⊎ ((place : ℕ) × (c ≡ built_in_count + place) × Contains t.classes place)

-- the parent and the interfaces of a class are known to the template
pub record HasKnownSupers (t : Template) (k : Class) : Type 0 where
  pub parent : IfSome k.parent (λ p. IsKnownTo t p.0)
  pub interfaces : AllByRecursion (λ (i : ClassId). IsKnownTo t i.0) k.interfaces

-- so they are of each class of a template's list, which the system has
abbrev pub ListsHold : System → Type 0
ListsHold s = (t : Template) (place : ℕ) → Contains s.plan.templates t → Contains t.classes place → IsSomeAnd (class_at s (built_in_count + place)) (HasKnownSupers t)
