-- Systems in which names tell things apart.
use Rattle.std.specs.Prelude.{◌≡◌, ℕ, ◌<◌, ◌^◌, List, Some, slice_get}
use Rattle.std.specs.List.{AllByRecursion}
use Rattle.jx_base.specs.declared.program.Class.{Class}
use Rattle.jx_base.specs.declared.program.Selector.{Selector}
use Rattle.jx_base.specs.declared.program.System.{System}
use Rattle.jx_base.specs.declared.program.Template.{Template}

-- units of sixteen bits
abbrev pub AreUnits : List ℕ → Type 0
AreUnits units = AllByRecursion (λ u. u < 2 ^ 16) units

-- names are of units, and no two classes, selectors or templates are named alike
pub record HasDistinctNames (s : System) : Type 0 where
  pub class_units : AllByRecursion (λ (k : Class). AreUnits k.name) s.program.classes
  pub selector_units : AllByRecursion (λ (y : Selector). AreUnits y.name × AreUnits y.descriptor) s.program.selectors
  pub template_units : AllByRecursion (λ (t : Template). AreUnits t.name) s.plan.templates
  pub classes : (i j : ℕ) (x y : Class) →
      slice_get s.program.classes i ≡ Some x → slice_get s.program.classes j ≡ Some y → x.name ≡ y.name → i ≡ j
  pub selectors : (i j : ℕ) (x y : Selector) →
      slice_get s.program.selectors i ≡ Some x → slice_get s.program.selectors j ≡ Some y → x ≡ y → i ≡ j
  pub templates : (i j : ℕ) (x y : Template) →
      slice_get s.plan.templates i ≡ Some x → slice_get s.plan.templates j ≡ Some y → x.name ≡ y.name → i ≡ j
