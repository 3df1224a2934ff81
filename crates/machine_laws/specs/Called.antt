-- The arguments that a call passes to a method.
use Rattle.std.specs.Prelude.{◌≡◌, ℕ, true, List, ◌∷◌, Some, ◌⊎◌}
use Rattle.jx_base.specs.declared.program.Method.{Method}
use Rattle.jx_base.specs.declared.program.Selector.{Selector}
use Rattle.jx_base.specs.declared.program.System.{System}
use Rattle.jx_base.specs.declared.value.Value.{Value}
use Rattle.jx_base.specs.declared.value.Value.TheVariants as value
use Rattle.program_model.specs.Lookup.{is_below, selector_at}
use Rattle.program_model.specs.Types.{parameter_types}
use Rattle.machine_model.specs.ObjectRows.{all_fit}
use Rattle.machine_model.specs.State.{Store, class_of_object}

-- the arguments with an object in front fit, and the object is below the method's class
pub record HasReceiver (s : System) (store : Store) (c : ℕ) (types : List (List ℕ)) (args : List Value) : Type 0 where
  pub object : Value
  pub others : List Value
  pub is : args ≡ object ∷ others
  pub fit : all_fit s true store others types ≡ true
  pub below : (r a : ℕ) → object ≡ value.Ref r → class_of_object store r ≡ Some a → is_below s a c ≡ true

-- the arguments fit, all or behind an object
abbrev pub FitsCall : System → Store → ℕ → List (List ℕ) → List Value → Type 0
FitsCall s store c types args = (all_fit s true store args types ≡ true) ⊎ HasReceiver s store c types args

-- the arguments are those of a call of the method
abbrev pub IsCallOf : System → Store → Method → List Value → Type 0
IsCallOf s store m args = (x : Selector) → selector_at s m.selector.0 ≡ Some x → FitsCall s store m.class.0 (parameter_types x.descriptor) args
