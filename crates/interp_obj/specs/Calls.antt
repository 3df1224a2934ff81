-- The values that a call takes off the running frame's stack.
use Rattle.std.specs.Prelude.{◌≡◌, ◌<◌, ◌≤◌, ℕ, true, false, List, ◌∷◌, length, reverse, take, drop, Option, Some, None, Vec}
use Rattle.std.specs.List.{All}
use Rattle.std.specs.declared.alloc.Global.{Global}
use Rattle.interp_core.specs.Cores.{running_stack}
use Rattle.jx_base.specs.declared.program.Method.{Method}
use Rattle.jx_base.specs.declared.row.Invocation.{Invocation}
use Rattle.jx_base.specs.declared.program.System.{System}
use Rattle.jx_base.specs.declared.value.Value.{Value}
use Rattle.jx_base.specs.declared.program.Selector.{Selector}
use Rattle.machine_laws.specs.Called.{IsCallOf}
use Rattle.machine_model.specs.Conditions.{IsHeldBy}
use Rattle.machine_model.specs.NumericRows.{Stack}
use Rattle.machine_model.specs.ObjectRows.{ObjectOutcome, Taken, all_fit, given, invoke_on, run_row, taken_arguments, with_object}
use Rattle.machine_model.specs.State.{Store, Core, with_running, with_values}
use Rattle.program_model.specs.BuiltIn.{built_in_count}
use Rattle.program_model.specs.Lookup.{is_interface, selector_at}
use Rattle.program_model.specs.Types.{parameter_types}

-- the n topmost values of the stack, the deepest first, or none where there are fewer
abbrev pub AreOnTop : Stack → ℕ → Option (Vec Value Global) → Type 0
AreOnTop stack n None = length stack < n
AreOnTop stack n (Some values) = (values.items ≡ reverse (take n stack)) × (n ≤ length stack)

-- the arguments of a call, which lie on the top of the stack, and what is below them
abbrev pub taken : List Value → Stack → Taken
taken arguments stack = record { arguments = arguments; below = drop (length arguments) stack }

-- the core with other values on the running frame's stack
abbrev pub with_running_stack : Core → Stack → Core
with_running_stack core stack = record core { frames = with_running (with_values stack) core.frames }

-- the arguments are those of a call of the method, where it is built in, but not of an interface
abbrev pub CallsBuiltIn : System → Store → List Value → Method → Type 0
CallsBuiltIn s store arguments k = k.class.0 < built_in_count → is_interface s k.class.0 ≡ false → IsCallOf s store k arguments

-- the arguments of a method of instances, the object first: the others fit its parameters, and all refer to objects that there are
pub record IsInstanceCall (s : System) (store : Store) (k : Method) (o : Value) (arguments : List Value) : Type 0 where
  pub others : List Value
  pub parts : arguments ≡ o ∷ others
  pub selector : Selector
  pub has : selector_at s k.selector.0 ≡ Some selector
  pub fit : all_fit s true store others (parameter_types selector.descriptor) ≡ true
  pub held : All (IsHeldBy store) arguments

-- the call of the method of that selector at place m, without an object
abbrev pub static_row : System → Core → ℕ → Selector → ObjectOutcome
static_row s core m y = given (taken_arguments s core (parameter_types y.descriptor) (running_stack core)) (run_row s core m)

-- the same with an object
abbrev pub instance_row : System → Core → Invocation → ℕ → Method → Selector → ObjectOutcome
instance_row s core kind m k y =
    given (taken_arguments s core (parameter_types y.descriptor) (running_stack core)) (λ x.
    given (with_object x) (λ o. invoke_on s core kind m k o.0 o.1))
