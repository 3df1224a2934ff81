-- The records of the table of built-in methods, and the methods that they are.
use Rattle.std.specs.Prelude.{ℕ, Bool, ◌&&◌, Option, find}
use Rattle.std.specs.Option.{option_and_then}
use Rattle.std.specs.Str.{bytes_eq}
use Rattle.jx_base.specs.declared.program.Method.{Method}
use Rattle.jx_base.specs.declared.program.Selector.{Selector}
use Rattle.jx_base.specs.declared.program.System.{System}
use Rattle.interp_built_in.specs.BuiltIns.{effect_of, HasParameters}
use Rattle.interp_built_in.specs.declared.table.MethodRecord.{MethodRecord}
use Rattle.machine_model.specs.BuiltInMethods.{BuiltInMethod, effects_of, is_of}
use Rattle.program_model.specs.Lookup.{selector_at}
use Rattle.program_model.specs.Types.{parameter_types}

-- the built-in method that a method of a system is
abbrev pub built_in_at : System → Method → Option BuiltInMethod
built_in_at s m = option_and_then (λ x. find (is_of x) (effects_of m.class.0)) (selector_at s m.selector.0)

-- the method of a class that a record is
abbrev pub method_of : ℕ → MethodRecord → BuiltInMethod
method_of c r = record { class = c; name = r.0.now; descriptor = r.1.now; effect = effect_of r.2 }

-- whether a record has that name and that descriptor
abbrev pub is_record_of : Selector → MethodRecord → Bool
is_record_of x r = bytes_eq r.0.now x.name && bytes_eq r.1.now x.descriptor

-- a record's descriptor has the parameters that its method takes
abbrev pub HasItsParameters : MethodRecord → Type 0
HasItsParameters r = HasParameters r.2 (parameter_types r.1.now)
