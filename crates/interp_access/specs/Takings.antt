-- What stands where an instruction takes an object.
use Rattle.std.specs.Prelude.{ℕ, Option, Some}
use Rattle.jx_base.specs.declared.value.Value.{Value}
use Rattle.jx_base.specs.declared.value.Value.TheVariants as value
use Rattle.machine_model.specs.ObjectRows.{ObjectOutcome}
use Rattle.machine_model.specs.ObjectRows.{ObjectOutcome as outcome}
use Rattle.program_model.specs.BuiltIn.{null_pointer_exception}
use Rattle.interp_access.specs.declared.taking.Receiver.{Receiver}
use Rattle.interp_access.specs.declared.taking.Receiver.TheVariants as receiver

-- null, an object, or nothing of the kind
unfoldable pub receiver_of : Option Value → Receiver
receiver_of (Some value.Null) = receiver.Null
receiver_of (Some (value.Ref r)) = receiver.Object r
receiver_of _ = receiver.Other

-- an object goes on, null is an exception, and anything else is bad code
abbrev pub on_object : Receiver → (ℕ → ObjectOutcome) → ObjectOutcome
on_object receiver.Null go = outcome.Raise null_pointer_exception
on_object (receiver.Object r) go = go r
on_object receiver.Other go = outcome.BadCode
