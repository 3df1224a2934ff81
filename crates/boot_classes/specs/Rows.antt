-- What the rows of the tables stand for.
use Rattle.std.specs.Prelude.{ℕ, List, map}
use Rattle.jx_base.specs.declared.program.Class.{Class}
use Rattle.jx_base.specs.declared.program.Declared.{Declared}
use Rattle.program_model.specs.BuiltIn.{throwable_below}
use Rattle.boot_classes.specs.declared.methods.Signature.{Signature}
use Rattle.boot_classes.specs.declared.throwables.ThrowableRow.{ThrowableRow}

-- the method of a signature, with these flags
unfoldable pub declared_method : ℕ → Signature → Declared
declared_method flags signature =
    record { flags = flags; selector = record { name = signature.0.now; descriptor = signature.1.now } }

-- the methods of signatures, all with these flags
abbrev pub declared_methods : ℕ → List Signature → List Declared
declared_methods flags signatures = map (declared_method flags) signatures

-- the Throwable class of a row
unfoldable pub throwable_of : ThrowableRow → Class
throwable_of row = throwable_below row.0.0 row.1.now

-- the Throwable classes of rows
abbrev pub throwables_of : List ThrowableRow → List Class
throwables_of rows = map throwable_of rows
