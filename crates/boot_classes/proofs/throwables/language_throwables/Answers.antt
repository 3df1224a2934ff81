use Rattle.std.proofs.Common.{◌∙◌, refl}
use Rattle.program_model.specs.BuiltIn.{language_throwables, throwable_class, exception_class, runtime_exception, index_exception, error_class, machine_error}
use Rattle.boot_classes.specs.Rows.{throwable_of}
use Rattle.boot_classes.proofs.throwables.language_throwables.Goals as goal

pub returns : goal.returns
unfolding language_throwables throwable_of throwable_class exception_class runtime_exception index_exception error_class machine_error
returns c =
    c.in_ok-append.ensures.items ∙ rw (c.in_ok-classes.ensures.items, c.in_ok-throwable_itself.ensures, c.in_ok-below.ensures) refl
