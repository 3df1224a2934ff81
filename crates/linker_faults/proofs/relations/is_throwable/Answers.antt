use Rattle.jx_base.specs.Basics.{has_text}
use Rattle.program_model.specs.BuiltIn.{throwable_classes, language_throwables, nucleus_exceptions, throwable_itself, throwable_below, class_below, built_in_class}
use Rattle.linker_faults.proofs.relations.is_throwable.Goals as goal

pub returns : goal.returns
unfolding has_text throwable_classes language_throwables nucleus_exceptions throwable_itself throwable_below class_below built_in_class
returns c = c.is_among.ensures
