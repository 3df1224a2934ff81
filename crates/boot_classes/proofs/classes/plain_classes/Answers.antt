use Rattle.std.proofs.Common.{◌∙◌, refl}
use Rattle.program_model.specs.BuiltIn.{plain_classes, object_class, builder_class}
use Rattle.boot_classes.proofs.classes.plain_classes.Goals as goal

pub returns : goal.returns
unfolding plain_classes object_class builder_class
returns c =
    c.in_ok-vec.ensures.items
    ∙ rw (c.in_ok-object.ensures, c.in_ok-object_methods.ensures, c.in_ok-string.ensures, c.in_ok-string_methods.ensures, c.in_ok-builder.ensures, c.in_ok-text_field.ensures, c.in_ok-builder_methods.ensures) refl
