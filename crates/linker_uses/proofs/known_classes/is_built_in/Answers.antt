use Rattle.std.proofs.Common.{◌∙◌, sym}
use Rattle.linker_uses.proofs.KnownClasses.{by_number, no_number_of}
use Rattle.linker_uses.proofs.known_classes.is_built_in.Goals as goal

pub returns-in-Some : goal.returns-in-Some
returns-in-Some c = by_number c.args.outline.now c.requires c.args.name.now c.in-Some.class (sym c.in-Some.is ∙ c.class_named.ensures.found)

pub returns-in-None : goal.returns-in-None
returns-in-None c = no_number_of c.args.outline.now c.requires c.args.name.now (sym c.in-None.is ∙ c.class_named.ensures.found)
