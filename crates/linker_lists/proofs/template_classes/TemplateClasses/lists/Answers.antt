use Rattle.std.proofs.Common.{◌∙◌, ap, is_some}
use Rattle.linker_lists.proofs.Places.{has_listed}
use Rattle.linker_lists.proofs.template_classes.TemplateClasses.lists.Goals as goal

pub returns : goal.returns
returns c = c.is_some.ensures ∙ ap is_some c.place.ensures ∙ has_listed c.args.self.now.plan c.args.self.now.template c.args.name.now
