use Rattle.std.proofs.Common.{◌∙◌}
use Rattle.linker_uses.proofs.KnownClasses.{known_array}
use Rattle.linker_uses.proofs.known_classes.is_known.Goals as goal

pub returns-else-count-eq0 : goal.returns-else-count-eq0
returns-else-count-eq0 c =
    c.is_known_type.ensures
    ∙ known_array c.args.classes.now.plan c.args.classes.now.template c.args.name.now c.dimensions-count.result c.dimensions-count.ensures.count c.if-count-eq0.false
