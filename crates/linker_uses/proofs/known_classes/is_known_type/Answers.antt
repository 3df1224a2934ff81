use Rattle.std.proofs.Common.{◌∙◌, ◌-◌, sym, ap, Bool, false, cond, length, take, drop, arith}
use Rattle.link_model.specs.LinkFaults.{is_known_plain}
use Rattle.linker_uses.proofs.KnownClasses.{short, two_ended}
use Rattle.linker_uses.proofs.known_classes.is_known_type.Goals as goal

pub returns-then-is_class_type : goal.returns-then-is_class_type
returns-then-is_class_type c =
    c.is_known_plain.ensures
    ∙ ap (λ (b : Bool). cond b (is_known_plain c.args.classes.now.plan c.args.classes.now.template (take (length c.args.kind.now - 1 - 1) (drop 1 c.args.kind.now))) false) (sym c.if-is_class_type.true)
    ∙ two_ended c.args.classes.now.plan c.args.classes.now.template c.args.kind.now (omega arith) c.is_class_type.result c.is_class_type.ensures

pub returns-else-is_class_type : goal.returns-else-is_class_type
returns-else-is_class_type c =
    c.if-is_class_type.false
    ∙ ap (λ (b : Bool). cond b (is_known_plain c.args.classes.now.plan c.args.classes.now.template (take (length c.args.kind.now - 1 - 1) (drop 1 c.args.kind.now))) false) (sym c.if-is_class_type.false)
    ∙ two_ended c.args.classes.now.plan c.args.classes.now.template c.args.kind.now (omega arith) c.is_class_type.result c.is_class_type.ensures

pub returns-in_default : goal.returns-in_default
returns-in_default c = c.is_number_type.ensures ∙ short c.args.classes.now.plan c.args.classes.now.template c.args.kind.now (omega arith)
