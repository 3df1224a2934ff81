use Rattle.std.proofs.Common.{◌≡◌, ◌∙◌, sym, ap, subst, Option, IfOk}
use Rattle.jx_base.specs.declared.class_file.Constant.TheVariants as constant
use Rattle.link_model.specs.LinkFaults.{member_fault}
use Rattle.link_model.specs.declared.fault.LinkFault.{LinkFault}
use Rattle.linker_uses.proofs.UseFaults.{no_class, of_member, other_shape, other_tag, unusable_has_no_tag}
use Rattle.linker_uses.proofs.use_faults.use_fault.Goals as goal

pub returns-in_default : goal.returns-in_default
returns-in_default c =
    subst (λ (v : Option LinkFault). IfOk c.bad_constant.result (λ fault. fault ≡ v))
    (sym (other_tag c.args.outline.now c.args.classes.now.plan c.args.classes.now.template c.args.class.now c.args.file.now c.args.used constant.Unusable c.in_default.ensures (unusable_has_no_tag c.args.used.use_of)))
    c.bad_constant.ensures

pub returns-then-not-has_tag_for : goal.returns-then-not-has_tag_for
returns-then-not-has_tag_for c =
    subst (λ (v : Option LinkFault). IfOk c.bad_constant-then-not-has_tag_for.result (λ fault. fault ≡ v))
    (sym (other_tag c.args.outline.now c.args.classes.now.plan c.args.classes.now.template c.args.class.now c.args.file.now c.args.used c.in-Some.constant.now c.in-Some.ensures (sym c.has_tag_for.ensures ∙ c.if-not-has_tag_for.true)))
    c.bad_constant-then-not-has_tag_for.ensures

pub returns-in_default-class_of_constant : goal.returns-in_default-class_of_constant
returns-in_default-class_of_constant c =
    sym (no_class c.args.outline.now c.args.classes.now.plan c.args.classes.now.template c.args.class.now c.args.file.now c.args.used c.in-Some.constant.now c.in-Some.ensures (sym c.has_tag_for.ensures ∙ c.if-not-has_tag_for.false) c.in_default-class_of_constant.ensures)

pub returns-then-not-has_shape_for : goal.returns-then-not-has_shape_for
returns-then-not-has_shape_for c =
    subst (λ (v : Option LinkFault). IfOk c.bad_constant-then-not-has_shape_for.result (λ fault. fault ≡ v))
    (sym (other_shape c.args.outline.now c.args.classes.now.plan c.args.classes.now.template c.args.class.now c.args.file.now c.args.used c.in-Some.constant.now c.in-Some.ensures (sym c.has_tag_for.ensures ∙ c.if-not-has_tag_for.false)
    c.in-Some-class_of_constant.name.now c.in-Some-class_of_constant.ensures (sym c.has_shape_for.ensures ∙ c.if-not-has_shape_for.true)))
    c.bad_constant-then-not-has_shape_for.ensures

pub returns : goal.returns
returns c =
    subst (λ (v : Option LinkFault). IfOk c.member_fault.result (λ fault. fault ≡ v))
    (ap (member_fault c.args.outline.now c.args.classes.now.plan c.args.classes.now.template c.args.class.now c.args.used.use_of c.in-Some-class_of_constant.name.now) c.member_of_constant-member.ensures
    ∙ sym (of_member c.args.outline.now c.args.classes.now.plan c.args.classes.now.template c.args.class.now c.args.file.now c.args.used c.in-Some.constant.now c.in-Some.ensures (sym c.has_tag_for.ensures ∙ c.if-not-has_tag_for.false)
    c.in-Some-class_of_constant.name.now c.in-Some-class_of_constant.ensures (sym c.has_shape_for.ensures ∙ c.if-not-has_shape_for.false)))
    c.member_fault.ensures
