use Rattle.std.proofs.Common.{◌≡◌, ◌∙◌, sym, ap, subst, Option, Some, IfOk}
use Rattle.link_model.specs.declared.fault.LinkKind.TheVariants.{Abstract}
use Rattle.link_model.specs.declared.fault.LinkFault.{LinkFault}
use Rattle.linker_names.specs.Names.{selector_of}
use Rattle.linker_uses.proofs.UseFaults.{abstract_one, missing, no_member_fault, unknown}
use Rattle.linker_uses.proofs.use_faults.member_fault.Goals as goal

pub returns-then-not-is_known : goal.returns-then-not-is_known
returns-then-not-is_known c =
    subst (λ (v : Option LinkFault). IfOk c.fault.result (λ fault. fault ≡ v))
    (sym (unknown c.args.outline.now c.args.classes.now.plan c.args.classes.now.template c.args.class.now c.args.use_of c.args.name.now (selector_of c.args.member) (sym c.is_known.ensures ∙ c.if-not-is_known.true)))
    c.fault.ensures

pub returns-then-not-has_member : goal.returns-then-not-has_member
returns-then-not-has_member c =
    subst (λ (v : Option LinkFault). IfOk c.fault-then-not-has_member.result (λ fault. fault ≡ v))
    (ap (λ kind. Some (record { class = c.args.class.now; kind = kind; name = c.args.member.name.now })) c.missing_kind.ensures
    ∙ sym (missing c.args.outline.now c.args.classes.now.plan c.args.classes.now.template c.args.class.now c.args.use_of c.args.name.now (selector_of c.args.member) (sym c.is_known.ensures ∙ c.if-not-is_known.false) (sym c.has_member.ensures ∙ c.if-not-has_member.true)))
    c.fault-then-not-has_member.ensures

pub returns-then-needs_abstract : goal.returns-then-needs_abstract
returns-then-needs_abstract c =
    subst (λ (v : Option LinkFault). IfOk c.fault-then-needs_abstract.result (λ fault. fault ≡ v))
    (ap (λ name. Some (record { class = c.args.class.now; kind = Abstract; name = name })) c.abstract_name.ensures
    ∙ sym (abstract_one c.args.outline.now c.args.classes.now.plan c.args.classes.now.template c.args.class.now c.args.use_of c.args.name.now (selector_of c.args.member) (sym c.is_known.ensures ∙ c.if-not-is_known.false) (sym c.has_member.ensures ∙ c.if-not-has_member.false) (sym c.needs_abstract.ensures ∙ c.if-needs_abstract.true)))
    c.fault-then-needs_abstract.ensures

pub returns-else-needs_abstract : goal.returns-else-needs_abstract
returns-else-needs_abstract c =
    sym (no_member_fault c.args.outline.now c.args.classes.now.plan c.args.classes.now.template c.args.class.now c.args.use_of c.args.name.now (selector_of c.args.member) (sym c.is_known.ensures ∙ c.if-not-is_known.false) (sym c.has_member.ensures ∙ c.if-not-has_member.false) (sym c.needs_abstract.ensures ∙ c.if-needs_abstract.false))
