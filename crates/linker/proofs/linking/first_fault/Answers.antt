use Rattle.std.proofs.Common.{◌∙◌, sym, ap, subst, refl, Some}
use Rattle.jx_base.specs.declared.program.Plan.{Plan}
use Rattle.linker.proofs.Walks.{first_at_once, first_of, first_with}
use Rattle.linker.proofs.linking.first_fault.Goals as goal

pub returns-then-early-eq0 : goal.returns-then-early-eq0
returns-then-early-eq0 c = first_at_once c.args.plan c.args.files.now c.args.early c.requires.early c.if-early-eq0.true

pub first_late_fault-requires-clause-names : goal.first_late_fault-requires-clause-names
first_late_fault-requires-clause-names c = c.requires.names ∙ ap (λ (p : Plan). p.classes) (sym c.in_ok-whole.ensures.plan)

pub returns-in-Some : goal.returns-in-Some
returns-in-Some c =
    first_with c.args.plan c.args.files.now c.in_ok-whole.whole c.in_ok-whole.ensures.outline c.args.early.template c.in_ok-late.field-0 c.in_ok-late.ensures c.args.early c.requires.early refl
    ∙ ap (λ o. first_of o (Some c.args.early.fault)) c.in-Some.is

pub returns-in-None : goal.returns-in-None
returns-in-None c =
    first_with c.args.plan c.args.files.now c.in_ok-whole.whole c.in_ok-whole.ensures.outline c.args.early.template c.in_ok-late.field-0 c.in_ok-late.ensures c.args.early c.requires.early refl
    ∙ ap (λ o. first_of o (Some c.args.early.fault)) c.in-None.is
