use Rattle.std.proofs.Common.{◌≡◌, ◌==◌, ◌∙◌, List, ap, arith, false, length, subst, sym}
use Rattle.jx_base.specs.declared.program.Template.{Template}
use Rattle.test_machine.proofs.Started.{first_template, is_machine, with_few_classes}
use Rattle.test_machine.proofs.first_act.started.Goals as goal

pub start-requires-clause-system : goal.start-requires-clause-system
start-requires-clause-system c = with_few_classes c.args.system.now c.requires (omega (arith, c.if-as_slice.false, ap length c.as_slice.ensures))

pub start-requires-clause-template : goal.start-requires-clause-template
start-requires-clause-template c =
    first_template c.args.system.now
    (subst (λ (xs : List Template). (length xs == 0) ≡ false) c.as_slice-2.ensures (sym c.is_empty.ensures ∙ c.if-is_empty.false))

pub returns : goal.returns
returns c = is_machine c.args.system.now c.in_ok-start.field-0 c.in_ok-start.ensures
