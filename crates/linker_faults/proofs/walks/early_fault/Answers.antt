use Rattle.std.proofs.Common.{◌≡◌, ◌∙◌, [], ◌∷◌, sym, subst}
use Rattle.std.specs.Prelude.{IfOk}
use Rattle.linker_faults.specs.Walks.{early_fault, first_class_fault, main_class_fault}
use Rattle.linker_faults.proofs.FirstFaults.{first_alone, first_behind, first_there}
use Rattle.linker_faults.proofs.walks.early_fault.Goals as goal

pub returns-then-is_some-clause-fault : goal.returns-then-is_some-clause-fault
unfolding early_fault
returns-then-is_some-clause-fault c =
    let plan = c.args.classes.now.plan in
    let files = c.args.files.now in
    let t = c.args.classes.now.template in
    first_there c.in_ok-fault.fault (first_class_fault plan files t) (main_class_fault plan files t ∷ []) c.in_ok-fault.ensures.fault (sym c.is_some.ensures ∙ c.if-is_some.true)

pub returns-clause-fault : goal.returns-clause-fault
unfolding early_fault
returns-clause-fault c =
    let plan = c.args.classes.now.plan in
    let files = c.args.files.now in
    let t = c.args.classes.now.template in
    subst (λ y. IfOk c.main_class_fault.result (λ fault. fault ≡ y))
    (first_alone (main_class_fault plan files t)
    ∙ first_behind c.in_ok-fault.fault (first_class_fault plan files t) (main_class_fault plan files t ∷ []) c.in_ok-fault.ensures.fault (sym c.is_some.ensures ∙ c.if-is_some.false))
    c.main_class_fault.ensures
