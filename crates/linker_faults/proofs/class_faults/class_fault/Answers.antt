use Rattle.std.proofs.Common.{◌≡◌, ◌∙◌, [], ◌∷◌, sym, subst}
use Rattle.std.specs.Prelude.{IfOk}
use Rattle.linker_faults.specs.ClassFaults.{hierarchy_fault, wrong_name_fault}
use Rattle.linker_faults.specs.Listing.{shown}
use Rattle.linker_faults.specs.Repeats.{twice_fault}
use Rattle.linker_faults.proofs.FirstFaults.{class_fault_is, first_alone, first_behind, first_there}
use Rattle.linker_faults.proofs.class_faults.class_fault.Goals as goal

pub returns-then-is_some-clause-fault : goal.returns-then-is_some-clause-fault
returns-then-is_some-clause-fault c =
    let h = c.args.hierarchy.now in
    let x = shown c.args.class.now in
    first_there c.in_ok-fault.fault (wrong_name_fault x) (hierarchy_fault h x ∷ twice_fault x.name x.file ∷ []) c.in_ok-fault.ensures (sym c.is_some.ensures ∙ c.if-is_some.true)
    ∙ class_fault_is h x

pub returns-then-is_some-2-clause-fault : goal.returns-then-is_some-2-clause-fault
returns-then-is_some-2-clause-fault c =
    let h = c.args.hierarchy.now in
    let x = shown c.args.class.now in
    first_there c.in_ok-fault-2.fault (hierarchy_fault h x) (twice_fault x.name x.file ∷ []) c.in_ok-fault-2.ensures (sym c.is_some-2.ensures ∙ c.if-is_some-2.true)
    ∙ first_behind c.in_ok-fault.fault (wrong_name_fault x) (hierarchy_fault h x ∷ twice_fault x.name x.file ∷ []) c.in_ok-fault.ensures (sym c.is_some.ensures ∙ c.if-is_some.false)
    ∙ class_fault_is h x

pub returns-clause-fault : goal.returns-clause-fault
returns-clause-fault c =
    let h = c.args.hierarchy.now in
    let x = shown c.args.class.now in
    subst (λ y. IfOk c.twice_fault.result (λ fault. fault ≡ y))
    (first_alone (twice_fault x.name x.file)
    ∙ first_behind c.in_ok-fault-2.fault (hierarchy_fault h x) (twice_fault x.name x.file ∷ []) c.in_ok-fault-2.ensures (sym c.is_some-2.ensures ∙ c.if-is_some-2.false)
    ∙ first_behind c.in_ok-fault.fault (wrong_name_fault x) (hierarchy_fault h x ∷ twice_fault x.name x.file ∷ []) c.in_ok-fault.ensures (sym c.is_some.ensures ∙ c.if-is_some.false)
    ∙ class_fault_is h x)
    c.twice_fault.ensures.fault
