use Rattle.std.proofs.Common.{◌≡◌, ◌∙◌, [], ◌∷◌, sym, subst}
use Rattle.std.specs.Prelude.{IfOk}
use Rattle.linker_faults.specs.ClassFaults.{interface_fault, loop_fault, super_fault}
use Rattle.linker_faults.specs.Listing.{shown}
use Rattle.linker_faults.proofs.FirstFaults.{first_alone, first_behind, first_there}
use Rattle.linker_faults.proofs.class_faults.hierarchy_fault.Goals as goal

pub returns-then-is_some : goal.returns-then-is_some
returns-then-is_some c =
    let h = c.args.hierarchy.now in
    let x = shown c.args.class.now in
    first_there c.in_ok-fault.fault (super_fault h x) (interface_fault h x ∷ loop_fault h x ∷ []) c.in_ok-fault.ensures (sym c.is_some.ensures ∙ c.if-is_some.true)

pub returns-then-is_some-2 : goal.returns-then-is_some-2
returns-then-is_some-2 c =
    let h = c.args.hierarchy.now in
    let x = shown c.args.class.now in
    first_there c.in_ok-fault-2.fault (interface_fault h x) (loop_fault h x ∷ []) c.in_ok-fault-2.ensures (sym c.is_some-2.ensures ∙ c.if-is_some-2.true)
    ∙ first_behind c.in_ok-fault.fault (super_fault h x) (interface_fault h x ∷ loop_fault h x ∷ []) c.in_ok-fault.ensures (sym c.is_some.ensures ∙ c.if-is_some.false)

pub returns : goal.returns
returns c =
    let h = c.args.hierarchy.now in
    let x = shown c.args.class.now in
    subst (λ y. IfOk c.loop_fault.result (λ fault. fault ≡ y))
    (first_alone (loop_fault h x)
    ∙ first_behind c.in_ok-fault-2.fault (interface_fault h x) (loop_fault h x ∷ []) c.in_ok-fault-2.ensures (sym c.is_some-2.ensures ∙ c.if-is_some-2.false)
    ∙ first_behind c.in_ok-fault.fault (super_fault h x) (interface_fault h x ∷ loop_fault h x ∷ []) c.in_ok-fault.ensures (sym c.is_some.ensures ∙ c.if-is_some.false))
    c.loop_fault.ensures
