use Rattle.std.proofs.Common.{◌∙◌, sym, arith}
use Rattle.link_model.specs.LinkFaults.{use_fault}
use Rattle.linker_uses.proofs.FirstFaults.{ended, found_at, nothing, passed_at}
use Rattle.linker_uses.proofs.late_faults.fault_of_uses.Goals as goal

pub loop-used-init : goal.loop-used-init
loop-used-init c = nothing (use_fault c.args.outline.now c.args.classes.now.plan c.args.classes.now.template c.args.class.now c.args.file.now)

pub loop-used-preserved : goal.loop-used-preserved
loop-used-preserved c =
    passed_at (use_fault c.args.outline.now c.args.classes.now.plan c.args.classes.now.template c.args.class.now c.args.file.now) c.args.uses.now c.loop-used.used-index _ c.in_ok-fault.fault
    (omega arith) c.in_ok-fault.ensures c.loop-used.invariant (sym c.is_some.ensures ∙ c.if-is_some.false)

pub returns-then-is_some : goal.returns-then-is_some
returns-then-is_some c =
    found_at (use_fault c.args.outline.now c.args.classes.now.plan c.args.classes.now.template c.args.class.now c.args.file.now) c.args.uses.now c.loop-used.used-index _ c.in_ok-fault.fault
    (omega arith) c.in_ok-fault.ensures c.loop-used.invariant (sym c.is_some.ensures ∙ c.if-is_some.true)

pub returns : goal.returns
returns c = ended (use_fault c.args.outline.now c.args.classes.now.plan c.args.classes.now.template c.args.class.now c.args.file.now) c.args.uses.now c.loop-used.used-index (omega arith) c.loop-used.invariant
