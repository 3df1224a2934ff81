use Rattle.std.proofs.Common.{◌≡◌, None, take}
use Rattle.jx_base.specs.Basics.{first_some}
use Rattle.link_model.specs.LinkFaults.{use_fault}
use Rattle.linker_uses.proofs.late_faults.fault_of_uses.Given as goal

abbrev pub invariant-loop-used : goal.invariant-loop-used
invariant-loop-used l = first_some (use_fault l.outline l.classes.plan l.classes.template l.class l.file) (take l.used-index l.uses) ≡ None
