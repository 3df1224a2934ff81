use Rattle.std.proofs.Common.{◌≡◌, None, take}
use Rattle.jx_base.specs.Basics.{first_some}
use Rattle.linker_uses.specs.LateFaults.{fault_at}
use Rattle.linker_uses.proofs.late_faults.template_use_fault.Given as goal

abbrev pub invariant-loop-place : goal.invariant-loop-place
invariant-loop-place l = first_some (fault_at l.outline l.classes.plan l.files l.classes.template) (take l.place-index l.classes.template.classes) ≡ None
