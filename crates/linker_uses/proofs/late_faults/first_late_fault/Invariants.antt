use Rattle.std.proofs.Common.{◌≡◌, None, take}
use Rattle.jx_base.specs.Basics.{first_some}
use Rattle.linker_uses.specs.LateFaults.{template_use_fault}
use Rattle.linker_uses.proofs.late_faults.first_late_fault.Given as goal

abbrev pub invariant-loop-place : goal.invariant-loop-place
invariant-loop-place l = first_some (template_use_fault l.outline l.outline.plan l.files) (take l.place l.outline.plan.templates) ≡ None
