use Rattle.std.proofs.Common.{◌≡◌, take, None}
use Rattle.jx_base.specs.Basics.{first_some}
use Rattle.linker_faults.specs.Walks.{early_fault}
use Rattle.linker_faults.proofs.early.first_early_fault.Given as goal

abbrev pub invariant-loop-place : goal.invariant-loop-place
invariant-loop-place l = (l.repeats ≡ l.files) × (first_some (early_fault l.plan l.files) (take l.place l.plan.templates) ≡ None)
