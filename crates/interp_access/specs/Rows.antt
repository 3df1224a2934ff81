-- A step against the row that it runs.
use Rattle.machine_model.specs.NumericRows.{Stack}
use Rattle.machine_model.specs.ObjectRows.{ObjectOutcome}
use Rattle.machine_model.specs.State.{Core}
use Rattle.interp_core.specs.Cores.{core_state, running_stack}
use Rattle.interp_core.specs.Steps.{Gives}
use Rattle.interp_core.specs.declared.cores.Core.{Core as OneCore}
use Rattle.interp_core.specs.declared.step.ObjStep.{ObjStep}

-- the answer and the core that is left are what the row makes of the core and the running frame's stack
abbrev pub Runs : ObjStep → OneCore → OneCore → (Core → Stack → ObjectOutcome) → Type 0
Runs step old new row = Gives step (core_state old) (core_state new) (row (core_state old) (running_stack (core_state old)))
