-- Why one worker's run gives no history.
use Rattle.jx_base.specs.declared.program.System.{System}
use Rattle.run_alone.specs.declared.stopped.Stopped.{Stopped}
use Rattle.run_alone.specs.declared.stopped.Stopped.TheVariants as stopped
use Rattle.supported_acts.specs.SupportedActs.{LacksCode}

-- the worker comes to an act of a domain of that template that has no code, or memory was refused
abbrev pub IsStop : System → Stopped → Type 0
IsStop s (stopped.NoCode t) = LacksCode s t
IsStop s stopped.OutOfMemory = Unit {0}
