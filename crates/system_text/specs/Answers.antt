-- What the reading of a description may answer.
use Rattle.std.specs.Prelude.{◌≡◌, Result, Ok, Err}
use Rattle.jx_base.specs.declared.program.Plan.{Plan}
use Rattle.system_text.specs.declared.fault.PlanFault.{PlanFault}
use Rattle.jx_base.specs.declared.error.Error.{Error}
use Rattle.jx_base.specs.declared.error.Error.TheVariants.{Bad, OutOfMemory}

-- the named fault is as told, where one is named
abbrev pub IsNamed : (PlanFault → Type 0) → Error PlanFault → Type 0
IsNamed Told (Bad f) = Told f
IsNamed Told OutOfMemory = Unit {0}

-- the answer is this plan, or want of memory
abbrev pub IsPlanOrMemory : Plan → Result Plan (Error PlanFault) → Type 0
IsPlanOrMemory plan (Ok given) = given ≡ plan
IsPlanOrMemory plan (Err (Bad f)) = ⊥
IsPlanOrMemory plan (Err OutOfMemory) = Unit {0}

-- the answer is this fault, or want of memory
abbrev pub IsFaultOrMemory : PlanFault → Result Plan (Error PlanFault) → Type 0
IsFaultOrMemory f (Ok given) = ⊥
IsFaultOrMemory f (Err (Bad g)) = g ≡ f
IsFaultOrMemory f (Err OutOfMemory) = Unit {0}
