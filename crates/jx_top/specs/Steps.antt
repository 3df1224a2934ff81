-- The steps of a command.
use Rattle.std.specs.Prelude.{◌≡◌, ℕ, List, Option, Some, Result, Ok, Err, Vec}
use Rattle.std.specs.declared.alloc.Global.{Global}
use Rattle.jx_base.specs.Files.{Files}
use Rattle.jx_base.specs.Puts.{SinkState, TookWhole, TookPrefix, TookNothing}
use Rattle.jx_base.specs.declared.act.Act.{Act}
use Rattle.jx_base.specs.declared.act.Act.TheVariants as act
use Rattle.jx_base.specs.declared.act.History.{History}
use Rattle.jx_base.specs.declared.class_file.ClassFile.{ClassFile}
use Rattle.jx_base.specs.declared.program.Plan.{Plan}
use Rattle.jx_base.specs.declared.program.System.{System}
use Rattle.audit_model.specs.AuditText.{audit_text}
use Rattle.link_model.specs.LinkFaults.{IsLinked}
use Rattle.jx_top.specs.Assemblies.{SaysBytes}
use Rattle.jx_top.specs.Commands.{Command}
use Rattle.jx_top.specs.Commands as command
use Rattle.jx_top.specs.Outcomes.{Outcome, outcome_of}
use Rattle.jx_top.specs.Outcomes as outcome
use Rattle.jx_top.specs.Requests.{IsCaused, CanEnd}
use Rattle.jx_top.specs.Runs.{EndsBy, LacksAct, RunsTo}
use Rattle.jx_top.specs.declared.status.Status.{Status}

-- a command that ended before anything was put
abbrev pub IsEarly : Outcome → Type 0
IsEarly outcome.Done = ⊥
IsEarly outcome.Halted = ⊥
IsEarly outcome.SinkFault = ⊥
IsEarly _ = Unit {0}

-- a command ended so before anything was put, and why
pub record StopsSo (c : Command) (told : Option Files) (o : Outcome) : Type 0 where
  pub early : IsEarly o
  pub can_end : CanEnd c o
  pub where_told : (files : Files) → told ≡ Some files → IsCaused files c o

-- the bytes that the file's text says, or why the assembly stops
abbrev pub FindsText : Option Files → List ℕ → Result (Vec ℕ Global) Status → Type 0
FindsText told file (Ok v) = (files : Files) → told ≡ Some files → SaysBytes files file v.items
FindsText told file (Err s) = StopsSo (command.Asm file) told (outcome_of s)

-- the text was put, or the sink failed
abbrev pub PutsText : List ℕ → SinkState → SinkState → Outcome → Type 0
PutsText text before now outcome.Done = TookWhole before text now
PutsText text before now outcome.SinkFault = TookPrefix before text now
PutsText text before now _ = ⊥

-- the text is the audit of the history of one worker of the system, and that act ends it
pub record IsRunText (s : System) (ending : Act) (text : List ℕ) : Type 0 where
  pub runs : RunsTo s ending
  pub text_is : text ≡ audit_text s runs.history

-- so it is of the act that ends a run with that outcome
abbrev pub IsTextOfRun : System → Outcome → List ℕ → Type 0
IsTextOfRun s outcome.Done text = IsRunText s act.Quiet text
IsTextOfRun s outcome.Halted text = IsRunText s act.Halt text
IsTextOfRun s _ text = ⊥

-- the history ends as the outcome says
abbrev pub EndsSo : History → Outcome → Type 0
EndsSo history outcome.Done = EndsBy history act.Quiet
EndsSo history outcome.Halted = EndsBy history act.Halt
EndsSo history _ = ⊥

-- the audit of the run was put, or the sink failed
abbrev pub PutsAudit : System → SinkState → SinkState → Outcome → Type 0
PutsAudit s before now outcome.Done = (text : List ℕ) × IsTextOfRun s outcome.Done text × TookWhole before text now
PutsAudit s before now outcome.Halted = (text : List ℕ) × IsTextOfRun s outcome.Halted text × TookWhole before text now
PutsAudit s before now outcome.SinkFault = (o : Outcome) × (text : List ℕ) × IsTextOfRun s o text × TookPrefix before text now
PutsAudit s before now _ = ⊥

-- the run came to an act without code, or memory was refused
abbrev pub IsNotYet : System → Outcome → Type 0
IsNotYet s (outcome.NotYet n) = LacksAct s n
IsNotYet s outcome.OutOfMemory = Unit {0}
IsNotYet s _ = ⊥

-- the audit was put, or else nothing
abbrev pub PutsRun : System → SinkState → SinkState → Outcome → Type 0
PutsRun s before now (outcome.NotYet n) = IsNotYet s (outcome.NotYet n) × TookNothing before now
PutsRun s before now outcome.OutOfMemory = TookNothing before now
PutsRun s before now o = PutsAudit s before now o

-- the system is one that was linked
pub record WasLinked (s : System) : Type 0 where
  pub plan : Plan
  pub classes : List ClassFile
  pub linked : IsLinked plan classes s
