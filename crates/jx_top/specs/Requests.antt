-- What a command comes to, and what it puts. A command more is a case more of these definitions.
use Rattle.std.specs.Prelude.{◌≡◌, ℕ, List, Option, Some}
use Rattle.jx_base.specs.Files.{Files}
use Rattle.jx_base.specs.Puts.{SinkState, TookWhole, TookPrefix, TookNothing}
use Rattle.jx_base.specs.declared.act.Act.TheVariants as act
use Rattle.jx_base.specs.declared.program.System.{System}
use Rattle.jx_top.specs.Assemblies.{SaysBytes, HasGoodText, HasBadText}
use Rattle.jx_top.specs.Commands.{Command}
use Rattle.jx_top.specs.Commands as command
use Rattle.jx_top.specs.GotFiles.{IsNotGot}
use Rattle.jx_top.specs.Headline.{IsAuditOf}
use Rattle.jx_top.specs.Outcomes.{Outcome}
use Rattle.jx_top.specs.Outcomes as outcome
use Rattle.jx_top.specs.Runs.{GivesOne, LacksAct, RunsTo}
use Rattle.jx_top.specs.Systems.{HasSystem, IsSystemOf, IsStopped}
use Rattle.jx_top.specs.StatusLines.{counts_line}

-- ---- what the files give

abbrev pub IsDueForRun : Files → List ℕ → Outcome → Type 0
IsDueForRun files file outcome.Done = GivesOne files file (λ s. RunsTo s act.Quiet)
IsDueForRun files file outcome.Halted = GivesOne files file (λ s. RunsTo s act.Halt)
IsDueForRun files file (outcome.NotYet n) = GivesOne files file (λ s. LacksAct s n)
IsDueForRun files file o = IsStopped files file o

abbrev pub IsDueForCheck : Files → List ℕ → Outcome → Type 0
IsDueForCheck files file outcome.Done = HasSystem files file
IsDueForCheck files file o = IsStopped files file o

abbrev pub IsDueForAsm : Files → List ℕ → Outcome → Type 0
IsDueForAsm files file outcome.Done = HasGoodText files file
IsDueForAsm files file (outcome.BadAsm f) = HasBadText files file f
IsDueForAsm files file o = IsNotGot files file o

-- the outcome that the files give a command, where nothing of the outside fails: memory, shelf or sink
abbrev pub IsDueFor : Files → Command → Outcome → Type 0
IsDueFor files (command.Run file workers) o = IsDueForRun files file o
IsDueFor files (command.Check file) o = IsDueForCheck files file o
IsDueFor files (command.Asm file) o = IsDueForAsm files file o

-- they give one at most
abbrev pub IsOneOutcome : Type 0
IsOneOutcome = (files : Files) (c : Command) (a b : Outcome) → IsDueFor files c a → IsDueFor files c b → a ≡ b

-- and a file word one system
abbrev pub IsOneSystem : Type 0
IsOneSystem = (files : Files) (file : List ℕ) (a b : System) → IsSystemOf files file a → IsSystemOf files file b → a ≡ b

-- ---- why a command ended so

-- the outcome is one with which a whole text is put
abbrev pub IsWhole : Outcome → Type 0
IsWhole outcome.Done = Unit {0}
IsWhole outcome.Halted = Unit {0}
IsWhole _ = ⊥

-- an outcome is due with which a whole text is put
pub record IsToPut (files : Files) (c : Command) : Type 0 where
  pub due : Outcome
  pub whole : IsWhole due
  pub is_due : IsDueFor files c due

-- the cause, over the shelf's files: what is due, or the outside
abbrev pub IsCaused : Files → Command → Outcome → Type 0
IsCaused files c outcome.ShelfFault = Unit {0}
IsCaused files c outcome.OutOfMemory = Unit {0}
IsCaused files c outcome.SinkFault = IsToPut files c
IsCaused files c o = IsDueFor files c o

-- the outcome is one that the command can have, whatever the shelf tells
abbrev pub CanEnd : Command → Outcome → Type 0
CanEnd c outcome.Usage = ⊥
CanEnd (command.Run file workers) (outcome.BadAsm f) = ⊥
CanEnd (command.Check file) (outcome.BadAsm f) = ⊥
CanEnd (command.Check file) (outcome.NotYet n) = ⊥
CanEnd (command.Check file) outcome.Halted = ⊥
CanEnd (command.Asm file) (outcome.BadPlan f) = ⊥
CanEnd (command.Asm file) (outcome.BadClass n d) = ⊥
CanEnd (command.Asm file) (outcome.BadLink f) = ⊥
CanEnd (command.Asm file) (outcome.NotYet n) = ⊥
CanEnd (command.Asm file) outcome.Halted = ⊥
CanEnd c _ = Unit {0}

-- the command can end so, and where the shelf tells its files, they are why
pub record HasCauseFor (c : Command) (told : Option Files) (o : Outcome) : Type 0 where
  pub can_end : CanEnd c o
  pub where_told : (files : Files) → told ≡ Some files → IsCaused files c o

-- the outcome is the one that is due, or memory was refused, or the sink failed where work was to be put
abbrev pub ComesTo : Outcome → Outcome → Type 0
ComesTo due outcome.OutOfMemory = Unit {0}
ComesTo due outcome.SinkFault = IsWhole due
ComesTo due o = o ≡ due

-- where the shelf tells its files, what they give is what comes
abbrev pub IsDecidedFor : Command → Option Files → Outcome → Type 0
IsDecidedFor c told o = (files : Files) (due : Outcome) → told ≡ Some files → IsDueFor files c due → ComesTo due o

-- ---- what is put

-- the text says how many classes and domains the system of the file has
pub record SaysCounts (files : Files) (file text : List ℕ) : Type 0 where
  pub system : System
  pub of_file : IsSystemOf files file system
  pub text_is : text ≡ counts_line system.plan

-- the whole text of a command that ends so: the audit of a history that ends in quiet or in halt, the counts of a system, or the class file of a text
abbrev pub IsTextOf : Files → Command → Outcome → List ℕ → Type 0
IsTextOf files (command.Run file workers) outcome.Done text = IsAuditOf files file act.Quiet text
IsTextOf files (command.Run file workers) outcome.Halted text = IsAuditOf files file act.Halt text
IsTextOf files (command.Check file) outcome.Done text = SaysCounts files file text
IsTextOf files (command.Asm file) outcome.Done text = SaysBytes files file text
IsTextOf files c _ text = ⊥

-- so it is, where the shelf tells its files
abbrev pub IsTextWhereTold : Command → Option Files → Outcome → List ℕ → Type 0
IsTextWhereTold c told o text = (files : Files) → told ≡ Some files → IsTextOf files c o text

-- what the sink took: after Done and Halted the whole text, after SinkFault a prefix of one, else nothing
abbrev pub PutsFor : Command → Option Files → SinkState → SinkState → Outcome → Type 0
PutsFor c told before now outcome.Done = (text : List ℕ) × IsTextWhereTold c told outcome.Done text × TookWhole before text now
PutsFor c told before now outcome.Halted = (text : List ℕ) × IsTextWhereTold c told outcome.Halted text × TookWhole before text now
PutsFor c told before now outcome.SinkFault =
    (o : Outcome) × (text : List ℕ) × IsTextWhereTold c told o text × TookPrefix before text now
PutsFor c told before now _ = TookNothing before now
