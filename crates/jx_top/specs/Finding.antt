-- The steps of the search for the system of a file word.
use Rattle.std.specs.Prelude.{◌≡◌, ℕ, List, Option, Some, Result, Ok, Err, string_bytes}
use Rattle.jx_base.specs.Files.{Files}
use Rattle.jx_base.specs.declared.class_file.ClassFile.{ClassFile}
use Rattle.jx_base.specs.declared.program.Plan.{Plan}
use Rattle.jx_base.specs.declared.program.System.{System}
use Rattle.link_model.specs.LinkFaults.{IsLinked, IsLinkFault}
use Rattle.system_text.specs.Description.{Describes, IsPlanFault}
use Rattle.jx_top.specs.Outcomes.{Outcome, outcome_of}
use Rattle.jx_top.specs.Outcomes as outcome
use Rattle.jx_top.specs.ReadClasses.{IsReadClass, IsBadClass}
use Rattle.jx_top.specs.declared.status.Status.{Status}
use Rattle.jx_top.specs.declared.status.Status.TheVariants as status

-- how the search for a system can end without one
abbrev pub CanStop : Outcome → Type 0
CanStop outcome.ShelfFault = Unit {0}
CanStop outcome.OutOfMemory = Unit {0}
CanStop (outcome.Missing n) = Unit {0}
CanStop (outcome.TooLong n) = Unit {0}
CanStop (outcome.BadPlan f) = Unit {0}
CanStop (outcome.BadClass n d) = Unit {0}
CanStop (outcome.BadLink f) = Unit {0}
CanStop _ = ⊥

-- why it ended so: by the outside, or by what the files give
abbrev pub IsCauseOfStop : (Outcome → Type 0) → Outcome → Type 0
IsCauseOfStop Stops outcome.ShelfFault = Unit {0}
IsCauseOfStop Stops outcome.OutOfMemory = Unit {0}
IsCauseOfStop Stops o = Stops o

-- a step of the search, or why it ended
abbrev pub Finds : {A : Type 0} → Option Files → (Files → A → Type 0) → (Files → Outcome → Type 0) → Result A Status → Type 0
Finds told Found Stops (Ok x) = (files : Files) → told ≡ Some files → Found files x
Finds told Found Stops (Err s) = CanStop (outcome_of s) × ((files : Files) → told ≡ Some files → IsCauseOfStop (Stops files) (outcome_of s))

-- the class that the bytes are, or why there is none
abbrev pub HoldsClass : List ℕ → List ℕ → Result ClassFile Status → Type 0
HoldsClass name bytes (Ok class) = IsReadClass bytes class
HoldsClass name bytes (Err (status.BadClass n d)) = (string_bytes n ≡ name) × IsBadClass bytes d
HoldsClass name bytes (Err status.OutOfMemory) = Unit {0}
HoldsClass name bytes (Err _) = ⊥

-- the plan that the bytes describe, or why there is none
abbrev pub HoldsPlan : List ℕ → Result Plan Status → Type 0
HoldsPlan bytes (Ok plan) = Describes bytes plan
HoldsPlan bytes (Err (status.BadPlan f)) = IsPlanFault bytes f
HoldsPlan bytes (Err status.OutOfMemory) = Unit {0}
HoldsPlan bytes (Err _) = ⊥

-- the system that the plan and the class files link to, or why there is none
abbrev pub LinksFiles : Plan → List ClassFile → Result System Status → Type 0
LinksFiles plan files (Ok system) = IsLinked plan files system
LinksFiles plan files (Err (status.BadLink f)) = IsLinkFault plan files f
LinksFiles plan files (Err status.OutOfMemory) = Unit {0}
LinksFiles plan files (Err _) = ⊥
