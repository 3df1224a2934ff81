-- How a command ends: a status whose names are texts.
use Rattle.std.specs.Prelude.{ℕ, List, string_bytes}
use Rattle.class_asm.specs.declared.fault.AsmFault.{AsmFault}
use Rattle.link_model.specs.declared.fault.LinkFault.{LinkFault}
use Rattle.system_text.specs.declared.fault.PlanFault.{PlanFault}
use Rattle.jx_top.specs.declared.defect.Defect.{Defect}
use Rattle.jx_top.specs.declared.status.Status.{Status}
use Rattle.jx_top.specs.declared.status.Status.TheVariants as status

pub data Outcome : Type 0 where
  Done Halted Usage ShelfFault SinkFault OutOfMemory : Outcome
  Missing TooLong NotYet : (name : List ℕ) → Outcome
  BadPlan : (f : PlanFault) → Outcome
  BadClass : (name : List ℕ) (d : Defect) → Outcome
  BadLink : (f : LinkFault) → Outcome
  BadAsm : (f : AsmFault) → Outcome

abbrev pub outcome_of : Status → Outcome
outcome_of status.Done = Done
outcome_of status.Halted = Halted
outcome_of status.Usage = Usage
outcome_of status.ShelfFault = ShelfFault
outcome_of (status.Missing n) = Missing (string_bytes n)
outcome_of (status.TooLong n) = TooLong (string_bytes n)
outcome_of (status.BadPlan f) = BadPlan f
outcome_of (status.BadLink f) = BadLink f
outcome_of (status.BadClass n d) = BadClass (string_bytes n) d
outcome_of (status.BadAsm f) = BadAsm f
outcome_of status.SinkFault = SinkFault
outcome_of (status.NotYet n) = NotYet (string_bytes n)
outcome_of status.OutOfMemory = OutOfMemory
