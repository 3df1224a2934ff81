-- How far what a machine holds comes.
use Rattle.std.specs.Prelude.{◌≡◌, ℕ, Option, Some, None, IsSome}
use Rattle.jx_base.specs.declared.act.Act.{Act}
use Rattle.jx_base.specs.declared.act.Act.TheVariants as act
use Rattle.jx_base.specs.declared.act.Reason.TheVariants as reason
use Rattle.jx_base.specs.declared.program.System.{System}
use Rattle.jx_base.specs.Histories.{Past}
use Rattle.program_model.specs.Lookup.{template_at}
use Rattle.machine_laws.specs.Standing.{Asks, Stands}
use Rattle.machine_model.specs.State.{State}
use Rattle.domain_machine.specs.declared.next.Next.{Next}
use Rattle.domain_machine.specs.declared.next.Next.TheVariants as next
use Rattle.domain_machine.specs.Machines.{IsLife}
use Rattle.domain_machine.specs.Works.{Reaches, WillAsk}

-- it says the act
abbrev pub IsActOf : Next → Act → Type 0
IsActOf (next.Act a) b = a ≡ b
IsActOf (next.End r) b = act.End r ≡ b
IsActOf next.Idle b = ⊥

-- the same, where there is an act
abbrev pub AreOne : Option Next → Option Act → Type 0
AreOne None None = Unit {0}
AreOne (Some n) (Some a) = IsActOf n a
AreOne _ _ = ⊥

-- the state stands for some domain of an admitted history
pub record CanAdvance (s : System) (st : State) : Type 0 where
  pub template : ℕ
  pub own : Past
  pub past : Past
  pub domain : ℕ
  pub known : IsSome (template_at s template)
  pub life : IsLife s own past domain
  pub stands : Stands s template own st

-- some instructions later the running thread asks for the act
pub record ComesToAct (s : System) (old new : State) (n : Next) : Type 0 where
  pub number : ℕ
  pub act : Act
  pub running : old.running ≡ Some number
  pub reaches : Reaches s number old new
  pub asks : Asks s new number act
  pub said : IsActOf n act

-- the running thread will meet bad code
pub record WillBeBad (s : System) (old : State) : Type 0 where
  pub number : ℕ
  pub running : old.running ≡ Some number
  pub asks : WillAsk s number old (act.End reason.BadCode)

-- the new state is the old one where no thread runs, or the one at the running thread's next act; where it meets bad code all is open
abbrev pub Arrives : System → State → State → Option Next → Type 0
Arrives s old new (Some next.Idle) = (old.running ≡ None) × (new ≡ old)
Arrives s old new (Some n) = ComesToAct s old new n
Arrives s old new None = WillBeBad s old
