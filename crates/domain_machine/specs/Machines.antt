-- What a machine is seen as, and what it stands for.
use Rattle.std.specs.Prelude.{◌≡◌, ◌≤◌, ℕ, [], ◌∷◌, None, IsSome, ◌⊎◌}
use Rattle.jx_base.specs.declared.act.Act.{Act}
use Rattle.jx_base.specs.declared.act.Act.TheVariants as act
use Rattle.jx_base.specs.declared.act.Entry.{Entry}
use Rattle.jx_base.specs.declared.act.Reason.TheVariants as reason
use Rattle.jx_base.specs.declared.program.System.{System}
use Rattle.jx_base.specs.Histories.{Past, own_entries}
use Rattle.program_model.specs.Lookup.{template_at}
use Rattle.machine_model.specs.Machine.{Does, Idle, next_act}
use Rattle.machine_model.specs.State.{State}
use Rattle.jx_model.specs.Legal.{FollowsCode, IsAdmittedPast, IsFrom}
use Rattle.jx_model.specs.WellMade.{IsWellMade}
use Rattle.machine_laws.specs.Standing.{Asks, Stands}
use Rattle.machine_replies.specs.Leaving.{CanRun}
use Rattle.domain_machine.specs.Fates.{IsSettled}
use Rattle.domain_machine.specs.declared.fate.Fate.{Fate}
use Rattle.domain_machine.specs.declared.fate.Fate.TheVariants as fate
use Rattle.domain_machine.specs.declared.next.Next.{Next}
use Rattle.domain_machine.specs.declared.next.Next.TheVariants as next

-- how far the machine is on its way, and the state that it holds
pub record MachineState : Type 0 where
  pub fate : Fate
  pub state : State

-- ---- what it stands for

-- the entries are all of domain d in an admitted past
pub record IsLife (s : System) (own past : Past) (d : ℕ) : Type 0 where
  pub admitted : IsAdmittedPast s past
  pub made : 1 ≤ d
  pub own_are : own_entries past d ≡ own

-- no thread runs, or the running one's next step asks for an act
abbrev pub IsAtAct : System → State → Type 0
IsAtAct s st = (st.running ≡ None) ⊎ ((k : ℕ) × ((a : Act) × Asks s st k a))

-- the last of the entries ended the domain by bad code
abbrev pub HasEndedBadly : Past → Type 0
HasEndedBadly [] = ⊥
HasEndedBadly (e ∷ own) = e.act ≡ act.End reason.BadCode

-- what the machine's fate says: it holds a state of the domain on the way to its next act, or the one at that act; or the next act is the end by bad code; or that was entered
abbrev pub IsFateOf : System → ℕ → Past → Fate → State → Type 0
IsFateOf s t own fate.OnTheWay st = Stands s t own st
IsFateOf s t own fate.AtAct st = Stands s t own st × IsAtAct s st
IsFateOf s t own fate.MetBadCode st = next_act s t own ≡ Does (act.End reason.BadCode)
IsFateOf s t own fate.Over st = (next_act s t own ≡ Idle) × HasEndedBadly own

-- the machine stands for a domain of template t with these own entries, which follow the template's code
pub record StandsFor (s : System) (t : ℕ) (own : Past) (m : MachineState) : Type 0 where
  pub system : CanRun s
  pub template : IsSome (template_at s t)
  pub follows : FollowsCode s t own
  pub fate : IsFateOf s t own m.fate m.state

-- ---- its calls

-- the machine stands for a domain of an admitted history
abbrev pub IsMachineOf : System → MachineState → Type 0
IsMachineOf s m = (t : ℕ) × ((own past : Past) × ((d : ℕ) × (StandsFor s t own m × IsLife s own past d)))

-- the act is the one that the code performs next, and is well made in each history that the entries are of
pub record IsNextAct (s : System) (t : ℕ) (own : Past) (a : Act) : Type 0 where
  pub does : next_act s t own ≡ Does a
  pub well_made : (past : Past) (d : ℕ) → IsLife s own past d → IsWellMade s past a

-- what the machine says that the code does next is so
abbrev pub IsNextOf : System → ℕ → Past → Next → Type 0
IsNextOf s t own (next.Act a) = IsNextAct s t own a
IsNextOf s t own (next.End r) = IsNextAct s t own (act.End r)
IsNextOf s t own next.Idle = next_act s t own ≡ Idle

-- what the machine stood for it stands for, and what is next there is known
abbrev pub HasArrived : System → MachineState → MachineState → Type 0
HasArrived s old new =
    (t : ℕ) (own past : Past) (d : ℕ) → StandsFor s t own old → IsLife s own past d → StandsFor s t own new × IsSettled new.fate

-- the same, and it says what that is
abbrev pub HasRun : System → MachineState → MachineState → Next → Type 0
HasRun s old new n =
    (t : ℕ) (own past : Past) (d : ℕ) → StandsFor s t own old → IsLife s own past d → StandsFor s t own new × (IsSettled new.fate × IsNextOf s t own n)

-- the entry is the next of the domain, whose entries with it are those of an admitted history
pub record IsEntryOf (s : System) (m : MachineState) (e : Entry) : Type 0 where
  pub template : ℕ
  pub own : Past
  pub past : Past
  pub domain : ℕ
  pub stands_for : StandsFor s template own m
  pub from : IsFrom (next_act s template own) e.act
  pub life : IsLife s (e ∷ own) past domain

-- with the entry the machine stands for one more
abbrev pub HasTaken : System → MachineState → MachineState → Entry → Type 0
HasTaken s old new e =
    (t : ℕ) (own past : Past) (d : ℕ) → StandsFor s t own old → IsFrom (next_act s t own) e.act → IsLife s (e ∷ own) past d → StandsFor s t (e ∷ own) new
