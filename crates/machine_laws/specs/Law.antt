-- The laws of the machine: the act that a domain's code performs next is well made, and what stands for a domain can be stepped.
use Rattle.std.specs.Prelude.{◌≡◌, ◌≤◌, ℕ, List, ◌∷◌, length, Some, IsSome, All}
use Rattle.jx_base.specs.declared.act.Act.{Act}
use Rattle.jx_base.specs.declared.act.Entry.{Entry}
use Rattle.jx_base.specs.declared.frame.Frame.{Frame}
use Rattle.jx_base.specs.declared.program.System.{System}
use Rattle.jx_base.specs.Histories.{Past, own_entries}
use Rattle.program_model.specs.Instructions.{Reading, instruction_at}
use Rattle.program_model.specs.Lookup.{template_at}
use Rattle.machine_model.specs.Conditions.{IsCoreOf, IsInstrOf}
use Rattle.machine_model.specs.Machine.{Does, domain_state, next_act}
use Rattle.machine_model.specs.MachineThreads.{core_of, thread_at}
use Rattle.jx_model.specs.Moments.{IsMoment}
use Rattle.jx_model.specs.WellMade.{IsWellMade}
use Rattle.machine_laws.specs.Handed.{IsReplyIn}
use Rattle.machine_laws.specs.Standing.{Stands, Asks}
use Rattle.machine_laws.specs.Values.{IsStateIn, cell_limit}
use Rattle.machine_model.specs.State.{Going, Thread, State, code_bytes}

-- each entry's reply is in its ranges
abbrev pub RepliesHold : System → Past → Type 0
RepliesHold s whole = (e : Entry) (past : Past) → IsMoment whole e past → IsReplyIn s (e ∷ past) e.reply

-- what a domain of a template's code performs next is well made
abbrev pub NextIsWellMade : System → Past → Type 0
NextIsWellMade s past =
    (d t : ℕ) (a : Act) → IsSome (template_at s t) → next_act s t (own_entries past d) ≡ Does a → IsWellMade s past a

-- the state of each domain, after its own entries, is one of values
abbrev pub StatesHoldValues : System → Past → Type 0
StatesHoldValues s past = (d t : ℕ) → IsSome (template_at s t) → IsStateIn s past (domain_state s t (own_entries past d))

-- the act that a state asks for, which stands for a domain after its own entries, is well made
abbrev pub AskedIsWellMade : System → Past → Type 0
AskedIsWellMade s past =
    (d t k : ℕ) (st : State) (a : Act) → IsSome (template_at s t) → Stands s t (own_entries past d) st → Asks s st k a → IsWellMade s past a

-- a state that stands for a domain after its own entries is one of values
abbrev pub StandingHoldsValues : System → Past → Type 0
StandingHoldsValues s past =
    (d t : ℕ) (st : State) → IsSome (template_at s t) → Stands s t (own_entries past d) st → IsStateIn s past st

-- ---- what a step of an instruction asks

-- the thread's core is one that a domain of the system can have, no object has more cells than a heap, and the instruction at the running frame's pc is one of its method
pub record CanBeStepped (s : System) (st : State) (x : Thread) : Type 0 where
  pub core : IsCoreOf s (core_of st x)
  pub small : All (λ o. length o.cells ≤ cell_limit) st.store.objects
  pub instruction : (f : Frame) (callers : List Frame) (r : Reading) → x.frames ≡ f ∷ callers → instruction_at (code_bytes s f) f.pc ≡ Some r →
      IsInstrOf s (core_of st x) f callers r.instr

-- each thread that goes on, of a state that stands for a domain after its own entries, can be stepped
abbrev pub StandingCoresHold : System → Past → Type 0
StandingCoresHold s past =
    (d t k : ℕ) (st : State) (x : Thread) → IsSome (template_at s t) → Stands s t (own_entries past d) st → thread_at st k ≡ Some x →
    x.stage ≡ Going → CanBeStepped s st x
