-- The thread of an entry, and what a domain's history says of its threads, against the state of its machine.
use Rattle.std.specs.Prelude.{◌≡◌, ◌≢◌, ℕ, ◌+◌, ◌≤◌, ℤ, true, false, ◌∷◌, length, Some, None, IsSome}
use Rattle.jx_base.specs.declared.act.Act.{Act}
use Rattle.jx_base.specs.declared.act.Act.TheVariants as act
use Rattle.jx_base.specs.declared.act.Entry.{Entry}
use Rattle.jx_base.specs.declared.act.Reason.{Reason}
use Rattle.jx_base.specs.declared.program.System.{System}
use Rattle.jx_base.specs.Histories.{Past, own_entries}
use Rattle.program_model.specs.Lookup.{template_at}
use Rattle.machine_model.specs.Machine.{Does, next_act}
use Rattle.machine_model.specs.MachineThreads.{thread_at}
use Rattle.machine_model.specs.State.{Going, Thread, State}
use Rattle.jx_model.specs.Domains.{is_live}
use Rattle.jx_model.specs.Legal.{FollowsCode}
use Rattle.jx_model.specs.Permits.{is_choice, may_perform}
use Rattle.jx_model.specs.Threads.{running_thread, served_call, service_threads}
use Rattle.machine_laws.specs.Standing.{Stands}

-- what a domain's history says of its threads is so in the state: while the domain is live, the same thread runs; it has as many threads; and each thread that doesn't run goes on or is idle
pub record AgreesOn (past : Past) (d : ℕ) (st : State) : Type 0 where
  pub running : is_live past d ≡ true → st.running ≡ running_thread past d
  pub count : length st.threads ≡ length (service_threads past d) + 1
  pub rest : (k : ℕ) (x : Thread) → thread_at st k ≡ Some x → st.running ≢ Some k → x.stage ≡ Going

-- so it is for each domain whose entries follow its code
abbrev pub StatesAgree : System → Past → Type 0
StatesAgree s past =
    (d t : ℕ) (st : State) → 1 ≤ d → IsSome (template_at s t) → FollowsCode s t (own_entries past d) → Stands s t (own_entries past d) st → AgreesOn past d st

-- while a domain is live, each thread of its state serves the call that its history says
abbrev pub CallsAgree : System → Past → Type 0
CallsAgree s past =
    (d t k : ℕ) (st : State) (x : Thread) → 1 ≤ d → IsSome (template_at s t) → FollowsCode s t (own_entries past d) → Stands s t (own_entries past d) st → is_live past d ≡ true → thread_at st k ≡ Some x → x.call ≡ served_call past d k

-- the act that a domain's code performs next is one that its running thread may perform
abbrev pub RunningThreadsMayPerform : System → Past → Type 0
RunningThreadsMayPerform s past =
    (d t k : ℕ) (a : Act) → 1 ≤ d → IsSome (template_at s t) → FollowsCode s t (own_entries past d) → running_thread past d ≡ Some k → next_act s t (own_entries past d) ≡ Does a → may_perform past d k a ≡ true

-- the entry's thread is one of the state, and the running one, or with a choice none runs and it goes on
pub record IsOfThread (st : State) (e : Entry) : Type 0 where
  pub thread : Thread
  pub there : thread_at st e.thread.0 ≡ Some thread
  pub act : is_choice e.act ≡ false → st.running ≡ Some e.thread.0
  pub choice : is_choice e.act ≡ true → (st.running ≡ None) × (thread.stage ≡ Going)

-- each entry of a domain that follows its code is of a thread of the state that it meets: the running one, or with a choice one that goes on
abbrev pub EntriesAreOfTheirThread : System → Past → Type 0
EntriesAreOfTheirThread s past =
    (d t : ℕ) (e : Entry) (own : Past) (st : State) → 1 ≤ d → IsSome (template_at s t) → own_entries past d ≡ e ∷ own → FollowsCode s t (e ∷ own) → Stands s t own st → IsOfThread st e

-- no entry of a domain comes after one that ends it
abbrev pub NoneAfterEnd : Past → Type 0
NoneAfterEnd past = (d : ℕ) (e f : Entry) (own : Past) → 1 ≤ d → own_entries past d ≡ e ∷ f ∷ own → (r : Reason) → f.act ≡ act.End r → ⊥

-- no entry of a domain comes after its exit
abbrev pub NoneAfterExit : Past → Type 0
NoneAfterExit past = (d : ℕ) (e f : Entry) (own : Past) → 1 ≤ d → own_entries past d ≡ e ∷ f ∷ own → (code : ℤ) → f.act ≡ act.Exit code → ⊥
