-- What single acts ask of the thread that performed them, and the states that they lead to.
use Rattle.std.specs.Prelude.{◌≡◌, ℕ, Some}
use Rattle.jx_base.specs.declared.act.Reply.{Reply}
use Rattle.jx_base.specs.declared.act.Reply.TheVariants as reply
use Rattle.jx_base.specs.declared.ids.CallId.{CallId}
use Rattle.jx_base.specs.declared.ids.ClassId.{ClassId}
use Rattle.jx_base.specs.declared.ids.MethodId.{MethodId}
use Rattle.jx_base.specs.declared.ids.ServiceId.{ServiceId}
use Rattle.jx_base.specs.declared.program.System.{System}
use Rattle.jx_base.specs.declared.value.Parcel.{Parcel}
use Rattle.machine_calls.specs.Calling.{IsHandedTo}
use Rattle.machine_model.specs.AfterEntry.{after_reply, after_take, exported_object, with_export}
use Rattle.machine_model.specs.MachineThreads.{at_rest, core_of, thread_at, with_less_fuel}
use Rattle.machine_model.specs.State.{Going, State, Thread}
use Rattle.machine_replies.specs.Leaving.{HasPast, IsRepliedTo}

-- the state after the take of the call by thread t
abbrev pub taken_by : System → CallId → ServiceId → MethodId → Parcel → State → ℕ → Thread → State
taken_by s c service method p st t x = after_take s st t (record x { call = Some c; stage = Going }) service method p

-- the state after an export by thread x, before its reply
abbrev pub exported_from : State → Thread → ClassId → ℕ → ServiceId → State
exported_from st x iface threads service = with_export (with_less_fuel st) (exported_object x) service iface threads

-- it is so of thread t of the state
abbrev pub OfThread : State → ℕ → (Thread → Type 0) → Type 0
OfThread st t P = (x : Thread) → thread_at st t ≡ Some x → P x

-- the thread can be given the reply
abbrev pub CanBeReplied : System → State → ℕ → Reply → Type 0
CanBeReplied s st t r = OfThread st t (λ x. IsRepliedTo s (core_of st x) r)

-- the thread can be handed the parcel
abbrev pub CanBeHanded : System → State → ℕ → Parcel → Type 0
CanBeHanded s st t p = OfThread st t (λ x. IsHandedTo s (core_of st x) p)

-- the thread is one of a domain
abbrev pub IsKnown : System → State → ℕ → Type 0
IsKnown s st t = OfThread st t (λ x. HasPast s (core_of st x))

-- the reply to a take is the call, or says nothing
abbrev pub IsJob : Reply → Type 0
IsJob (reply.Job service method p) = Unit {0}
IsJob reply.Done = Unit {0}
IsJob _ = ⊥

-- the state after a call through a portal: the caller waits, unless it was refused
abbrev pub called_by : System → State → ℕ → Thread → Reply → State
called_by s st t x (reply.Queued c) = at_rest (with_less_fuel st)
called_by s st t x r = after_reply s (with_less_fuel st) t x r

-- the thread can be given the reply to an export, also where the service is its own
pub record CanExport (s : System) (st : State) (t : ℕ) (iface : ClassId) (threads : ℕ) (r : Reply) : Type 0 where
  pub refused : CanBeReplied s st t r
  pub made : (service : ServiceId) (c : ClassId) → r ≡ reply.Service service c → OfThread st t (λ x. CanBeReplied s (exported_from st x iface threads service) t r)
