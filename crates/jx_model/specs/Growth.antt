-- What an entry of an admitted history changes, and what it leaves.
use Rattle.std.specs.Prelude.{◌≡◌, ℕ, ◌&&◌, ◌≤◌, Bool, true, false, List, [], ◌∷◌, ◌++◌, Some, IsTrue, ⊤}
use Rattle.jx_base.specs.declared.act.Act.{Act}
use Rattle.jx_base.specs.declared.act.Act.TheVariants as act
use Rattle.jx_base.specs.declared.act.Reply.{Reply}
use Rattle.jx_base.specs.declared.act.Reply.TheVariants as reply
use Rattle.jx_base.specs.declared.act.Refusal.{Refusal}
use Rattle.jx_base.specs.declared.act.Entry.{Entry}
use Rattle.jx_base.specs.declared.ids.ServiceId.{ServiceId}
use Rattle.jx_base.specs.declared.states.ThreadState.TheVariants as thread
use Rattle.jx_base.specs.declared.program.System.{System}
use Rattle.jx_base.specs.Basics.{passes, up_to}
use Rattle.jx_base.specs.Histories.{Past}
use Rattle.jx_model.specs.Moments.{IsMoment}
use Rattle.jx_model.specs.Domains.{is_live, domains_made, template_of, creator_of, heap_place_of, end_reason}
use Rattle.jx_model.specs.Threads.{thread_state, is_running_state, service_threads, is_of_thread}
use Rattle.jx_model.specs.Portals.{services_made, owner_of, interface_of, holds_portal, bound_service}
use Rattle.jx_model.specs.Calls.{calls_made, asked_of, caller_of, answer_of, call_state, is_answer_to, refused_answer}
use Rattle.jx_model.specs.MemoryObjects.{objects_of, objects_made, is_valid, extents_made}
use Rattle.jx_model.specs.Holding.{holds_object, carried, riding_count, is_extent_in_use}
use Rattle.jx_model.specs.Granules.{used_runs}
use Rattle.jx_model.specs.Bytes.{byte_at}

-- ---- one running thread

-- thread t of domain d runs
abbrev pub Runs : Past → ℕ → ℕ → Type 0
Runs past d t = IsTrue (passes is_running_state (thread_state past d t))

-- at most one thread of a domain runs
abbrev pub RunsOneThread : Past → Type 0
RunsOneThread past = (d t k : ℕ) → Runs past d t → Runs past d k → t ≡ k

-- ---- numbers are given once

-- the number of the domain that the entry makes
unfoldable pub new_domain_number : Act → Reply → List ℕ
new_domain_number (act.Create t) (reply.Domain d g) = d.0 ∷ []
new_domain_number (act.Spawn name) (reply.Domain d g) = d.0 ∷ []
new_domain_number _ _ = []

-- the number of the service that the entry makes
unfoldable pub new_service_number : Act → Reply → List ℕ
new_service_number (act.Export iface k) (reply.Service s c) = s.0 ∷ []
new_service_number _ _ = []

-- the number of the call that the entry queues
unfoldable pub new_call_number : Act → Reply → List ℕ
new_call_number (act.Call s m p) (reply.Queued c) = c.0 ∷ []
new_call_number _ _ = []

-- the numbers of the objects that the entry makes
unfoldable pub new_object_numbers : Act → Reply → List ℕ
new_object_numbers (act.Alloc n) (reply.Made m g) = m.0 ∷ []
new_object_numbers (act.Sub k at n) (reply.Object m) = m.0 ∷ []
new_object_numbers (act.Split k at) (reply.Pair a b) = a.0 ∷ b.0 ∷ []
new_object_numbers (act.Revoke k) (reply.Object m) = m.0 ∷ []
new_object_numbers _ _ = []

-- all numbers that entries give, the first given first
unfoldable pub numbers_given : (Act → Reply → List ℕ) → Past → List ℕ
numbers_given new [] = []
numbers_given new (e ∷ past) = numbers_given new past ++ new e.act e.reply

-- the domains, services, calls and memory objects have the numbers 1, 2, 3 and so on, each given once and in order
pub record GivesNumbersOnce (past : Past) : Type 0 where
  pub domains : numbers_given new_domain_number past ≡ up_to (domains_made past)
  pub services : numbers_given new_service_number past ≡ up_to (services_made past)
  pub calls : numbers_given new_call_number past ≡ up_to (calls_made past)
  pub objects : numbers_given new_object_numbers past ≡ up_to (objects_made past)

-- ---- refusals

-- the same domains, of the same templates, live and ended
pub record HasSameDomains (s : System) (past new : Past) : Type 0 where
  pub made : domains_made new ≡ domains_made past
  pub template : (d : ℕ) → template_of s new d ≡ template_of s past d
  pub creator : (d : ℕ) → creator_of new d ≡ creator_of past d
  pub place : (d : ℕ) → heap_place_of new d ≡ heap_place_of past d
  pub reason : (d : ℕ) → end_reason new d ≡ end_reason past d
  pub live : (d : ℕ) → is_live new d ≡ is_live past d
  pub threads : (d : ℕ) → service_threads new d ≡ service_threads past d

-- the same services and names, and the same domains hold their portals
pub record HasSameServices (past new : Past) : Type 0 where
  pub made : services_made new ≡ services_made past
  pub owner : (k : ℕ) → owner_of new k ≡ owner_of past k
  pub interface : (k : ℕ) → interface_of new k ≡ interface_of past k
  pub name : (units : List ℕ) → bound_service new units ≡ bound_service past units
  pub held : (d k : ℕ) → holds_portal new d k ≡ holds_portal past d k

-- the same memory objects, which the same domains hold and as many calls carry
pub record HasSameObjects (past new : Past) : Type 0 where
  pub made : objects_of new ≡ objects_of past
  pub extents : extents_made new ≡ extents_made past
  pub valid : (m : ℕ) → is_valid new m ≡ is_valid past m
  pub held : (d m : ℕ) → holds_object new d m ≡ holds_object past d m
  pub riding : (m : ℕ) → riding_count new m ≡ riding_count past m
  pub in_use : (x : ℕ) → is_extent_in_use new x ≡ is_extent_in_use past x

-- the same calls, which carry the same objects, with the same answers and states but where the act answers one
pub record HasSameCalls (a : Act) (past new : Past) : Type 0 where
  pub made : calls_made new ≡ calls_made past
  pub asked : (c : ℕ) → asked_of new c ≡ asked_of past c
  pub caller : (c : ℕ) → caller_of new c ≡ caller_of past c
  pub answer : (c : ℕ) → is_answer_to c a ≡ false → answer_of new c ≡ answer_of past c
  pub state : (c : ℕ) → is_answer_to c a ≡ false → call_state new c ≡ call_state past c
  pub carried : (c : ℕ) → carried new c ≡ carried past c

-- the same granules are in use, by the same heaps and extents
abbrev pub HasSameGranules : System → Past → Past → Type 0
HasSameGranules s past new = used_runs s new ≡ used_runs s past

-- the same bytes
abbrev pub HasSameBytes : Past → Past → Type 0
HasSameBytes past new = (x i : ℕ) → byte_at new x i ≡ byte_at past x i

-- whether the act answers a call
unfoldable pub answers_call : Act → Bool
answers_call (act.Return c p) = true
answers_call (act.Throw c p) = true
answers_call _ = false

-- the threads of domains that were made do what they did, but for the entry's own where it answers a call
abbrev pub HasSameThreads : Entry → Past → Type 0
HasSameThreads e past =
    (d t : ℕ) → 1 ≤ d → (answers_call e.act && is_of_thread d t e) ≡ false → thread_state (e ∷ past) d t ≡ thread_state past d t

-- the thread is idle
abbrev pub IsIdle : Past → ℕ → ℕ → Type 0
IsIdle past d t = (k : ServiceId) × (thread_state past d t ≡ Some (thread.Idle k))

-- a refused return or throw makes its thread idle
abbrev pub IdlesThread : Entry → Past → Type 0
IdlesThread e past = answers_call e.act ≡ true → IsIdle (e ∷ past) e.domain.0 e.thread.0

-- the call of a return or throw that was so refused has the answer of that refusal
abbrev pub IsAnsweredWith : Refusal → Act → Past → Type 0
IsAnsweredWith r (act.Return c p) new = answer_of new c.0 ≡ Some (refused_answer r)
IsAnsweredWith r (act.Throw c p) new = answer_of new c.0 ≡ Some (refused_answer r)
IsAnsweredWith r _ new = ⊤

-- an entry that is so refused changes nothing but the answer of the call that it answers, and its thread
pub record ChangesNothingElse (s : System) (past : Past) (e : Entry) (r : Refusal) : Type 0 where
  pub domains : HasSameDomains s past (e ∷ past)
  pub services : HasSameServices past (e ∷ past)
  pub objects : HasSameObjects past (e ∷ past)
  pub calls : HasSameCalls e.act past (e ∷ past)
  pub threads : HasSameThreads e past
  pub answered : IsAnsweredWith r e.act (e ∷ past)
  pub idle : IdlesThread e past
  pub granules : HasSameGranules s past (e ∷ past)
  pub bytes : HasSameBytes past (e ∷ past)

-- each refused entry changes nothing but the answer of its call and its thread
abbrev pub RefusalsChangeNothing : System → Past → Type 0
RefusalsChangeNothing s whole =
    (e : Entry) (past : Past) (r : Refusal) → IsMoment whole e past → e.reply ≡ reply.Refused r → ChangesNothingElse s past e r

-- what a computed case opens
unfoldable pub opened_growth : Unit {0}
unfolding new_domain_number new_service_number new_call_number new_object_numbers numbers_given answers_call
opened_growth = tt
