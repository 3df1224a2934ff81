-- The order of what comes of a call, and who does it.
use Rattle.std.specs.Prelude.{◌≡◌, ℕ, ◌↔◌, Some, IsTrue}
use Rattle.jx_base.specs.declared.act.Entry.{Entry}
use Rattle.jx_base.specs.declared.ids.CallId.{CallId}
use Rattle.jx_base.specs.Histories.{Past}
use Rattle.jx_model.specs.Moments.{IsMoment}
use Rattle.jx_model.specs.Domains.{IsLive}
use Rattle.jx_model.specs.Threads.{served_call}
use Rattle.jx_model.specs.Calls.{is_take_of, is_answer_to, is_resume_of, is_queued, IsBeingServed, IsResumable, service_of_call, server_of, caller_of, queue_head}
use Rattle.jx_model.specs.Tables.{calling_thread}
use Rattle.std.specs.Option.{option_and_then}

-- a call that is taken: queued, the first of its service's queue, and the taker owns that service
pub record IsTakenInTurn (past : Past) (d c : ℕ) : Type 0 where
  pub queued : IsTrue (is_queued past c)
  pub first : option_and_then (queue_head past) (service_of_call past c) ≡ Some c
  pub server : server_of past c ≡ Some d

-- a call that is answered: it is being served by the thread that answers it, of the domain that owns its service
pub record IsAnsweredInTurn (past : Past) (d t c : ℕ) : Type 0 where
  pub served : IsBeingServed past c
  pub server : server_of past c ≡ Some d
  pub thread : (k : CallId) → k.0 ≡ c → served_call past d t ≡ Some k

-- a call that is resumed: answered for a live caller, and resumed by the thread that made it
pub record IsResumedInTurn (past : Past) (d t c : ℕ) : Type 0 where
  pub resumable : IsResumable past c
  pub caller : caller_of past c ≡ Some d
  pub thread : calling_thread past c ≡ Some t

-- each call is queued before it is taken, taken before it is answered, and answered before it is resumed, each by the right thread
pub record CallsGoInOrder (whole : Past) : Type 0 where
  pub takes : (e : Entry) (past : Past) (c : ℕ) → IsMoment whole e past → IsTrue (is_take_of c e.act) → IsTakenInTurn past e.domain.0 c
  pub answers : (e : Entry) (past : Past) (c : ℕ) → IsMoment whole e past → IsTrue (is_answer_to c e.act) → IsAnsweredInTurn past e.domain.0 e.thread.0 c
  pub resumes : (e : Entry) (past : Past) (c : ℕ) → IsMoment whole e past → IsTrue (is_resume_of c e.act) → IsResumedInTurn past e.domain.0 e.thread.0 c

-- a call is served exactly where some thread of a live domain serves it, and then by one thread alone
pub record ServedByOneThread (past : Past) : Type 0 where
  pub served : (c : CallId) → IsBeingServed past c.0 ↔ ((d : ℕ) × (t : ℕ) × IsLive past d × (served_call past d t ≡ Some c))
  pub server : (d t : ℕ) (c : CallId) → served_call past d t ≡ Some c → server_of past c.0 ≡ Some d
  pub one : (d t k r : ℕ) (c : CallId) → served_call past d t ≡ Some c → served_call past k r ≡ Some c → (d ≡ k) × (t ≡ r)
