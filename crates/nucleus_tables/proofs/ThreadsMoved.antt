-- An act that changes the state of its thread.
use Rattle.std.proofs.Common.{◌≡◌, refl, sym, ◌∙◌, ap, subst, ℕ, suc, zero, ◌+◌, ◌≤◌, true, false, List, length, Option, Some, None, is_some, arith, slice_get}
use Rattle.std.specs.Option.{option_and_then, option_map}
use Rattle.jx_base.specs.declared.act.Act.{Act}
use Rattle.jx_base.specs.declared.act.Act.TheVariants as act
use Rattle.jx_base.specs.declared.act.Reply.TheVariants as reply
use Rattle.jx_base.specs.declared.ids.CallId.{CallId}
use Rattle.jx_base.specs.declared.ids.ServiceId.{ServiceId}
use Rattle.jx_base.specs.declared.ids.ThreadId.{ThreadId}
use Rattle.jx_base.specs.declared.program.System.{System}
use Rattle.jx_base.specs.Basics.{numbered}
use Rattle.jx_base.specs.Histories.{Past}
use Rattle.jx_base.proofs.BasicLaws.{ap2}
use Rattle.jx_model.proofs.Acting.{acting_within}
use Rattle.jx_model.specs.Domains.{ended_by, ended_by_act, is_birth, makes_domain}
use Rattle.jx_model.specs.Permits.{acting_thread, is_choice, is_create, is_create_entry, is_ending, is_halt, zero_may}
use Rattle.jx_model.specs.Replies.{reply_to}
use Rattle.jx_model.specs.Tables.{StandsFor, ThreadRecord, state_or_over, thread_record, thread_records}
use Rattle.jx_model.specs.Threads.{served_after, service_threads, serving_state, state_after, threads_of}
use Rattle.domain_table.specs.DomainLists as Lists
use Rattle.nucleus_tables.proofs.DomainReads.{threads_there}
use Rattle.nucleus_tables.proofs.Entered.{entered_beside_calls, same_beside}
use Rattle.nucleus_tables.specs.Entering.{IsThreadAct, done_entry, thread_state_after}
use Rattle.nucleus_tables.specs.Inner.{IsOf, IsPermittedIn, kept_in, past_in, state_of, with_put}
use Rattle.nucleus_tables.specs.Stepping.{IsEntered}
use Rattle.nucleus_tables.specs.declared.tables.Tables.{Tables}
use Rattle.table_steps.proofs.PlainSteps.{stands_after_plain_act}
use Rattle.table_steps.proofs.Unchanged.{is_plain_act}
use Rattle.table_steps.specs.Steps.{moved_threads, with_entry}
use Rattle.table_threads.proofs.Actors.{IsMade, acts_live, live_made}
use Rattle.table_threads.proofs.Numbered.{changed_same}
use Rattle.table_threads.proofs.Records.{get_range}
use Rattle.table_threads.specs.Changes.{changed_at}
use Rattle.table_threads.specs.ThreadChanges.{own_changed, runs_as, thread_record_after}

-- ---- the thread is there

pub thread_there : (s : System) (x : Tables) (d t : ℕ) → IsOf s x → IsMade (past_in x) d → t ≤ length (service_threads (past_in x) d) →
    Lists.thread_in x.domains d t ≡ Some (thread_record (past_in x) d t)
unfolding thread_records threads_of
thread_there s x d t h m l =
    ap (option_and_then (λ (items : List ThreadRecord). slice_get items t)) (threads_there s x h d m)
    ∙ get_range (thread_record (past_in x) d) 0 (length (service_threads (past_in x) d) + 1) t (omega (arith, l))
    ∙ ap (λ (k : ℕ). Some (thread_record (past_in x) d k)) (omega arith)

-- a thread that may go on, yield or end is one of a domain that lives
pub mover_made : (s : System) (past : Past) (d t : ℕ) (a : Act) → IsThreadAct a → acting_thread s past d a ≡ Some t → IsMade past d
unfolding is_halt zero_may
mover_made s past d t (act.Go k) p q = live_made past d (acts_live s past d t (act.Go k) refl refl q)
mover_made s past d t act.Yield p q = live_made past d (acts_live s past d t act.Yield refl refl q)
mover_made s past d t (act.EndThread c) p q = live_made past d (acts_live s past d t (act.EndThread c) refl refl q)
mover_made s past d t _ p q = absurd p

pub mover_there : (s : System) (x : Tables) (d t : ℕ) (a : Act) → IsPermittedIn s x d t a → IsThreadAct a → Lists.HasThread x.domains d t
mover_there s x d t a h p =
    ap is_some (thread_there s x d t h.tables (mover_made s (past_in x) d t a p h.thread) (acting_within s (past_in x) d t a h.thread))

-- ---- its record

-- the same of a thread of a domain
pub own_same : (x : Lists.DomainsState) (d t : ℕ) (f g : ThreadRecord → ThreadRecord) → ((r : ThreadRecord) → Lists.thread_in x d t ≡ Some r → f r ≡ g r) →
    own_changed d t f x.threads ≡ own_changed d t g x.threads
unfolding numbered
own_same x zero t f g h = refl
own_same x (suc i) t f g h =
    changed_same i (changed_at t f) (changed_at t g) x.threads
    (λ items q. changed_same t f g items (λ r z. h r (ap (option_and_then (λ (items : List ThreadRecord). slice_get items t)) q ∙ z)))

-- the call that a thread serves is as its state says
pub serves_same : (v : Option ServiceId) (c : Option CallId) → Lists.served_in (runs_as v c) c ≡ c
unfolding serving_state
serves_same None c = refl
serves_same (Some s) None = refl
serves_same (Some s) (Some c) = refl

pub moved_record : (item : ThreadRecord) (a : Act) → IsThreadAct a → Lists.with_state (thread_record_after item a reply.Done).state item ≡ thread_record_after item a reply.Done
unfolding state_after served_after
moved_record item (act.Go t) p =
    ap (λ (c : Option CallId). record { service = item.service; state = runs_as item.service item.serves; serves = c }) (serves_same item.service item.serves)
moved_record item act.Yield p = refl
moved_record item (act.EndThread c) p = refl
moved_record item _ p = absurd p

-- the threads with that one's state are those with its record
pub moved_threads_are : (x : Tables) (d t : ℕ) (a : Act) → IsThreadAct a →
    own_changed d t (Lists.with_state (thread_state_after x d t a)) x.domains.threads ≡ own_changed d t (λ item. thread_record_after item a reply.Done) x.domains.threads
unfolding state_or_over
moved_threads_are x d t a p =
    own_same x.domains d t (Lists.with_state (thread_state_after x d t a)) (λ item. thread_record_after item a reply.Done)
    (λ r q. ap (λ (o : Option ThreadRecord). Lists.with_state (state_or_over (option_map (λ item. (thread_record_after item a reply.Done).state) o)) r) q ∙ moved_record r a p)

-- ---- what a thread does once it goes on

-- as the service and the call of its record say
pub goes_as : (x : Tables) (d t : ℕ) (k : ThreadId) (v : Option ServiceId) (c : Option CallId) → Lists.HasThread x.domains d t →
    v ≡ option_and_then (λ r. r.service) (Lists.thread_in x.domains d t) → c ≡ option_and_then (λ r. r.serves) (Lists.thread_in x.domains d t) → runs_as v c ≡ thread_state_after x d t (act.Go k)
unfolding state_or_over state_after served_after
goes_as x d t k v c h p q = by (Lists.thread_in x.domains d t) h p q
  where
    by : (o : Option ThreadRecord) → is_some o ≡ true → v ≡ option_and_then (λ r. r.service) o → c ≡ option_and_then (λ r. r.serves) o →
        runs_as v c ≡ state_or_over (option_map (λ item. (thread_record_after item (act.Go k) reply.Done).state) o)
    by None h p q = cc
    by (Some r) h p q = ap2 runs_as p q

-- ---- the entry

module _ (s : System) (x : Tables) (d t : ℕ) where
  abbrev moved : Act → Tables
  moved a = record x { domains = record x.domains { threads = own_changed d t (λ item. thread_record_after item a reply.Done) x.domains.threads } }

  thread_put : (a : Act) → IsPermittedIn s x d t a → IsThreadAct a →
      IsEntered s (state_of x) (state_of (with_put (moved a) (done_entry d t a))) (done_entry d t a) × (is_birth (done_entry d t a) ≡ false)
  unfolding reply_to is_ending is_create_entry is_create is_birth makes_domain is_choice ended_by ended_by_act
  thread_put a h p = by a h p
    where
      stands : (a : Act) → IsPermittedIn s x d t a → reply.Done ≡ reply_to s (past_in x) d a → is_plain_act a ≡ true →
          StandsFor s (record (with_entry (kept_in x) (done_entry d t a)) { threads = moved_threads (kept_in x) (done_entry d t a) })
      stands a h r p = stands_after_plain_act s (kept_in x) d t a reply.Done h.tables.stands (record { thread = h.thread; well_made = h.may_come.well_made; reply = r }) p

      by : (a : Act) → IsPermittedIn s x d t a → IsThreadAct a →
          IsEntered s (state_of x) (state_of (with_put (moved a) (done_entry d t a))) (done_entry d t a) × (is_birth (done_entry d t a) ≡ false)
      by (act.Go k) h p =
          (entered_beside_calls s x (moved (act.Go k)) d t (act.Go k) reply.Done h refl refl (omega arith) refl (same_beside s x (moved (act.Go k)) (done_entry d t (act.Go k)) h.tables refl refl refl refl refl (record { calls = refl; places = refl; objects = refl; extents = refl })) (stands (act.Go k) h refl refl), refl)
      by act.Yield h p =
          (entered_beside_calls s x (moved act.Yield) d t act.Yield reply.Done h refl refl (omega arith) refl (same_beside s x (moved act.Yield) (done_entry d t act.Yield) h.tables refl refl refl refl refl (record { calls = refl; places = refl; objects = refl; extents = refl })) (stands act.Yield h refl refl), refl)
      by (act.EndThread c) h p =
          (entered_beside_calls s x (moved (act.EndThread c)) d t (act.EndThread c) reply.Done h refl refl (omega arith) refl (same_beside s x (moved (act.EndThread c)) (done_entry d t (act.EndThread c)) h.tables refl refl refl refl refl (record { calls = refl; places = refl; objects = refl; extents = refl })) (stands (act.EndThread c) h refl refl), refl)
      by _ h p = absurd p

  -- a go, a yield or an end-thread
  pub thread_entered : (y : Tables) (a : Act) → IsPermittedIn s x d t a → IsThreadAct a →
      y ≡ with_put (record x { domains = record x.domains { threads = own_changed d t (Lists.with_state (thread_state_after x d t a)) x.domains.threads } }) (done_entry d t a) →
      IsEntered s (state_of x) (state_of y) (done_entry d t a) × (is_birth (done_entry d t a) ≡ false)
  thread_entered y a h p q =
      subst (λ (z : Tables). IsEntered s (state_of x) (state_of z) (done_entry d t a) × (is_birth (done_entry d t a) ≡ false))
      (sym (q ∙ ap (λ (threads : List (List ThreadRecord)). with_put (record x { domains = record x.domains { threads = threads } }) (done_entry d t a)) (moved_threads_are x d t a p)))
      (thread_put a h p)
