-- Which takes and resumes may come, and why others may not.
use Rattle.std.proofs.Common.{◌≡◌, refl, sym, ◌∙◌, ap, ℕ, Bool, true, false, ◌&&◌, List, Option, Some, None, is_none, if◌then◌else◌}
use Rattle.std.specs.Option.{option_and_then, option_map, unwrap_or}
use Rattle.jx_base.specs.declared.act.Act.TheVariants as act
use Rattle.jx_base.specs.declared.ids.CallId.{CallId}
use Rattle.jx_base.specs.declared.ids.ServiceId.{ServiceId}
use Rattle.jx_base.specs.declared.ids.ThreadId.{ThreadId}
use Rattle.jx_base.specs.declared.program.System.{System}
use Rattle.jx_base.specs.declared.states.Why.{Why}
use Rattle.jx_base.specs.declared.states.Why.TheVariants as why
use Rattle.jx_base.specs.Basics.{is_number, numbered}
use Rattle.jx_base.specs.Histories.{Past}
use Rattle.jx_base.proofs.BasicLaws.{ap2}
use Rattle.jx_model.specs.Calls.{is_resumable, queue_head, server_of, service_of_call}
use Rattle.jx_model.specs.Domains.{is_live}
use Rattle.jx_model.specs.Permits.{choice_thread, idle_thread, is_head, is_waiting_for, resuming_thread, taking_thread}
use Rattle.jx_model.specs.Portals.{owner_of}
use Rattle.jx_model.specs.Tables.{CallRecord, ServiceRecord, call_records}
use Rattle.jx_model.specs.Threads.{thread_where}
use Rattle.jx_model.specs.WhyNot.{head_of_its_queue, why_if, why_not_asleep, why_not_take}
use Rattle.call_table.specs.CallLists.{first_queued}
use Rattle.call_table.specs.declared.calls.Call.{Call}
use Rattle.domain_table.specs.DomainLists as Lists
use Rattle.nucleus_tables.proofs.CallReads.{call_is, head_is, idle_is}
use Rattle.nucleus_tables.proofs.DomainReads.{first_thread}
use Rattle.nucleus_tables.specs.CallTables.{call_of}
use Rattle.nucleus_tables.specs.Inner.{IsOf, past_in}
use Rattle.nucleus_tables.specs.declared.tables.Tables.{Tables}
use Rattle.table_reads.proofs.ActingReads.{owner_by_records, service_by_records}
use Rattle.table_reads.specs.TableReads.{owner_in}
use Rattle.table_steps.specs.Steps.{owns}

-- ---- takes

-- a call that isn't the first of a queue of the domain
not_head : (past : Past) (d c : ℕ) → is_head past d c ≡ false → why_not_take past d c ≡ Some (why.NotHead (head_of_its_queue past c))
unfolding why_not_take
not_head past d c q = ap (λ (b : Bool). if b then why_if (is_none (taking_thread past d c)) (why.NoIdle (record { 0 = unwrap_or (service_of_call past c) 0 })) else Some (why.NotHead (head_of_its_queue past c))) q

module _ (s : System) (x : Tables) (h : IsOf s x) where
  -- the service of a call
  service_is_of : (c : ℕ) (o : Option Call) → numbered x.calls.calls c ≡ o → option_map (λ k. k.service.0) o ≡ service_of_call (past_in x) c
  service_is_of c o q =
      ap (option_map (λ (k : Call). k.service.0)) (sym q ∙ call_is s x h c)
      ∙ mapped (numbered (call_records (past_in x)) c)
      ∙ sym (service_by_records (past_in x) c)
    where
      mapped : (o : Option CallRecord) → option_map (λ (k : Call). k.service.0) (option_map call_of o) ≡ option_map (λ (r : CallRecord). r.service) o
      mapped None = refl
      mapped (Some r) = refl

  pub its_service : (c : ℕ) (k : Call) → numbered x.calls.calls c ≡ Some k → service_of_call (past_in x) c ≡ Some k.service.0
  its_service c k q = sym (service_is_of c (Some k) q)

  -- one that wasn't made can't be taken
  pub no_call : (d c : ℕ) → numbered x.calls.calls c ≡ None → why_not_take (past_in x) d c ≡ Some (why.NotHead None)
  unfolding is_head is_number head_of_its_queue server_of
  no_call d c q =
      let none : service_of_call (past_in x) c ≡ None = sym (service_is_of c None q) in
      not_head (past_in x) d c
      (ap (λ (o : Option ℕ). is_number (option_and_then (owner_of (past_in x)) o) d && is_number (option_and_then (queue_head (past_in x)) o) c) none)
      ∙ ap (λ (o : Option ℕ). Some (why.NotHead (option_map (λ k. record { 0 = k }) (option_and_then (queue_head (past_in x)) o)))) none

  module _ (d : ℕ) (c : CallId) (k : ServiceId) (o : Option CallId) (v : service_of_call (past_in x) c.0 ≡ Some k.0) (q : option_map (λ c. c.0) o ≡ first_queued x.calls k.0) where
    -- the first of its queue
    its_head : option_and_then (queue_head (past_in x)) (service_of_call (past_in x) c.0) ≡ option_map (λ c. c.0) o
    its_head = ap (option_and_then (queue_head (past_in x))) v ∙ sym (head_is s x h k.0) ∙ sym q

    head_told : (a b : Bool) → a ≡ owns x.services.services d k.0 → b ≡ is_number (option_map (λ c. c.0) o) c.0 → is_head (past_in x) d c.0 ≡ (a && b)
    unfolding is_head server_of
    head_told a b p r =
        ap2 (λ (z w : Option ℕ). is_number z d && is_number w c.0)
        (ap (option_and_then (owner_of (past_in x))) v ∙ owner_by_records s (past_in x) k.0 ∙ ap (λ (items : List ServiceRecord). owner_in items k.0) (sym h.stands.services))
        its_head
        ∙ ap2 (λ (a b : Bool). a && b) (sym p) (sym r)

    -- another call, or one of another domain
    pub refused_take : (a b : Bool) → a ≡ owns x.services.services d k.0 → b ≡ is_number (option_map (λ c. c.0) o) c.0 → (a && b) ≡ false → why_not_take (past_in x) d c.0 ≡ Some (why.NotHead o)
    unfolding head_of_its_queue
    refused_take a b p r n =
        not_head (past_in x) d c.0 (head_told a b p r ∙ n)
        ∙ ap (λ (z : Option ℕ). Some (why.NotHead (option_map (λ k. record { 0 = k }) z))) its_head
        ∙ ap (λ (z : Option CallId). Some (why.NotHead z)) (again o)
      where
        again : (o : Option CallId) → option_map (λ k. record { 0 = k }) (option_map (λ c. c.0) o) ≡ o
        again None = refl
        again (Some c) = refl

    module _ (l : is_live (past_in x) d ≡ true) (p : true ≡ owns x.services.services d k.0) (r : true ≡ is_number (option_map (λ c. c.0) o) c.0) where
      taker_is : taking_thread (past_in x) d c.0 ≡ Lists.idle_in x.domains d k.0
      unfolding taking_thread
      taker_is =
          ap2 (λ (b : Bool) (z : Option ℕ). if b then option_and_then (idle_thread (past_in x) d) z else None) (head_told true true p r) v
          ∙ sym (idle_is s x h d k.0 l)

      -- an idle thread takes it
      pub taken_by : (t : ThreadId) (z : Option ThreadId) → option_map (λ t. t.0) z ≡ Lists.idle_in x.domains d k.0 → z ≡ Some t → taking_thread (past_in x) d c.0 ≡ Some t.0
      taken_by t z w y = taker_is ∙ sym w ∙ ap (option_map (λ (t : ThreadId). t.0)) y

      -- or there is none
      pub no_taker : (z : Option ThreadId) → option_map (λ t. t.0) z ≡ Lists.idle_in x.domains d k.0 → z ≡ None → why_not_take (past_in x) d c.0 ≡ Some (why.NoIdle k)
      unfolding why_not_take why_if
      no_taker z w y =
          let none : taking_thread (past_in x) d c.0 ≡ None = taker_is ∙ sym w ∙ ap (option_map (λ (t : ThreadId). t.0)) y in
          ap2 (λ (b : Bool) (z : Option ℕ). if b then (if is_none z then Some (why.NoIdle (record { 0 = unwrap_or (service_of_call (past_in x) c.0) 0 })) else None) else Some (why.NotHead (head_of_its_queue (past_in x) c.0))) (head_told true true p r) none
          ∙ ap (λ (z : Option ℕ). Some (why.NoIdle (record { 0 = unwrap_or z 0 }))) v

  -- ---- resumes

  pub waiter_is : (d c : ℕ) → is_live (past_in x) d ≡ true → Lists.waiting_in x.domains d c ≡ thread_where (past_in x) d (is_waiting_for c)
  waiter_is d c l = first_thread s x h d (is_waiting_for c) ∙ ap (λ (b : Bool). if b then thread_where (past_in x) d (is_waiting_for c) else None) l

-- the thread that goes on after the call, where there is one
pub resumer_is : (past : Past) (d c : ℕ) (o : Option ℕ) → is_resumable past c ≡ true → o ≡ thread_where past d (is_waiting_for c) → o ≡ resuming_thread past d c
unfolding resuming_thread
resumer_is past d c o q t = t ∙ ap (λ (b : Bool). if b then thread_where past d (is_waiting_for c) else None) (sym q)

pub no_resumer : (past : Past) (d c : ℕ) → is_resumable past c ≡ false → None ≡ resuming_thread past d c
unfolding resuming_thread
no_resumer past d c q = ap (λ (b : Bool). if b then thread_where past d (is_waiting_for c) else None) (sym q)

pub resumes_in : (past : Past) (d : ℕ) (c : CallId) (t : ThreadId) → resuming_thread past d c.0 ≡ Some t.0 → choice_thread past d (act.Resume c) ≡ Some t.0
unfolding choice_thread
resumes_in past d c t q = q

pub not_waiting : (past : Past) (d : ℕ) (c : CallId) → resuming_thread past d c.0 ≡ None → why_not_asleep past d (act.Resume c) ≡ Some (why.NotWaiting c)
unfolding why_not_asleep why_if
not_waiting past d c q = ap (λ (o : Option ℕ). if is_none o then Some (why.NotWaiting c) else None) q

pub takes_in : (past : Past) (d : ℕ) (c : CallId) (t : ThreadId) → taking_thread past d c.0 ≡ Some t.0 → choice_thread past d (act.Take c) ≡ Some t.0
unfolding choice_thread
takes_in past d c t q = q

pub not_taken : (past : Past) (d : ℕ) (c : CallId) (w : Why) → why_not_take past d c.0 ≡ Some w → why_not_asleep past d (act.Take c) ≡ Some w
unfolding why_not_asleep
not_taken past d c w q = q
