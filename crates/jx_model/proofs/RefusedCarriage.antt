-- A refused entry leaves what calls carry, who holds what, and the granules in use as they were.
use Rattle.std.proofs.Common.{◌≡◌, refl, sym, ◌∙◌, ap, subst, ℕ, ◌+◌, ◌==◌, ◌++◌, Bool, true, false, not, ◌&&◌, [], ◌∷◌, length, Option, Some, None, is_some, if◌then◌else◌}
use Rattle.std.specs.Prelude.{filter, filter_map, is_none, nat_lt}
use Rattle.std.specs.List.{list_any}
use Rattle.jx_base.specs.declared.act.Act.{Act}
use Rattle.jx_base.specs.declared.act.Act.TheVariants as act
use Rattle.jx_base.specs.declared.act.Reply.TheVariants as reply
use Rattle.jx_base.specs.declared.act.Refusal.{Refusal}
use Rattle.jx_base.specs.declared.act.Refusal.TheVariants as refusal
use Rattle.jx_base.specs.declared.act.Entry.{Entry}
use Rattle.jx_base.specs.declared.ids.CallId.{CallId}
use Rattle.jx_base.specs.declared.program.System.{System}
use Rattle.jx_base.specs.Basics.{contains_number, passes, up_to}
use Rattle.jx_base.specs.Histories.{Past}
use Rattle.jx_base.proofs.BasicLaws.{and_false, eq_of}
use Rattle.jx_model.specs.Domains.{is_live, domains_made, reply_granule}
use Rattle.jx_model.specs.Calls.{Asked, Answer, asked_of, answer_of, call_entry, call_state, call_stage, first_since, has_live_caller, is_answer_to, is_queued, is_resume_of, is_resumed, is_take_of, is_taken, is_unanswered, marked, refused_answer}
use Rattle.jx_model.specs.Granules.{Run, heap_granules, heap_run, heap_runs, extent_granules, extent_run, extent_runs, run_if, used_runs}
use Rattle.jx_model.specs.Growth.{HasSameCalls, HasSameGranules, HasSameObjects, RefusalsChangeNothing}
use Rattle.jx_model.specs.Holding.{answer_objects, carried, carried_by, hold_count, holders, is_extent_in_use, is_of_extent, riders, riding_count}
use Rattle.jx_model.specs.Legal.{IsNext, IsAdmittedPast}
use Rattle.jx_model.specs.MemoryObjects.{Part, allocated_bytes, object_part, objects_made}
use Rattle.jx_base.specs.Basics.{numbered}
use Rattle.jx_model.specs.Permits.{acting_thread}
use Rattle.jx_model.specs.Threads.{served_call}
use Rattle.jx_model.specs.Replies.{reply_to}
use Rattle.jx_model.proofs.Acting.{running_live}
use Rattle.jx_model.proofs.Growing.{moment, before_admitted}
use Rattle.jx_model.proofs.RefusedThreads.{answers, idles, no_result, no_job, same_state, throws_live}
use Rattle.jx_model.proofs.Refusals.{answer_same, asked_same, allocation_same, call_same, caller_same, calls_same, extents_same, holds_same, live_same, objects_same, same_bytes, same_domains, same_services, valid_same}
use Rattle.jx_model.proofs.Serving.{not_ended_yet, returns_it, served, throws_it, unanswered}
use Rattle.std.specs.Option.{option_map, option_or, unwrap_or}

-- an answer of a refusal carries nothing
refused_carries : (r : Refusal) → answer_objects (Some (refused_answer r)) ≡ []
unfolding answer_objects refused_answer
refused_carries refusal.Discarded = refl
refused_carries _ = refl

-- a call that is neither queued nor awaits an answer with objects carries nothing
carries_none : (awaited : Bool) (asked : Option Asked) (answer : Option Answer) → answer_objects answer ≡ [] → carried_by false awaited asked answer ≡ []
unfolding carried_by
carries_none true asked answer h = h
carries_none false asked answer h = refl

-- a call without an answer is in its queue only while it isn't taken
taken_waits : (past : Past) (c : ℕ) → is_taken past c ≡ true → is_queued past c ≡ false
unfolding is_queued
taken_waits past c h = ap (λ (b : Bool). is_unanswered past c && not b) h ∙ and_false (is_unanswered past c)

-- an answered call is in no queue
answered_waits : (past : Past) (c : ℕ) (a : Answer) → answer_of past c ≡ Some a → is_queued past c ≡ false
unfolding is_queued is_unanswered
answered_waits past c a h =
    ap (λ (o : Option Answer). is_some (call_entry past c) && is_none o && not (is_taken past c)) h
    ∙ ap (λ (b : Bool). b && not (is_taken past c)) (and_false (is_some (call_entry past c)))

module _ (s : System) (past : Past) (e : Entry) (r : Refusal) (next : IsNext s past e) (refused : e.reply ≡ reply.Refused r) where
  -- ---- takes and resumes are never refused

  no_take : (a : Act) (c : ℕ) → e.act ≡ a → is_take_of c a ≡ false
  unfolding is_take_of reply_to
  no_take (act.Take k) c q = no_job r (asked_of past k.0) (sym refused ∙ next.reply ∙ ap (reply_to s past e.domain.0) q)
  no_take _ c q = refl

  no_resume : (a : Act) (c : ℕ) → e.act ≡ a → is_resume_of c a ≡ false
  unfolding is_resume_of reply_to
  no_resume (act.Resume k) c q = no_result r (answer_of past k.0) (sym refused ∙ next.reply ∙ ap (reply_to s past e.domain.0) q)
  no_resume _ c q = refl

  -- a mark that the entry doesn't set
  mark_same : (p : Entry → Bool) (c : ℕ) → p e ≡ false →
      is_some (first_since (λ before x. marked (p x)) (e ∷ past) c) ≡ is_some (first_since (λ before x. marked (p x)) past c)
  unfolding first_since marked
  mark_same p c h = by (first_since (λ before x. marked (p x)) past c) (is_some (call_entry past c)) (p e) h
    where
      by : (o : Option (Unit {0})) (b x : Bool) → x ≡ false →
          is_some (option_or o (if b then marked x else None)) ≡ is_some o
      by (Some a) b x q = refl
      by None false x q = refl
      by None true x q = ap (λ (y : Bool). is_some (marked y)) q

  taken_same : (c : ℕ) → is_taken (e ∷ past) c ≡ is_taken past c
  unfolding is_taken
  taken_same c = mark_same (λ x. is_take_of c x.act) c (no_take e.act c refl)

  resumed_same : (c : ℕ) → is_resumed (e ∷ past) c ≡ is_resumed past c
  unfolding is_resumed
  resumed_same c = mark_same (λ x. is_resume_of c x.act) c (no_resume e.act c refl)

  -- ---- calls that the act doesn't answer

  state_same : (c : ℕ) → is_answer_to c e.act ≡ false → call_state (e ∷ past) c ≡ call_state past c
  unfolding call_state
  state_same c h = λ t. call_stage (resumed_same c t) (answer_same s past e r next refused c h t) (taken_same c t)

  queued_same : (c : ℕ) → is_answer_to c e.act ≡ false → is_queued (e ∷ past) c ≡ is_queued past c
  unfolding is_queued is_unanswered
  queued_same c h =
      λ t. is_some (call_same s past e r next refused c t) && is_none (answer_same s past e r next refused c h t) && not (taken_same c t)

  awaited_same : (c : ℕ) → has_live_caller (e ∷ past) c ≡ has_live_caller past c
  unfolding has_live_caller
  awaited_same c = λ t. passes (λ d. live_same s past e r next refused d t) (caller_same s past e r next refused c t)

  unanswered_carries : (c : ℕ) → is_answer_to c e.act ≡ false → carried (e ∷ past) c ≡ carried past c
  unfolding carried
  unanswered_carries c h =
      λ t. carried_by (queued_same c h t) (awaited_same c t && not (resumed_same c t)) (asked_same s past e r next refused c t) (answer_same s past e r next refused c h t)

  -- ---- the call that it answers

  -- what a call that is served carries, without an answer and with that of a refusal: nothing
  served_carries : (c : CallId) → IsAdmittedPast s past → served_call past e.domain.0 e.thread.0 ≡ Some c → is_live past e.domain.0 ≡ true →
      answer_of (e ∷ past) c.0 ≡ Some (refused_answer r) → carried (e ∷ past) c.0 ≡ carried past c.0
  unfolding carried answer_objects
  served_carries c h v l a =
      let k = served s past e.domain.0 e.thread.0 c h v in
      let open_still : answer_of past c.0 ≡ None = unanswered s past e.domain.0 e.thread.0 c h v (not_ended_yet past e.domain.0 l) in
      let new : carried_by false (has_live_caller (e ∷ past) c.0 && not (is_resumed (e ∷ past) c.0)) (asked_of (e ∷ past) c.0) (answer_of (e ∷ past) c.0) ≡ [] =
      carries_none _ _ _ (ap answer_objects a ∙ refused_carries r) in
      let old : carried_by false (has_live_caller past c.0 && not (is_resumed past c.0)) (asked_of past c.0) (answer_of past c.0) ≡ [] =
      carries_none _ _ _ (ap answer_objects open_still) in
      ap (λ (b : Bool). carried_by b (has_live_caller (e ∷ past) c.0 && not (is_resumed (e ∷ past) c.0)) (asked_of (e ∷ past) c.0) (answer_of (e ∷ past) c.0)) (answered_waits (e ∷ past) c.0 _ a)
      ∙ new ∙ sym old
      ∙ sym (ap (λ (b : Bool). carried_by b (has_live_caller past c.0 && not (is_resumed past c.0)) (asked_of past c.0) (answer_of past c.0)) (taken_waits past c.0 k.taken))

  -- so carries each call that the act answers what it did
  answered_carries : (a : Act) (c : ℕ) → e.act ≡ a → IsAdmittedPast s past → is_answer_to c a ≡ true → carried (e ∷ past) c ≡ carried past c
  unfolding is_answer_to
  answered_carries (act.Return k p) c q h i =
      let n = ap (acting_thread s past e.domain.0) (sym q) ∙ next.thread in
      let v = returns_it s past e.domain.0 e.thread.0 k p n in
      subst (λ (c : ℕ). carried (e ∷ past) c ≡ carried past c) (eq_of k.0 c i)
      (served_carries k h v.1 (running_live past e.domain.0 e.thread.0 v.0) (answers s past e r next refused (act.Return k p) q h))
  answered_carries (act.Throw k p) c q h i =
      let n = ap (acting_thread s past e.domain.0) (sym q) ∙ next.thread in
      subst (λ (c : ℕ). carried (e ∷ past) c ≡ carried past c) (eq_of k.0 c i)
      (served_carries k h (throws_it s past e.domain.0 e.thread.0 k p n) (throws_live s past e.domain.0 e.thread.0 k p n) (answers s past e r next refused (act.Throw k p) q h))
  answered_carries _ c q h i = cc

  carried_same : IsAdmittedPast s past → (c : ℕ) → carried (e ∷ past) c ≡ carried past c
  carried_same h c = by (is_answer_to c e.act) refl
    where
      by : (b : Bool) → is_answer_to c e.act ≡ b → carried (e ∷ past) c ≡ carried past c
      by true q = answered_carries e.act c refl h q
      by false q = unanswered_carries c q

  pub same_calls : IsAdmittedPast s past → HasSameCalls e.act past (e ∷ past)
  same_calls h =
      record {
        made = calls_same s past e r next refused;
        asked = asked_same s past e r next refused;
        caller = caller_same s past e r next refused;
        answer = answer_same s past e r next refused;
        state = state_same;
        carried = carried_same h;
      }

  -- ---- memory objects

  riding_same : IsAdmittedPast s past → (m : ℕ) → riding_count (e ∷ past) m ≡ riding_count past m
  unfolding riding_count riders
  riding_same h m = λ t. length (filter (λ c. contains_number (carried_same h c t) m) (up_to (calls_same s past e r next refused t)))

  made_same : domains_made (e ∷ past) ≡ domains_made past
  made_same = (same_domains s past e r next refused).made

  held_same : IsAdmittedPast s past → (m : ℕ) → hold_count (e ∷ past) m ≡ hold_count past m
  unfolding hold_count holders
  held_same h m = λ t. length (filter (λ d. holds_same s past e r next refused d m t) (up_to (made_same t))) + riding_same h m t

  part_same : (m : ℕ) → object_part (e ∷ past) m ≡ object_part past m
  unfolding object_part
  part_same m = λ t. numbered (objects_same s past e r next refused t) m

  in_use_same : IsAdmittedPast s past → (x : ℕ) → is_extent_in_use (e ∷ past) x ≡ is_extent_in_use past x
  unfolding is_extent_in_use is_of_extent objects_made
  in_use_same h x =
      λ t. list_any
      (λ m. passes (λ (o : Part). o.extent == x) (part_same m t) && valid_same s past e r next refused m t && nat_lt 0 (held_same h m t))
      (up_to (length (objects_same s past e r next refused t)))

  pub same_objects : IsAdmittedPast s past → HasSameObjects past (e ∷ past)
  same_objects h =
      record {
        made = objects_same s past e r next refused;
        extents = extents_same s past e r next refused;
        valid = valid_same s past e r next refused;
        held = holds_same s past e r next refused;
        riding = riding_same h;
        in_use = in_use_same h;
      }

  -- ---- granules

  heap_same : (d : ℕ) → heap_run s (e ∷ past) d ≡ heap_run s past d
  unfolding heap_run
  heap_same d =
      let k = same_domains s past e r next refused in
      λ t. (unwrap_or (k.place d t) 0, unwrap_or (option_map (heap_granules s) (k.template d t)) 0)

  heaps_same : heap_runs s (e ∷ past) ≡ heap_runs s past
  unfolding heap_runs run_if
  heaps_same = λ t. filter_map (λ n. if live_same s past e r next refused n t then Some (heap_same n t) else None) (up_to (made_same t))

  run_same : (x : ℕ) → extent_run (e ∷ past) x ≡ extent_run past x
  unfolding extent_run
  run_same x =
      ap (λ (o : Option Entry). elim o as (λ _. Run) [ None ↦ (0, 0) | Some e ↦ (reply_granule e.reply, extent_granules (allocated_bytes e.act)) ])
      (allocation_same s past e r next refused x)

  extents_alike : IsAdmittedPast s past → extent_runs (e ∷ past) ≡ extent_runs past
  unfolding extent_runs run_if
  extents_alike h = λ t. filter_map (λ n. if in_use_same h n t then Some (run_same n t) else None) (up_to (extents_same s past e r next refused t))

  pub same_granules : IsAdmittedPast s past → HasSameGranules s past (e ∷ past)
  unfolding used_runs
  same_granules h = λ t. heaps_same t ++ extents_alike h t

-- each refused entry changes nothing but the answer of its call and its thread
pub refusals_nothing : (s : System) (whole : Past) → IsAdmittedPast s whole → RefusalsChangeNothing s whole
refusals_nothing s whole h e past r m q =
    let n = moment s whole e past h m in
    let before = before_admitted s whole e past h m in
    record {
      domains = same_domains s past e r n q;
      services = same_services s past e r n q;
      objects = same_objects s past e r n q before;
      calls = same_calls s past e r n q before;
      threads = same_state s past e r n q;
      answered = answers s past e r n q e.act refl before;
      idle = idles s past e r n q e.act refl;
      granules = same_granules s past e r n q before;
      bytes = same_bytes s past e r n q;
    }
