-- Where a call stands when an act takes it, answers it or goes on after it.
use Rattle.std.proofs.Common.{◌≡◌, refl, sym, ◌∙◌, ap, subst, ℕ, ◌+◌, ◌≤◌, Bool, true, false, not, ◌&&◌, [], ◌∷◌, Option, Some, None, is_some, is_none, arith, ◌==◌, if◌then◌else◌}
use Rattle.std.proofs.lemmas.Bool.Decides.{nat_tests}
use Rattle.jx_base.specs.declared.act.Act.{Act}
use Rattle.jx_base.specs.declared.act.Act.TheVariants as act
use Rattle.jx_base.specs.declared.act.Reason.{Reason}
use Rattle.jx_base.specs.declared.act.Entry.{Entry}
use Rattle.jx_base.specs.declared.ids.CallId.{CallId}
use Rattle.jx_base.specs.declared.value.Parcel.{Parcel}
use Rattle.jx_base.specs.declared.program.System.{System}
use Rattle.jx_base.specs.declared.states.CallState.{CallState}
use Rattle.jx_base.specs.declared.states.CallState.TheVariants as call
use Rattle.jx_base.specs.Basics.{passes, is_number}
use Rattle.jx_base.specs.Histories.{Past, nth_entry}
use Rattle.jx_model.specs.Domains.{is_live, end_reason, ended_by, reason_for}
use Rattle.jx_model.specs.Threads.{running_thread, thread_where, served_call}
use Rattle.jx_model.specs.Calls.{Answer, is_call, asked_by, queued_as, calls_made, call_entry, caller_of, first_since, marked, answer_of, answered_by, is_taken, is_resumed, is_resume_of, is_resumable, has_live_caller, is_queued, is_unanswered, ends_domain, call_state, call_stage}
use Rattle.jx_model.specs.Permits.{acting_thread, is_halt, zero_may, domain_thread, may_perform, is_zero_act, is_choice, choice_thread, resuming_thread, is_waiting_for}
use Rattle.jx_model.specs.Legal.{IsAdmittedPast}
use Rattle.jx_base.proofs.BasicLaws.{ap3, both, eq_of, and_true}
use Rattle.jx_base.proofs.NthEntries.{nth_there}
use Rattle.jx_model.proofs.CallSteps.{entry_made}
use Rattle.jx_model.proofs.Serving.{in_domain, of_none, served, takes, returns_it, throws_it, unanswered, queued_open, not_ended_yet}
use Rattle.table_threads.proofs.Records.{some_of}
use Rattle.table_threads.proofs.Actors.{IsMade, live_made, made_stays, acts_live, live_by_reason}
use Rattle.std.specs.Option.{option_map, option_or}
use Rattle.jx_model.proofs.Acting.{chosen}

-- ---- resumes

-- what a domain goes on after is answered, for it, and it hasn't gone on yet
pub resumes : (s : System) (past : Past) (d t : ℕ) (c : CallId) → acting_thread s past d (act.Resume c) ≡ Some t → is_resumable past c.0 ≡ true
unfolding is_halt zero_may domain_thread may_perform is_zero_act is_choice choice_thread resuming_thread
resumes s past d t c h =
    let n = of_none (running_thread past d) (is_live past d) t (if is_resumable past c.0 then thread_where past d (is_waiting_for c.0) else None) (in_domain s past d t (act.Resume c) refl refl h).1 in
    (chosen (is_resumable past c.0) t (thread_where past d (is_waiting_for c.0)) n.2).0

-- the parts of a call that can be gone on after
pub resumable_parts : (past : Past) (c : ℕ) → is_resumable past c ≡ true → (is_some (answer_of past c) ≡ true) × (has_live_caller past c ≡ true) × (not (is_resumed past c) ≡ true)
unfolding is_resumable
resumable_parts past c h =
    let x = both (is_some (answer_of past c)) (has_live_caller past c && not (is_resumed past c)) (turn (is_some (answer_of past c)) (has_live_caller past c) (not (is_resumed past c)) ∙ h) in
    let y = both (has_live_caller past c) (not (is_resumed past c)) x.1 in
    (x.0, y.0, y.1)
  where
    turn : (x y z : Bool) → (x && (y && z)) ≡ (x && y && z)
    turn true y z = refl
    turn false y z = refl

answer_kept : (e : Entry) (past : Past) (c : ℕ) → is_some (answer_of past c) ≡ true → is_some (answer_of (e ∷ past) c) ≡ true
unfolding answer_of first_since
answer_kept e past c h = by (first_since (λ before e. answered_by before e c) past c) h
  where
    by : (o : Option Answer) → is_some o ≡ true → is_some (option_or o (if is_some (call_entry past c) then answered_by past e c else None)) ≡ true
    by None h = cc
    by (Some a) h = refl

is_resume : (a : Act) (c : ℕ) → is_resume_of c a ≡ true → (k : CallId) × (a ≡ act.Resume k) × (k.0 ≡ c)
unfolding is_resume_of
is_resume (act.Resume k) c h = (k, refl, eq_of k.0 c h)
is_resume _ c h = cc

-- a call after which its caller went on was answered
pub resumed_answered : (s : System) (past : Past) (c : ℕ) → IsAdmittedPast s past → is_resumed past c ≡ true → is_some (answer_of past c) ≡ true
unfolding is_resumed first_since marked
resumed_answered s [] c a h = cc
resumed_answered s (e ∷ past) c a h =
    by (first_since (λ before e. marked (is_resume_of c e.act)) past c) (is_some (call_entry past c)) (is_resume_of c e.act) refl refl h (resumed_answered s past c a.1)
  where
    by : (o : Option (Unit {0})) (m r : Bool) → first_since (λ before e. marked (is_resume_of c e.act)) past c ≡ o → is_resume_of c e.act ≡ r →
        is_some (option_or o (if m then marked r else None)) ≡ true →
        (is_some (first_since (λ before e. marked (is_resume_of c e.act)) past c) ≡ true → is_some (answer_of past c) ≡ true) → is_some (answer_of (e ∷ past) c) ≡ true
    by (Some u) m r q i h again = answer_kept e past c (again (ap is_some q))
    by None false r q i h again = cc
    by None true false q i h again = cc
    by None true true q i h again =
        let k = is_resume e.act c i in
        let v = (resumable_parts past k.0.0 (resumes s past e.domain.0 e.thread.0 k.0 (ap (acting_thread s past e.domain.0) (sym k.1) ∙ a.0.thread))).0 in
        answer_kept e past c (ap (λ (n : ℕ). is_some (answer_of past n)) (sym k.2) ∙ v)

-- a call without an answer isn't one after which its caller went on
pub not_yet : (s : System) (past : Past) (c : ℕ) → IsAdmittedPast s past → answer_of past c ≡ None → is_resumed past c ≡ false
not_yet s past c a h = by (is_resumed past c) refl
  where
    by : (b : Bool) → is_resumed past c ≡ b → b ≡ false
    by false q = refl
    by true q = let z = resumed_answered s past c a q in cc (z, ap is_some h)

-- ---- where a call stands

-- a call that was queued, with where it stands
pub record StandsAt (past : Past) (c : ℕ) (x : CallState) : Type 0 where
  pub low : 1 ≤ c
  pub high : c ≤ calls_made past
  pub state : call_state past c ≡ x

staged : call_stage false None true ≡ call.Running
unfolding call_stage
staged = refl

waits : call_stage false None false ≡ call.Queued
unfolding call_stage
waits = refl

untaken : (past : Past) (c : ℕ) → is_queued past c ≡ true → is_taken past c ≡ false
unfolding is_queued
untaken past c h = by (is_unanswered past c) (is_taken past c) h
  where
    by : (x y : Bool) → (x && not y) ≡ true → y ≡ false
    by x false h = refl
    by true true h = cc
    by false true h = cc

-- what a live domain's thread serves runs
pub serves_running : (s : System) (past : Past) (d t : ℕ) (c : CallId) → IsAdmittedPast s past → is_live past d ≡ true → served_call past d t ≡ Some c → StandsAt past c.0 call.Running
unfolding call_state
serves_running s past d t c a l r =
    let v = served s past d t c a r in
    let u = unanswered s past d t c a r (not_ended_yet past d l) in
    record { low = v.low; high = v.high; state = ap3 call_stage (not_yet s past c.0 a u) u v.taken ∙ staged }

-- what a return answers runs
pub returns_running : (s : System) (past : Past) (d t : ℕ) (c : CallId) (p : Parcel) → IsAdmittedPast s past → acting_thread s past d (act.Return c p) ≡ Some t → StandsAt past c.0 call.Running
unfolding is_halt zero_may
returns_running s past d t c p a h = serves_running s past d t c a (acts_live s past d t (act.Return c p) refl refl h) (returns_it s past d t c p h).1

-- what a throw answers runs
pub throws_running : (s : System) (past : Past) (d t : ℕ) (c : CallId) (p : Parcel) → IsAdmittedPast s past → acting_thread s past d (act.Throw c p) ≡ Some t → StandsAt past c.0 call.Running
unfolding is_halt zero_may
throws_running s past d t c p a h = serves_running s past d t c a (acts_live s past d t (act.Throw c p) refl refl h) (throws_it s past d t c p h)

-- what a take takes is queued
pub takes_queued : (s : System) (past : Past) (d t : ℕ) (c : CallId) → IsAdmittedPast s past → acting_thread s past d (act.Take c) ≡ Some t → StandsAt past c.0 call.Queued
unfolding call_state
takes_queued s past d t c a h =
    let k = takes s past d t c h in
    let u = queued_open past c.0 k.queued in
    record { low = k.low; high = k.high; state = ap3 call_stage (not_yet s past c.0 a u) u (untaken past c.0 k.queued) ∙ waits }

-- ---- callers

is_asked : (a : Act) → is_some (asked_by a) ≡ true → (is_halt a ≡ false) × ((s : System) (past : Past) → zero_may s past a ≡ false)
unfolding asked_by is_halt zero_may
is_asked (act.Call k m p) h = (refl, λ s past. refl)
is_asked _ h = cc

-- the domain that queued a call was made
pub caller_made : (s : System) (past : Past) (c : ℕ) (x : Entry) → IsAdmittedPast s past → call_entry past c ≡ Some x → IsMade past x.domain.0
unfolding call_entry nth_entry is_call
caller_made s [] c x a h = cc
caller_made s (e ∷ past) c x a h = by (is_call e && (c == count + 1)) refl h (caller_made s past c x a.1)
  where
    count : ℕ
    count = calls_made past

    new : is_call e ≡ true → IsMade past e.domain.0
    new q =
        let k = is_asked e.act (both (is_some (asked_by e.act)) (is_some (queued_as e.reply)) q).0 in
        live_made past e.domain.0 (acts_live s past e.domain.0 e.thread.0 e.act k.0 (k.1 s past) a.0.thread)

    by : (b : Bool) → (is_call e && (c == count + 1)) ≡ b → (elim b as (λ _. Option Entry) [ true ↦ Some e | false ↦ nth_entry is_call past c ]) ≡ Some x → (nth_entry is_call past c ≡ Some x → IsMade past x.domain.0) → IsMade (e ∷ past) x.domain.0
    by true q h again = made_stays e past x.domain.0 (let z : e ≡ x = cc in subst (λ (y : Entry). IsMade past y.domain.0) z (new (both (is_call e) (c == count + 1) q).0))
    by false q h again = made_stays e past x.domain.0 (again h)

-- ---- life after an entry

-- a made domain is live after an entry where it was before and the entry doesn't end it
pub live_after : (e : Entry) (past : Past) (d : ℕ) → IsMade past d → is_live (e ∷ past) d ≡ (is_live past d && not (ends_domain (ended_by e) (Some d)))
unfolding end_reason reason_for ends_domain is_number
live_after e past d m =
    live_by_reason (e ∷ past) d (made_stays e past d m)
    ∙ by (ended_by e) (end_reason past d)
    ∙ ap (λ (b : Bool). b && not (ends_domain (ended_by e) (Some d))) (sym (live_by_reason past d m))
  where
    turned : (x y : ℕ) → (x == y) ≡ (y == x)
    turned x y = grind (arith, nat_tests)

    known : (b : Bool) (r : Reason) (o : Option Reason) → is_none (elim (if b then Some r else None) as (λ _. Option Reason) [ Some y ↦ Some y | None ↦ o ]) ≡ (is_none o && not b)
    known true r None = refl
    known true r (Some y) = refl
    known false r None = refl
    known false r (Some y) = refl

    by : (x : Option (ℕ × Reason)) (o : Option Reason) → is_none (elim (reason_for x d) as (λ _. Option Reason) [ Some r ↦ Some r | None ↦ o ]) ≡ (is_none o && not (ends_domain x (Some d)))
    by None None = refl
    by None (Some r) = refl
    by (Some x) o = known (x.0 == d) x.1 o ∙ ap (λ (b : Bool). is_none o && not b) (turned x.0 d)

-- an entry that ends nobody leaves who lives
pub lives_on : (e : Entry) (past : Past) (d : ℕ) → IsMade past d → ended_by e ≡ None → is_live (e ∷ past) d ≡ is_live past d
unfolding ends_domain
lives_on e past d m n = live_after e past d m ∙ ap (λ (x : Option (ℕ × Reason)). is_live past d && not (ends_domain x (Some d))) n ∙ and_true (is_live past d)

-- whether the caller lives after an entry
pub live_caller_after : (s : System) (e : Entry) (past : Past) (c : ℕ) → IsAdmittedPast s past → c ≤ calls_made past →
    has_live_caller (e ∷ past) c ≡ (has_live_caller past c && not (ends_domain (ended_by e) (caller_of past c)))
unfolding has_live_caller caller_of passes
live_caller_after s e past c a u =
    ap (λ (o : Option Entry). passes (is_live (e ∷ past)) (option_map (λ x. x.domain.0) o)) (entry_made e past c u)
    ∙ by (call_entry past c) refl
  where
    by : (o : Option Entry) → call_entry past c ≡ o →
        passes (is_live (e ∷ past)) (option_map (λ x. x.domain.0) o) ≡ (passes (is_live past) (option_map (λ x. x.domain.0) o) && not (ends_domain (ended_by e) (option_map (λ x. x.domain.0) o)))
    by None q = refl
    by (Some x) q = live_after e past x.domain.0 (caller_made s past c x a q)

-- the caller of a call that was queued
pub caller_there : (past : Past) (c : ℕ) → 1 ≤ c → c ≤ calls_made past → (x : Entry) × (call_entry past c ≡ Some x)
unfolding call_entry
caller_there past c l u = some_of (nth_entry is_call past c) (nth_there is_call past c l u)
