-- What is known of calls that were made, and of the acts that take, answer and resume them.
use Rattle.std.proofs.Common.{◌≡◌, refl, sym, ◌∙◌, ap, ℕ, ◌≤◌, Bool, true, false, not, ◌&&◌, [], ◌∷◌, Option, Some, None, is_some, arith, if◌then◌else◌, inl, inr}
use Rattle.jx_base.specs.declared.act.Act.{Act}
use Rattle.jx_base.specs.declared.act.Act.TheVariants as act
use Rattle.jx_base.specs.declared.act.Entry.{Entry}
use Rattle.jx_base.specs.declared.ids.CallId.{CallId}
use Rattle.jx_base.specs.declared.program.System.{System}
use Rattle.jx_base.specs.Basics.{passes}
use Rattle.jx_base.specs.Histories.{Past, nth_entry}
use Rattle.jx_model.specs.Domains.{is_made, is_live}
use Rattle.jx_model.specs.Calls.{is_call, asked_by, queued_as, calls_made, call_entry, caller_of, has_live_caller, is_take_of, is_answer_to, is_resume_of, first_since, answer_of, is_resumed, is_resumable}
use Rattle.jx_model.specs.Permits.{acting_thread, is_zero_act, domain_thread, may_perform, is_choice, choice_thread, resuming_thread, is_halt, zero_may, is_waiting_for}
use Rattle.jx_model.specs.Threads.{running_thread, thread_where}
use Rattle.jx_model.specs.Legal.{IsNext, IsAdmittedPast}
use Rattle.jx_base.proofs.BasicLaws.{both, eq_of}
use Rattle.jx_base.proofs.NthEntries.{nth_passes, nth_there, count_grows}
use Rattle.jx_model.proofs.CallSteps.{entry_made}
use Rattle.jx_model.proofs.Growing.{moment}
use Rattle.jx_model.proofs.Serving.{in_domain, of_none, Answers}
use Rattle.jx_laws.proofs.Basics.{turned, nth_moment}
use Rattle.jx_laws.proofs.Living.{actor_live, live_made, live_before, made_later, made_stays}
use Rattle.std.specs.Option.{option_map, option_or}

-- ---- the acts on calls

-- an act that takes the call
pub take_is : (c : ℕ) (a : Act) → is_take_of c a ≡ true → (k : CallId) × (a ≡ act.Take k) × (k.0 ≡ c)
unfolding is_take_of
take_is c (act.Take k) h = (k, refl, eq_of k.0 c h)
take_is c _ h = cc

-- an act that resumes after the call
pub resume_is : (c : ℕ) (a : Act) → is_resume_of c a ≡ true → (k : CallId) × (a ≡ act.Resume k) × (k.0 ≡ c)
unfolding is_resume_of
resume_is c (act.Resume k) h = (k, refl, eq_of k.0 c h)
resume_is c _ h = cc

-- an act that answers the call
pub answer_is : (c : ℕ) (a : Act) → is_answer_to c a ≡ true → Answers a c
unfolding is_answer_to
answer_is c (act.Return k p) h = record { call = k; parcel = p; is = eq_of k.0 c h; by = inl refl }
answer_is c (act.Throw k p) h = record { call = k; parcel = p; is = eq_of k.0 c h; by = inr refl }
answer_is c _ h = cc

-- ---- calls that were made

-- a call with an entry was made
pub entry_there : (past : Past) (c : ℕ) → is_some (call_entry past c) ≡ true → (1 ≤ c) × (c ≤ calls_made past)
unfolding call_entry
entry_there past c h = by (nth_entry is_call past c) refl h
  where
    by : (o : Option Entry) → nth_entry is_call past c ≡ o → is_some o ≡ true → (1 ≤ c) × (c ≤ calls_made past)
    by None q h = cc
    by (Some x) q h = let k = nth_passes is_call past c x q in (k.1, k.2)

-- a call that was made has its entry
pub entry_is : (past : Past) (c : ℕ) → 1 ≤ c → c ≤ calls_made past → is_some (call_entry past c) ≡ true
unfolding call_entry
entry_is past c l u = nth_there is_call past c l u

-- what came of a call came of one that was made
pub since_there : {A : Type 0} (f : Past → Entry → Option A) (past : Past) (c : ℕ) (x : A) → first_since f past c ≡ Some x → (1 ≤ c) × (c ≤ calls_made past)
unfolding first_since
since_there f [] c x h = cc
since_there {A} f (e ∷ past) c x h = by (first_since f past c) (is_some (call_entry past c)) refl refl h (since_there f past c x)
  where
    more : (1 ≤ c) × (c ≤ calls_made past) → (1 ≤ c) × (c ≤ calls_made (e ∷ past))
    more k = (k.0, omega (arith, k.1, count_grows is_call e past))

    by : (o : Option A) (b : Bool) → first_since f past c ≡ o → is_some (call_entry past c) ≡ b →
        (option_or o (if b then f past e else None)) ≡ Some x →
        (first_since f past c ≡ Some x → (1 ≤ c) × (c ≤ calls_made past)) → (1 ≤ c) × (c ≤ calls_made (e ∷ past))
    by (Some a) b q r h again = more (again (q ∙ h))
    by None true q r h again = more (entry_there past c r)
    by None false q r h again = cc

-- ---- callers

-- a call isn't Domain Zero's
calls_act : (a : Act) → is_some (asked_by a) ≡ true → is_zero_act a ≡ false
unfolding asked_by is_zero_act
calls_act (act.Call k m p) h = refl
calls_act _ h = cc

-- an entry that queues a call is of a live domain
pub call_live : (s : System) (past : Past) (e : Entry) → is_call e ≡ true → IsNext s past e → is_live past e.domain.0 ≡ true
unfolding is_call
call_live s past e h n = actor_live s past e (calls_act e.act (both (is_some (asked_by e.act)) (is_some (queued_as e.reply)) h).0) n

-- who made a call was made
pub caller_made : (s : System) (past : Past) (c d : ℕ) → IsAdmittedPast s past → caller_of past c ≡ Some d → is_made past d ≡ true
unfolding caller_of call_entry
caller_made s past c d a h = by (nth_entry is_call past c) refl h
  where
    by : (o : Option Entry) → nth_entry is_call past c ≡ o → option_map (λ e. e.domain.0) o ≡ Some d → is_made past d ≡ true
    by None q h = cc
    by (Some x) q h =
        let k = nth_moment is_call past c x q in
        let z : x.domain.0 ≡ d = cc (h) in
        let live = call_live s k.before x k.passes (moment s past x k.before a k.moment) in
        ap (is_made past) (sym z)
        ∙ ap (λ (p : Past). is_made p x.domain.0) k.moment.1
        ∙ made_later k.moment.0 (x ∷ k.before) x.domain.0 (made_stays x k.before x.domain.0 (live_made k.before x.domain.0 live))

-- a call keeps its caller
pub caller_kept : (e : Entry) (past : Past) (c : ℕ) → c ≤ calls_made past → caller_of (e ∷ past) c ≡ caller_of past c
unfolding caller_of
caller_kept e past c u = ap (option_map (λ e. e.domain.0)) (entry_made e past c u)

-- a call whose caller is live now had a live caller before
pub caller_before : (s : System) (e : Entry) (past : Past) (c : ℕ) → IsAdmittedPast s past → c ≤ calls_made past → has_live_caller (e ∷ past) c ≡ true → has_live_caller past c ≡ true
unfolding has_live_caller passes
caller_before s e past c a u h = by (caller_of past c) refl (ap (passes (is_live (e ∷ past))) (sym (caller_kept e past c u)) ∙ h)
  where
    by : (o : Option ℕ) → caller_of past c ≡ o → passes (is_live (e ∷ past)) o ≡ true → passes (is_live past) (caller_of past c) ≡ true
    by None q h = cc
    by (Some d) q h = ap (passes (is_live past)) q ∙ live_before e past d (caller_made s past c d a q) h

-- ---- resumes

-- what a test chooses it chose by passing
chosen : {A : Type 0} (b : Bool) (t : A) (x : Option A) → (if b then x else None) ≡ Some t → b ≡ true
chosen true t x h = refl
chosen false t x h = cc

-- the call of a resume is answered, its caller lives and hasn't gone on after it
pub record Resumes (past : Past) (c : ℕ) : Type 0 where
  pub answered : is_some (answer_of past c) ≡ true
  pub caller : has_live_caller past c ≡ true
  pub waiting : is_resumed past c ≡ false

-- a call that can be resumed is answered, and its caller lives and waits
pub resumable : (past : Past) (c : ℕ) → is_resumable past c ≡ true → Resumes past c
unfolding is_resumable
resumable past c h =
    let x = both (is_some (answer_of past c) && has_live_caller past c) (not (is_resumed past c)) h in
    let y = both (is_some (answer_of past c)) (has_live_caller past c) x.0 in
    record { answered = y.0; caller = y.1; waiting = turned (is_resumed past c) x.1 }

-- a resume is permitted where its call can be resumed
pub resumes : (s : System) (past : Past) (d t : ℕ) (c : CallId) → acting_thread s past d (act.Resume c) ≡ Some t → is_resumable past c.0 ≡ true
unfolding is_halt zero_may domain_thread may_perform is_zero_act is_choice choice_thread resuming_thread
resumes s past d t c h =
    let n = of_none (running_thread past d) (is_live past d) t (if is_resumable past c.0 then thread_where past d (is_waiting_for c.0) else None) (in_domain s past d t (act.Resume c) refl refl h).1 in
    chosen (is_resumable past c.0) t (thread_where past d (is_waiting_for c.0)) n.2

-- the facts of a resume, at its own moment
pub resume_at : (s : System) (past : Past) (e : Entry) (c : CallId) → IsNext s past e → e.act ≡ act.Resume c → Resumes past c.0
resume_at s past e c n q = resumable past c.0 (resumes s past e.domain.0 e.thread.0 c (ap (acting_thread s past e.domain.0) (sym q) ∙ n.thread))
