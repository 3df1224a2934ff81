-- Each call is queued before it is taken, taken before it is answered, and answered before it is resumed.
use Rattle.std.proofs.Common.{◌≡◌, refl, sym, ◌∙◌, ap, subst, ℕ, ◌<◌, ◌≤◌, Bool, true, false, ◌&&◌, ◌||◌, [], ◌∷◌, Option, Some, None, is_some, is_none, arith, ◌==◌, ◌⊎◌, inl, inr}
use Rattle.jx_base.specs.declared.act.Act.{Act}
use Rattle.jx_base.specs.declared.act.Act.TheVariants as act
use Rattle.jx_base.specs.declared.act.Entry.{Entry}
use Rattle.jx_base.specs.declared.ids.CallId.{CallId}
use Rattle.jx_base.specs.declared.program.System.{System}
use Rattle.jx_base.specs.Basics.{passes, is_number}
use Rattle.jx_base.specs.Histories.{Past, is_own}
use Rattle.jx_model.specs.Domains.{is_live, IsLive}
use Rattle.jx_model.specs.Threads.{served_call, served_after, is_of_thread}
use Rattle.jx_model.specs.Calls.{Answer, calls_made, call_entry, service_of_call, server_of, caller_of, queue_head, answer_of, answered_by, first_since, is_unanswered, is_being_served, is_taken, is_take_of, is_answer_to, is_resume_of}
use Rattle.jx_model.specs.Permits.{acting_thread, is_head}
use Rattle.jx_model.specs.Tables.{calling_thread}
use Rattle.jx_model.specs.Legal.{IsNext, IsAdmittedPast}
use Rattle.jx_base.proofs.BasicLaws.{ap2, both, same_number}
use Rattle.jx_model.proofs.CallSteps.{taken_made, answer_made, since_new}
use Rattle.jx_model.proofs.Growing.{moment, before_admitted}
use Rattle.jx_model.proofs.Serving.{take_at, is_it, Answers, answers_it, served, served_once, served_owned, unanswered, not_ended_yet}
use Rattle.jx_laws.specs.Order.{IsTakenInTurn, IsAnsweredInTurn, IsResumedInTurn, CallsGoInOrder, ServedByOneThread}
use Rattle.jx_laws.proofs.Basics.{clash, none_of, value_of, within_or_above}
use Rattle.jx_laws.proofs.CallFacts.{since_there, take_is, resume_is, answer_is, entry_is}
use Rattle.jx_laws.proofs.Servers.{server_by}
use Rattle.jx_laws.proofs.OneAnswer.{answer_at, entry_answers}
use Rattle.jx_laws.proofs.Standing.{open_before, server_lives}
use Rattle.jx_laws.proofs.Threads.{thread_of, IsMadeBy, waiter_made, take_first, resume_waits}
use Rattle.std.specs.Option.{option_and_then, option_map}

-- ---- takes

-- the first of a queue, and its owner
head_first : (past : Past) (d c : ℕ) → is_head past d c ≡ true → (server_of past c ≡ Some d) × (option_and_then (queue_head past) (service_of_call past c) ≡ Some c)
unfolding is_head
head_first past d c h =
    let x = both (is_number (server_of past c) d) (is_number (option_and_then (queue_head past) (service_of_call past c)) c) h in
    (is_it (server_of past c) d x.0, is_it (option_and_then (queue_head past) (service_of_call past c)) c x.1)

-- a take is of a queued call, the first of its queue
take_in_turn : (s : System) (past : Past) (e : Entry) (c : ℕ) → IsNext s past e → is_take_of c e.act ≡ true → IsTakenInTurn past e.domain.0 c
take_in_turn s past e c n h =
    let k = take_is c e.act h in
    let t = take_first s past e.domain.0 e.thread.0 k.0 (ap (acting_thread s past e.domain.0) (sym k.1) ∙ n.thread) in
    let x = head_first past e.domain.0 k.0.0 t.0 in
    let all : IsTakenInTurn past e.domain.0 k.0.0 = record { queued = (take_at s past e k.0 n k.1).queued; first = x.1; server = x.0 } in
    subst (λ (m : ℕ). IsTakenInTurn past e.domain.0 m) k.2 all

-- ---- answers

-- a taken call without an answer is being served
being_served : (past : Past) (c : ℕ) → is_some (call_entry past c) ≡ true → answer_of past c ≡ None → is_taken past c ≡ true → is_being_served past c ≡ true
unfolding is_being_served is_unanswered
being_served past c h i j = by (is_some (call_entry past c)) (answer_of past c) (is_taken past c) h i j
  where
    by : (b : Bool) (o : Option Answer) (t : Bool) → b ≡ true → o ≡ None → t ≡ true → (b && is_none o && t) ≡ true
    by true None true h i j = refl
    by true None false h i j = cc
    by true (Some a) t h i j = cc
    by false o t h i j = cc

-- calls with one number are one
same_call : (k n : CallId) → k.0 ≡ n.0 → k ≡ n
same_call k n q = ap (λ (m : ℕ). let x : CallId = record { 0 = m } in x) q

-- a return or throw is of the call that its thread serves
answer_in_turn : (s : System) (past : Past) (e : Entry) (c : ℕ) → IsAdmittedPast s past → IsNext s past e → is_answer_to c e.act ≡ true → IsAnsweredInTurn past e.domain.0 e.thread.0 c
answer_in_turn s past e c a n h =
    let x = answer_is c e.act h in
    let y = answer_at s past e c a n x in
    record {
      served = being_served past c (entry_is past c y.of.low y.of.high) y.unanswered y.taken;
      server = y.of.server;
      thread = λ k q. answers_it s past e c n x ∙ ap (λ (z : CallId). Some z) (same_call x.call k (x.is ∙ sym q));
    }

-- ---- resumes

-- who made a call, and in which thread
by_caller : (past : Past) (d t c : ℕ) → IsMadeBy past d t c → (caller_of past c ≡ Some d) × (calling_thread past c ≡ Some t)
unfolding caller_of calling_thread
by_caller past d t c x =
    (ap (option_map (λ e. e.domain.0)) x.is ∙ ap (λ (n : ℕ). Some n) x.domain, ap (option_map (λ e. e.thread.0)) x.is ∙ ap (λ (n : ℕ). Some n) x.thread)

-- a resume is by the thread that made the call
resume_in_turn : (s : System) (past : Past) (e : Entry) (c : ℕ) → IsAdmittedPast s past → IsNext s past e → is_resume_of c e.act ≡ true → IsResumedInTurn past e.domain.0 e.thread.0 c
resume_in_turn s past e c a n h =
    let k = resume_is c e.act h in
    let w = resume_waits s past e.domain.0 e.thread.0 k.0 (ap (acting_thread s past e.domain.0) (sym k.1) ∙ n.thread) in
    let x = by_caller past e.domain.0 e.thread.0 k.0.0 (waiter_made s past e.domain.0 e.thread.0 k.0.0 a w.1) in
    let all : IsResumedInTurn past e.domain.0 e.thread.0 k.0.0 = record { resumable = w.0; caller = x.0; thread = x.1 } in
    subst (λ (m : ℕ). IsResumedInTurn past e.domain.0 e.thread.0 m) k.2 all

-- each call is queued before it is taken, taken before it is answered, and answered before it is resumed, each by the right thread
pub calls_in_order : (s : System) (whole : Past) → IsAdmittedPast s whole → CallsGoInOrder whole
calls_in_order s whole h =
    record {
      takes = λ e past c m t. take_in_turn s past e c (moment s whole e past h m) t;
      answers = λ e past c m t. answer_in_turn s past e c (before_admitted s whole e past h m) (moment s whole e past h m) t;
      resumes = λ e past c m t. resume_in_turn s past e c (before_admitted s whole e past h m) (moment s whole e past h m) t;
    }

-- ---- a call is served by one thread

-- a thread of the call's server serves it
pub record HasThread (past : Past) (c : CallId) : Type 0 where
  pub domain : ℕ
  pub thread : ℕ
  pub serves : served_call past domain thread ≡ Some c

-- an entry of another thread leaves what a thread serves
served_other : (e : Entry) (past : Past) (d t : ℕ) → is_of_thread d t e ≡ false → served_call (e ∷ past) d t ≡ served_call past d t
unfolding served_call
served_other e past d t h = ap (λ (b : Bool). elim b as (λ _. Option CallId) [ true ↦ served_after (served_call past d t) e.act | false ↦ served_call past d t ]) h

-- what a thread serves after its own entry
served_own : (e : Entry) (past : Past) (d t : ℕ) → is_of_thread d t e ≡ true → served_call (e ∷ past) d t ≡ served_after (served_call past d t) e.act
unfolding served_call
served_own e past d t h = ap (λ (b : Bool). elim b as (λ _. Option CallId) [ true ↦ served_after (served_call past d t) e.act | false ↦ served_call past d t ]) h

-- what a thread serves after its own act: the same, unless it takes or answers
served_cases : (old : Option CallId) (a : Act) → (served_after old a ≡ old) ⊎ (((k : CallId) × (a ≡ act.Take k)) ⊎ ((k : CallId) × Answers a k.0))
unfolding served_after
served_cases old (act.Take k) = inr (inl (k, refl))
served_cases old (act.Return k p) = inr (inr (k, record { call = k; parcel = p; is = refl; by = inl refl }))
served_cases old (act.Throw k p) = inr (inr (k, record { call = k; parcel = p; is = refl; by = inr refl }))
served_cases old _ = inl refl

-- a thread serves what it took
after_take : (old : Option CallId) (k : CallId) → served_after old (act.Take k) ≡ Some k
unfolding served_after
after_take old k = refl

-- an entry is of its own thread
own_is : (e : Entry) → is_of_thread e.domain.0 e.thread.0 e ≡ true
unfolding is_of_thread is_own
own_is e = same e.domain.0 e.thread.0
  where
    same : (x y : ℕ) → ((x == x) && (y == y)) ≡ true
    same x y = grind arith

-- an act that answers a call passes the test
answers_true : (a : Act) (c : ℕ) → Answers a c → is_answer_to c a ≡ true
unfolding is_answer_to
answers_true a c x = elim x.by [
  | inl q ↦ ap (is_answer_to c) q ∙ ap (λ (n : ℕ). n == c) x.is ∙ same_number c
  | inr q ↦ ap (is_answer_to c) q ∙ ap (λ (n : ℕ). n == c) x.is ∙ same_number c
]

-- a call that was taken was made
pub taken_there : (past : Past) (c : ℕ) → is_taken past c ≡ true → (1 ≤ c) × (c ≤ calls_made past)
unfolding is_taken
taken_there past c h = let x = value_of (first_since _ past c) h in since_there _ past c x.0 x.1

-- a call that wasn't made before the entry isn't taken after it
taken_new : (e : Entry) (past : Past) (c : ℕ) → calls_made past < c → is_taken (e ∷ past) c ≡ false
unfolding is_taken
taken_new e past c h = ap is_some (since_new _ e past c h)

-- the thread that serves a call goes on to until the call is answered
pub serves_on : (s : System) (past : Past) (e : Entry) (c : CallId) → IsAdmittedPast s (e ∷ past) → 1 ≤ c.0 → c.0 ≤ calls_made past → answer_of (e ∷ past) c.0 ≡ None → HasThread past c → HasThread (e ∷ past) c
serves_on s past e c a l u h x = by (is_of_thread x.domain x.thread e) refl
  where
    acted : is_of_thread x.domain x.thread e ≡ true → served_call past e.domain.0 e.thread.0 ≡ Some c
    acted q = let w = thread_of x.domain x.thread e q in ap2 (λ (d t : ℕ). served_call past d t) w.0 w.1 ∙ x.serves

    answers : Answers e.act c.0 → ⊥
    answers z =
        let y = value_of (answered_by past e c.0) (entry_answers past e c.0 (answers_true e.act c.0 z)) in
        let w : answer_of (e ∷ past) c.0 ≡ answered_by past e c.0 =
        answer_made e past c.0 l u ∙ ap (λ (o : Option Answer). elim o as (λ _. Option Answer) [ Some a ↦ Some a | None ↦ answered_by past e c.0 ]) (open_before e past c.0 h) in
        cc (w, y.1, h)

    own : is_of_thread x.domain x.thread e ≡ true → (served_after (served_call past x.domain x.thread) e.act ≡ served_call past x.domain x.thread) ⊎ (((k : CallId) × (e.act ≡ act.Take k)) ⊎ ((k : CallId) × Answers e.act k.0)) →
        HasThread (e ∷ past) c
    own q (inl z) = record { domain = x.domain; thread = x.thread; serves = served_own e past x.domain x.thread q ∙ z ∙ x.serves }
    own q (inr (inl (k, z))) =
        let t = take_first s past e.domain.0 e.thread.0 k (ap (acting_thread s past e.domain.0) (sym z) ∙ a.0.thread) in
        let w = acted q in cc (t.1, w)
    own q (inr (inr (k, z))) =
        let t = answers_it s past e k.0 a.0 z in
        let w = acted q in
        let y : z.call ≡ c = cc (t, w) in
        absurd (answers (subst (λ (n : ℕ). Answers e.act n) (sym z.is ∙ ap (λ (n : CallId). n.0) y) z))

    by : (b : Bool) → is_of_thread x.domain x.thread e ≡ b → HasThread (e ∷ past) c
    by true q = own q (served_cases (served_call past x.domain x.thread) e.act)
    by false q = record { domain = x.domain; thread = x.thread; serves = served_other e past x.domain x.thread q ∙ x.serves }

-- who takes a call serves it
taken_now : (s : System) (past : Past) (e : Entry) (c : CallId) → is_take_of c.0 e.act ≡ true → HasThread (e ∷ past) c
taken_now s past e c h =
    let k = take_is c.0 e.act h in
    record {
      domain = e.domain.0;
      thread = e.thread.0;
      serves =
          served_own e past e.domain.0 e.thread.0 (own_is e)
          ∙ ap (served_after (served_call past e.domain.0 e.thread.0)) k.1
          ∙ after_take (served_call past e.domain.0 e.thread.0) k.0
          ∙ ap (λ (n : CallId). Some n) (same_call k.0 c k.2);
    }

-- nothing is taken in the empty past
never_taken : {A : Type 0} (c : ℕ) → is_taken [] c ≡ true → A
unfolding is_taken first_since
never_taken c h = cc

-- a taken call without an answer is served by a thread
pub has_thread : (s : System) (past : Past) (c : CallId) → IsAdmittedPast s past → is_taken past c.0 ≡ true → answer_of past c.0 ≡ None → HasThread past c
has_thread s [] c a t h = never_taken c.0 t
has_thread s (e ∷ past) c a t h = by (taken_there (e ∷ past) c.0 t) (within_or_above c.0 (calls_made past)) (is_taken past c.0) refl (has_thread s past c a.1)
  where
    now : 1 ≤ c.0 → c.0 ≤ calls_made past → is_taken past c.0 ≡ false → is_take_of c.0 e.act ≡ true
    now l u q = sym (ap (λ (b : Bool). b || is_take_of c.0 e.act) q) ∙ sym (taken_made e past c.0 l u) ∙ t

    by : (1 ≤ c.0) × (c.0 ≤ calls_made (e ∷ past)) → (c.0 ≤ calls_made past) ⊎ (calls_made past < c.0) → (b : Bool) → is_taken past c.0 ≡ b →
        (is_taken past c.0 ≡ true → answer_of past c.0 ≡ None → HasThread past c) → HasThread (e ∷ past) c
    by w (inl u) true q again = serves_on s past e c a w.0 u h (again q (open_before e past c.0 h))
    by w (inl u) false q again = taken_now s past e c (now w.0 u q)
    by w (inr v) b q again = clash (is_taken (e ∷ past) c.0) t (taken_new e past c.0 v)

-- a call that is being served was made and taken and has no answer
served_parts : (past : Past) (c : ℕ) → is_being_served past c ≡ true → (is_some (call_entry past c) ≡ true) × (answer_of past c ≡ None) × (is_taken past c ≡ true)
unfolding is_being_served is_unanswered
served_parts past c h =
    let x = both (is_some (call_entry past c) && is_none (answer_of past c)) (is_taken past c) h in
    let y = both (is_some (call_entry past c)) (is_none (answer_of past c)) x.0 in (y.0, none_of (answer_of past c) y.1, x.1)

-- the server of what a thread serves is the thread's domain
pub served_server : (s : System) (past : Past) (d t : ℕ) (c : CallId) → IsAdmittedPast s past → served_call past d t ≡ Some c → server_of past c.0 ≡ Some d
served_server s past d t c a h = let o = served_owned s past d t c a h in server_by past c.0 o.0 d o.1 o.2

-- the server of a call is live
lives : (past : Past) (c d : ℕ) → server_of past c ≡ Some d → passes (is_live past) (server_of past c) ≡ true → is_live past d ≡ true
unfolding passes
lives past c d h l = ap (passes (is_live past)) (sym h) ∙ l

-- the server of a served call is live
pub thread_lives : (s : System) (past : Past) (d t : ℕ) (c : CallId) → IsAdmittedPast s past → served_call past d t ≡ Some c → answer_of past c.0 ≡ None → is_live past d ≡ true
thread_lives s past d t c a h i =
    let m = served s past d t c a h in
    lives past c.0 d (served_server s past d t c a h) (server_lives s past c.0 a m.low m.high i)

-- a call is served exactly where some thread of a live domain serves it, and then by one thread alone
pub served_by_one : (s : System) (past : Past) → IsAdmittedPast s past → ServedByOneThread past
served_by_one s past a = record { served = λ c. (there c, back c); server = λ d t c h. served_server s past d t c a h; one = λ d t k r c h i. served_once s past d t k r c a h i }
  where
    there : (c : CallId) → is_being_served past c.0 ≡ true → (d : ℕ) × (t : ℕ) × IsLive past d × (served_call past d t ≡ Some c)
    there c h =
        let x = served_parts past c.0 h in
        let y = has_thread s past c a x.2 x.1 in (y.domain, y.thread, thread_lives s past y.domain y.thread c a y.serves x.1, y.serves)

    back : (c : CallId) → (d : ℕ) × (t : ℕ) × IsLive past d × (served_call past d t ≡ Some c) → is_being_served past c.0 ≡ true
    back c (d, t, l, h) =
        let m = served s past d t c a h in
        being_served past c.0 (entry_is past c.0 m.low m.high) (unanswered s past d t c a h (not_ended_yet past d l)) m.taken
