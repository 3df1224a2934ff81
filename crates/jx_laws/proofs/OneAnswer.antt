-- Each call has at most one take, one return or throw and one resume.
use Rattle.std.proofs.Common.{◌≡◌, refl, sym, ◌∙◌, ap, subst, ℕ, ◌≤◌, Bool, true, false, not, [], ◌∷◌, Option, Some, None, is_some, arith, if◌then◌else◌, inl, inr, IsTrue}
use Rattle.jx_base.specs.declared.act.Act.{Act}
use Rattle.jx_base.specs.declared.act.Act.TheVariants as act
use Rattle.jx_base.specs.declared.act.Reply.{Reply}
use Rattle.jx_base.specs.declared.act.Entry.{Entry}
use Rattle.jx_base.specs.declared.program.System.{System}
use Rattle.jx_base.specs.Histories.{Past}
use Rattle.jx_model.specs.Moments.{IsMoment, NonePasses}
use Rattle.jx_model.specs.Calls.{Answer, calls_made, call_entry, first_since, is_take_of, is_answer_to, is_resume_of, is_taken, is_resumed, answer_of, answered_by, answered_by_act, ends_server, is_queued, is_unanswered}
use Rattle.jx_model.specs.Permits.{is_zero_act}
use Rattle.jx_model.specs.Legal.{IsNext, IsAdmittedPast}
use Rattle.jx_laws.specs.Laws.{OneAnswerHolds, IsUntouched, IsOpen, IsFirstResume}
use Rattle.jx_base.proofs.BasicLaws.{both}
use Rattle.jx_model.proofs.CallSteps.{taken_made, resumed_made, answer_made}
use Rattle.jx_model.proofs.Growing.{moment, before_admitted}
use Rattle.jx_model.proofs.Serving.{take_at, Answers, answers_it, served, served_owned, unanswered, not_ended_yet}
use Rattle.jx_laws.proofs.Basics.{fails, clash, turned, value_of, none_more, or_second}
use Rattle.jx_laws.proofs.Living.{actor_live}
use Rattle.jx_laws.proofs.CallFacts.{take_is, resume_is, answer_is, since_there, resume_at}
use Rattle.jx_laws.proofs.Servers.{IsOf, taken_of, server_whole, server_open, server_by}
use Rattle.jx_laws.proofs.Copies.{resume_copies}
use Rattle.std.specs.Option.{option_or}

-- ---- what came of a call stays

-- what came of a call first stays the first
pub since_kept : {A : Type 0} (f : Past → Entry → Option A) (e : Entry) (past : Past) (c : ℕ) (x : A) → first_since f past c ≡ Some x → first_since f (e ∷ past) c ≡ Some x
unfolding first_since
since_kept {A} f e past c x h = ap (λ (o : Option A). option_or o (if is_some (call_entry past c) then f past e else None)) h

-- that something came of a call stays so
some_kept : {A : Type 0} (f : Past → Entry → Option A) (e : Entry) (past : Past) (c : ℕ) → is_some (first_since f past c) ≡ true → is_some (first_since f (e ∷ past) c) ≡ true
some_kept f e past c h = let x = value_of (first_since f past c) h in ap is_some (since_kept f e past c x.0 x.1)

-- a taken call stays taken
pub taken_kept : (e : Entry) (past : Past) (c : ℕ) → is_taken past c ≡ true → is_taken (e ∷ past) c ≡ true
unfolding is_taken
taken_kept e past c h = some_kept _ e past c h

-- a resumed call stays resumed
pub resumed_kept : (e : Entry) (past : Past) (c : ℕ) → is_resumed past c ≡ true → is_resumed (e ∷ past) c ≡ true
unfolding is_resumed
resumed_kept e past c h = some_kept _ e past c h

-- a call keeps its answer
pub answer_kept : (e : Entry) (past : Past) (c : ℕ) (a : Answer) → answer_of past c ≡ Some a → answer_of (e ∷ past) c ≡ Some a
unfolding answer_of
answer_kept e past c a h = since_kept _ e past c a h

-- an answered call was made
pub answered_there : (past : Past) (c : ℕ) → is_some (answer_of past c) ≡ true → (1 ≤ c) × (c ≤ calls_made past)
unfolding answer_of
answered_there past c h = let x = value_of (answer_of past c) h in since_there _ past c x.0 x.1

-- ---- no entry touched a call that stands

-- a queued call isn't taken
pub queued_untaken : (past : Past) (c : ℕ) → is_queued past c ≡ true → is_taken past c ≡ false
unfolding is_queued
queued_untaken past c h = turned (is_taken past c) (both (is_unanswered past c) (not (is_taken past c)) h).1

-- what was not taken, no entry takes
pub untaken_none : (s : System) (past : Past) (c : ℕ) → IsAdmittedPast s past → is_taken past c ≡ false → NonePasses (λ f. is_take_of c f.act) past
untaken_none s [] c a h = refl
untaken_none s (e ∷ past) c a h =
    none_more (λ f. is_take_of c f.act) e past (fails (is_take_of c e.act) now) (untaken_none s past c a.1 (fails (is_taken past c) before))
  where
    now : is_take_of c e.act ≡ true → ⊥
    now t =
        let k = take_is c e.act t in
        let x = take_at s past e k.0 a.0 k.1 in
        clash (is_taken (e ∷ past) c) (taken_made e past c (omega (arith, x.low, k.2)) (omega (arith, x.high, k.2)) ∙ or_second (is_taken past c) (is_take_of c e.act) t) h

    before : is_taken past c ≡ true → ⊥
    before t = clash (is_taken (e ∷ past) c) (taken_kept e past c t) h

-- what was not resumed, no entry resumes
pub unresumed_none : (s : System) (past : Past) (c : ℕ) → IsAdmittedPast s past → is_resumed past c ≡ false → NonePasses (λ f. is_resume_of c f.act) past
unresumed_none s [] c a h = refl
unresumed_none s (e ∷ past) c a h =
    none_more (λ f. is_resume_of c f.act) e past (fails (is_resume_of c e.act) now) (unresumed_none s past c a.1 (fails (is_resumed past c) before))
  where
    now : is_resume_of c e.act ≡ true → ⊥
    now t =
        let k = resume_is c e.act t in
        let x = answered_there past k.0.0 (resume_at s past e k.0 a.0 k.1).answered in
        clash (is_resumed (e ∷ past) c) (resumed_made e past c (omega (arith, x.0, k.2)) (omega (arith, x.1, k.2)) ∙ or_second (is_resumed past c) (is_resume_of c e.act) t) h

    before : is_resumed past c ≡ true → ⊥
    before t = clash (is_resumed (e ∷ past) c) (resumed_kept e past c t) h

-- an act that answers a call gives it an answer
answers_by : (c : ℕ) (a : Act) (r : Reply) → is_answer_to c a ≡ true → is_some (answered_by_act c a r) ≡ true
unfolding is_answer_to answered_by_act
answers_by c (act.Return k p) r h = rw h refl
answers_by c (act.Throw k p) r h = rw h refl
answers_by c _ r h = cc

-- an entry whose act answers a call gives it an answer
pub entry_answers : (past : Past) (e : Entry) (c : ℕ) → is_answer_to c e.act ≡ true → is_some (answered_by past e c) ≡ true
unfolding answered_by
entry_answers past e c h = by (answered_by_act c e.act e.reply) (answers_by c e.act e.reply h) (ends_server past c e)
  where
    by : (o : Option Answer) → is_some o ≡ true → (b : Bool) → is_some (elim o as (λ _. Option Answer) [ Some a ↦ Some a | None ↦ if b then Some Answer.Ended else None ]) ≡ true
    by None h b = cc
    by (Some a) h b = refl

-- what is answered by an entry is a call of its live domain, and has no answer before it
pub record Answering (past : Past) (d c : ℕ) : Type 0 where
  pub of : IsOf past d c
  pub taken : is_taken past c ≡ true
  pub unanswered : answer_of past c ≡ None

-- a return or throw isn't Domain Zero's
answer_acts : (a : Act) (c : ℕ) → Answers a c → is_zero_act a ≡ false
unfolding is_zero_act
answer_acts a c x = elim x.by [ inl q ↦ ap is_zero_act q ∙ refl | inr q ↦ ap is_zero_act q ∙ refl ]

-- the facts of a return or throw, at its own moment
pub answer_at : (s : System) (past : Past) (e : Entry) (c : ℕ) → IsAdmittedPast s past → IsNext s past e → Answers e.act c → Answering past e.domain.0 c
answer_at s past e c a n x =
    let v = answers_it s past e c n x in
    let made = served s past e.domain.0 e.thread.0 x.call a v in
    let owned = served_owned s past e.domain.0 e.thread.0 x.call a v in
    let live = actor_live s past e (answer_acts e.act c x) n in
    let of : IsOf past e.domain.0 x.call.0 =
    record { low = made.low; high = made.high; live = live; server = server_by past x.call.0 owned.0 e.domain.0 owned.1 owned.2 } in
    let all : Answering past e.domain.0 x.call.0 =
    record { of = of; taken = made.taken; unanswered = unanswered s past e.domain.0 e.thread.0 x.call a v (not_ended_yet past e.domain.0 live) } in
    subst (λ (k : ℕ). Answering past e.domain.0 k) x.is all

-- a call without an answer, no entry answers
pub unanswered_none : (s : System) (past : Past) (c : ℕ) → IsAdmittedPast s past → answer_of past c ≡ None → NonePasses (λ f. is_answer_to c f.act) past
unanswered_none s [] c a h = refl
unanswered_none s (e ∷ past) c a h =
    none_more (λ f. is_answer_to c f.act) e past (fails (is_answer_to c e.act) now) (unanswered_none s past c a.1 (before (answer_of past c) refl))
  where
    before : (o : Option Answer) → answer_of past c ≡ o → o ≡ None
    before None q = refl
    before (Some x) q = let z = answer_kept e past c x q in cc (z, h)

    now : is_answer_to c e.act ≡ true → ⊥
    now t =
        let x = answer_at s past e c a.1 a.0 (answer_is c e.act t) in
        let y = value_of (answered_by past e c) (entry_answers past e c t) in
        let z : answer_of (e ∷ past) c ≡ answered_by past e c =
        answer_made e past c x.of.low x.of.high ∙ ap (λ (o : Option Answer). elim o as (λ _. Option Answer) [ Some a ↦ Some a | None ↦ answered_by past e c ]) x.unanswered in
        cc (z, y.1, h)

-- ---- the law

-- each call has at most one take, one return or throw and one resume, each in its time
pub one_answer : (s : System) (whole : Past) → IsAdmittedPast s whole → OneAnswerHolds whole
one_answer s whole h = record { takes = takes; answers = answers; resumes = resumed }
  where
    takes : (e : Entry) (past : Past) (c : ℕ) → IsMoment whole e past → IsTrue (is_take_of c e.act) → IsUntouched whole c past
    takes e past c m t =
        let a = before_admitted s whole e past h m in
        let k = take_is c e.act t in
        let x = take_at s past e k.0 (moment s whole e past h m) k.1 in
        let o = subst (λ (n : ℕ). IsOf past e.domain.0 n) k.2 (taken_of past e.domain.0 k.0.0 x) in
        let q : is_taken past c ≡ false = ap (is_taken past) (sym k.2) ∙ queued_untaken past k.0.0 x.queued in
        record {
          untaken = untaken_none s past c a q;
          live = server_open whole past c e.domain.0 (server_whole whole e past c e.domain.0 m o.high o.server) o.live;
        }

    answers : (e : Entry) (past : Past) (c : ℕ) → IsMoment whole e past → IsTrue (is_answer_to c e.act) → IsOpen whole c past
    answers e past c m t =
        let a = before_admitted s whole e past h m in
        let x = answer_at s past e c a (moment s whole e past h m) (answer_is c e.act t) in
        record {
          unanswered = unanswered_none s past c a x.unanswered;
          live = server_open whole past c e.domain.0 (server_whole whole e past c e.domain.0 m x.of.high x.of.server) x.of.live;
        }

    resumed : (e : Entry) (past : Past) (c : ℕ) → IsMoment whole e past → IsTrue (is_resume_of c e.act) → IsFirstResume c past e.reply
    resumed e past c m t =
        let a = before_admitted s whole e past h m in
        let n = moment s whole e past h m in
        let k = resume_is c e.act t in
        record {
          waiting = unresumed_none s past c a (ap (is_resumed past) (sym k.2) ∙ (resume_at s past e k.0 n k.1).waiting);
          given = resume_copies s past e c a n t;
        }
