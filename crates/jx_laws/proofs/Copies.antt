-- A take gives what its call asked, a resume the answer.
use Rattle.std.proofs.Common.{◌≡◌, refl, sym, ◌∙◌, ap, ℕ, ◌≤◌, Bool, true, false, not, [], ◌∷◌, Option, Some, None, is_some, ◌==◌, if◌then◌else◌, ◌⊎◌, inl, inr}
use Rattle.jx_base.specs.declared.act.Act.{Act}
use Rattle.jx_base.specs.declared.act.Act.TheVariants as act
use Rattle.jx_base.specs.declared.act.Reply.{Reply}
use Rattle.jx_base.specs.declared.act.Reply.TheVariants as reply
use Rattle.jx_base.specs.declared.act.Refusal.TheVariants as refusal
use Rattle.jx_base.specs.declared.act.Entry.{Entry}
use Rattle.jx_base.specs.declared.ids.CallId.{CallId}
use Rattle.jx_base.specs.declared.value.Parcel.{Parcel}
use Rattle.jx_base.specs.declared.program.System.{System}
use Rattle.std.specs.Prelude.{length}
use Rattle.jx_base.specs.Histories.{Past}
use Rattle.jx_model.specs.Calls.{Asked, Answer, asked_of, service_of_call, is_take_of, is_resume_of, answer_of, first_since, calls_made, call_entry, answered_by, answered_by_act, answer_by_reply, refused_answer, thrown, ends_server, has_live_caller}
use Rattle.jx_model.specs.Replies.{reply_to, job_of, answer_reply, or_done, sent_back, ◌refuses◌else◌}
use Rattle.jx_model.specs.Legal.{IsNext, IsAdmittedPast}
use Rattle.jx_laws.specs.Laws.{CopiesHold}
use Rattle.jx_base.proofs.BasicLaws.{eq_of}
use Rattle.jx_model.proofs.Growing.{moment, before_admitted}
use Rattle.jx_model.proofs.Serving.{take_at}
use Rattle.jx_laws.proofs.Basics.{fails, clash, value_of}
use Rattle.jx_laws.proofs.CallFacts.{take_is, resume_is, since_there, entry_there, caller_before, resume_at}
use Rattle.std.specs.Option.{option_and_then, option_map, option_or}

-- ---- takes

-- a job of what was asked is there
job_asked : (o : Option Asked) (n : ℕ) → option_map (λ a. a.service.0) o ≡ Some n → option_map (λ a. job_of (Some a)) o ≡ Some (job_of o)
unfolding job_of
job_asked None n h = cc
job_asked (Some a) n h = refl

-- what a taken call asked is there
asked_there : (past : Past) (c n : ℕ) → service_of_call past c ≡ Some n → option_map (λ a. job_of (Some a)) (asked_of past c) ≡ Some (job_of (asked_of past c))
unfolding service_of_call
asked_there past c n h = job_asked (asked_of past c) n h

-- what a take is answered with
taken_reply : (s : System) (past : Past) (d : ℕ) (k : CallId) → reply_to s past d (act.Take k) ≡ job_of (asked_of past k.0)
unfolding reply_to
taken_reply s past d k = refl

-- a take gives what its call asked
pub take_copies : (s : System) (past : Past) (e : Entry) (c : ℕ) → IsNext s past e → is_take_of c e.act ≡ true → option_map (λ a. job_of (Some a)) (asked_of past c) ≡ Some e.reply
take_copies s past e c n h =
    let k = take_is c e.act h in
    let t = take_at s past e k.0 n k.1 in
    let r : e.reply ≡ job_of (asked_of past k.0.0) = n.reply ∙ ap (reply_to s past e.domain.0) k.1 ∙ taken_reply s past e.domain.0 k.0 in
    ap (λ (x : ℕ). option_map (λ a. job_of (Some a)) (asked_of past x)) (sym k.2) ∙ asked_there past k.0.0 t.service t.of ∙ ap (λ (x : Reply). Some x) (sym r)

-- ---- resumes

-- an answer is discarded only by a reply that says so
discarded_reply : (r : Reply) (a : Answer) → answer_by_reply r a ≡ Answer.Discarded → (a ≡ Answer.Discarded) ⊎ (r ≡ reply.Refused refusal.Discarded)
unfolding answer_by_reply refused_answer
discarded_reply (reply.Refused refusal.Discarded) a h = inr refl
discarded_reply (reply.Refused _) a h = cc
discarded_reply _ a h = inl h

-- the first test alone refuses with discarded
sent_discarded : (l h f : Bool) →
    (not l refuses refusal.Discarded else not h refuses refusal.NotHeld else not f refuses refusal.Unfit else reply.Done) ≡ reply.Refused refusal.Discarded → l ≡ false
unfolding ◌refuses◌else◌
sent_discarded false h f q = refl
sent_discarded true false f q = cc
sent_discarded true true false q = cc
sent_discarded true true true q = cc

-- a return or throw is discarded only where the caller isn't live
back_discarded : (s : System) (past : Past) (d c : ℕ) (p : Parcel) → sent_back s past d c p ≡ reply.Refused refusal.Discarded → has_live_caller past c ≡ false
unfolding sent_back
back_discarded s past d c p h = sent_discarded _ _ _ h

-- no throw is of a discarded answer
no_throw : {A : Type 0} (p : Parcel) → thrown p ≡ Answer.Discarded → A
unfolding thrown
no_throw p h = by (length p.roots == 0) h
  where
    by : {A : Type 0} (b : Bool) → (if b then Answer.CopyFailed else Answer.Thrown p) ≡ Answer.Discarded → A
    by true h = cc
    by false h = cc

-- what a test answers it answers by passing
answers_if : (b : Bool) (x y : Answer) → (if b then Some x else None) ≡ Some y → (b ≡ true) × (x ≡ y)
answers_if true x y h = (refl, cc)
answers_if false x y h = cc

-- an act whose answer is discarded answers a call whose caller is not live
discards : (s : System) (past : Past) (d c : ℕ) (a : Act) (r : Reply) → r ≡ reply_to s past d a → answered_by_act c a r ≡ Some Answer.Discarded → has_live_caller past c ≡ false
unfolding answered_by_act reply_to
discards s past d c (act.Return k p) r q h =
    let x = answers_if (k.0 == c) (answer_by_reply r (Answer.Value p)) Answer.Discarded h in
    let z = eq_of k.0 c x.0 in
    elim (discarded_reply r (Answer.Value p) x.1) [
      | inl y ↦ cc
      | inr y ↦ ap (has_live_caller past) (sym z) ∙ back_discarded s past d k.0 p (sym q ∙ y)
    ]
discards s past d c (act.Throw k p) r q h =
    let x = answers_if (k.0 == c) (answer_by_reply r (thrown p)) Answer.Discarded h in
    let z = eq_of k.0 c x.0 in
    elim (discarded_reply r (thrown p) x.1) [
      | inl y ↦ no_throw p y
      | inr y ↦ ap (has_live_caller past) (sym z) ∙ back_discarded s past d k.0 p (sym q ∙ y)
    ]
discards s past d c _ r q h = cc

-- an entry discards only the answer of a call whose caller isn't live
entry_discards : (s : System) (past : Past) (e : Entry) (c : ℕ) → IsNext s past e → answered_by past e c ≡ Some Answer.Discarded → has_live_caller past c ≡ false
unfolding answered_by
entry_discards s past e c n h = by (answered_by_act c e.act e.reply) refl (ends_server past c e) h
  where
    by : (o : Option Answer) → answered_by_act c e.act e.reply ≡ o → (b : Bool) →
        (elim o as (λ _. Option Answer) [ Some a ↦ Some a | None ↦ if b then Some Answer.Ended else None ]) ≡ Some Answer.Discarded → has_live_caller past c ≡ false
    by (Some a) q b h = discards s past e.domain.0 c e.act e.reply n.reply (q ∙ h)
    by None q true h = cc
    by None q false h = cc

-- a call whose answer is discarded has no live caller
pub discarded : (s : System) (past : Past) (c : ℕ) → IsAdmittedPast s past → answer_of past c ≡ Some Answer.Discarded → has_live_caller past c ≡ false
unfolding answer_of first_since
discarded s [] c a h = cc
discarded s (e ∷ past) c a h =
    by (first_since (λ before e. answered_by before e c) past c) (is_some (call_entry past c)) refl refl h (discarded s past c a.1)
  where
    stays : c ≤ calls_made past → has_live_caller past c ≡ false → has_live_caller (e ∷ past) c ≡ false
    stays u l = fails (has_live_caller (e ∷ past) c) (λ x. clash (has_live_caller past c) (caller_before s e past c a.1 u x) l)

    by : (o : Option Answer) (b : Bool) → first_since (λ before e. answered_by before e c) past c ≡ o → is_some (call_entry past c) ≡ b →
        (option_or o (if b then answered_by past e c else None)) ≡ Some Answer.Discarded →
        (first_since (λ before e. answered_by before e c) past c ≡ Some Answer.Discarded → has_live_caller past c ≡ false) → has_live_caller (e ∷ past) c ≡ false
    by (Some x) b q r h again = stays (since_there (λ before e. answered_by before e c) past c x q).1 (again (q ∙ h))
    by None true q r h again = stays (entry_there past c r).1 (entry_discards s past e c a.0 h)
    by None false q r h again = cc

-- what a resume is answered with
resumed_reply : (s : System) (past : Past) (d : ℕ) (k : CallId) → reply_to s past d (act.Resume k) ≡ or_done (option_and_then answer_reply (answer_of past k.0))
unfolding reply_to
resumed_reply s past d k = refl

-- an answer that isn't discarded is given
given_answer : (x : Answer) → (x ≡ Answer.Discarded → ⊥) → answer_reply x ≡ Some (or_done (answer_reply x))
unfolding answer_reply or_done
given_answer (Answer.Value p) f = refl
given_answer (Answer.Thrown p) f = refl
given_answer Answer.CopyFailed f = refl
given_answer Answer.Ended f = refl
given_answer Answer.Discarded f = absurd (f refl)

-- an answer that is there and isn't discarded is given
given_of : (o : Option Answer) (x : Answer) → o ≡ Some x → (x ≡ Answer.Discarded → ⊥) → option_and_then answer_reply o ≡ Some (or_done (option_and_then answer_reply o))
given_of None x q f = cc
given_of (Some y) x q f = given_answer y (λ z. f (let w : y ≡ x = cc in sym w ∙ z))

-- a resume gives the answer
pub resume_copies : (s : System) (past : Past) (e : Entry) (c : ℕ) → IsAdmittedPast s past → IsNext s past e → is_resume_of c e.act ≡ true → option_and_then answer_reply (answer_of past c) ≡ Some e.reply
resume_copies s past e c a n h =
    let k = resume_is c e.act h in
    let r = resume_at s past e k.0 n k.1 in
    let x = value_of (answer_of past k.0.0) r.answered in
    let y : e.reply ≡ or_done (option_and_then answer_reply (answer_of past k.0.0)) = n.reply ∙ ap (reply_to s past e.domain.0) k.1 ∙ resumed_reply s past e.domain.0 k.0 in
    let kept : x.0 ≡ Answer.Discarded → ⊥ = λ z. clash (has_live_caller past k.0.0) r.caller (discarded s past k.0.0 a (x.1 ∙ ap (λ (w : Answer). Some w) z)) in
    ap (λ (m : ℕ). option_and_then answer_reply (answer_of past m)) (sym k.2) ∙ given_of (answer_of past k.0.0) x.0 x.1 kept ∙ ap (λ (w : Reply). Some w) (sym y)

-- a take gives what its call asked, a resume the answer
pub copies_hold : (s : System) (whole : Past) → IsAdmittedPast s whole → CopiesHold whole
copies_hold s whole h =
    record {
      takes = λ e past c m t. take_copies s past e c (moment s whole e past h m) t;
      resumes = λ e past c m t. resume_copies s past e c (before_admitted s whole e past h m) (moment s whole e past h m) t;
    }
