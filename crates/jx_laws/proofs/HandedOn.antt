-- Each parcel that is handed over was sent by a domain that held all that is in it.
use Rattle.std.proofs.Common.{◌≡◌, refl, sym, ◌∙◌, ap, subst, ℕ, Bool, true, false, [], ◌∷◌, length, Option, Some, None, is_some, ◌==◌, if◌then◌else◌, ◌⊎◌, inl, inr, IsTrue}
use Rattle.jx_base.specs.declared.act.Act.{Act}
use Rattle.jx_base.specs.declared.act.Act.TheVariants as act
use Rattle.jx_base.specs.declared.act.Reply.{Reply}
use Rattle.jx_base.specs.declared.act.Reply.TheVariants as reply
use Rattle.jx_base.specs.declared.act.Refusal.TheVariants as refusal
use Rattle.jx_base.specs.declared.act.Entry.{Entry}
use Rattle.jx_base.specs.declared.ids.CallId.{CallId}
use Rattle.jx_base.specs.declared.ids.MethodId.{MethodId}
use Rattle.jx_base.specs.declared.ids.ServiceId.{ServiceId}
use Rattle.jx_base.specs.declared.value.Parcel.{Parcel}
use Rattle.jx_base.specs.declared.program.System.{System}
use Rattle.jx_base.specs.Histories.{Past, is_done, nth_entry}
use Rattle.jx_model.specs.Moments.{IsMoment}
use Rattle.jx_model.specs.Portals.{received_parcel}
use Rattle.jx_model.specs.Calls.{Asked, Answer, is_call, asked_by, call_entry, asked_of, first_since, answer_of, answered_by, answered_by_act, answer_by_reply, refused_answer, thrown, ends_server}
use Rattle.jx_model.specs.Replies.{reply_to, job_of, or_done, answer_reply, sent_back, holds_all}
use Rattle.jx_model.specs.Legal.{IsNext, IsAdmittedPast}
use Rattle.jx_model.proofs.Growing.{moment, before_admitted}
use Rattle.jx_laws.specs.Handed.{WasSent, ParcelsWereHeld}
use Rattle.jx_laws.proofs.Basics.{unturned, nth_moment, moment_more}
use Rattle.jx_laws.proofs.Standing.{IsCallAct, queued_at}
use Rattle.std.specs.Option.{option_and_then, option_or}
use Rattle.jx_model.proofs.DoneReplies.{undone}

-- ---- parcels of calls

-- the parcel of a call is what it asks
parcel_of : (k : ServiceId) (m : MethodId) (p : Parcel) (x : Asked) → asked_by (act.Call k m p) ≡ Some x → p ≡ x.parcel
unfolding asked_by
parcel_of k m p x h = let q : (let y : Asked = record { service = k; method = m; parcel = p } in y) ≡ x = cc (h) in ap (λ (y : Asked). y.parcel) q

-- a call asks its own parcel
asked_call : (a : Act) (x : Asked) (y : IsCallAct a) → asked_by a ≡ Some x → y.parcel ≡ x.parcel
asked_call a x y h = parcel_of y.service y.method y.parcel x (ap asked_by (sym y.is) ∙ h)

-- what a call asked stands in its entry
asked_parts : (past : Past) (c : ℕ) (a : Asked) → asked_of past c ≡ Some a → (x : Entry) × (nth_entry is_call past c ≡ Some x) × (asked_by x.act ≡ Some a)
unfolding asked_of call_entry
asked_parts past c a h = by (nth_entry is_call past c) refl h
  where
    by : (o : Option Entry) → nth_entry is_call past c ≡ o → option_and_then (λ e. asked_by e.act) o ≡ Some a → (x : Entry) × (nth_entry is_call past c ≡ Some x) × (asked_by x.act ≡ Some a)
    by None q h = cc
    by (Some x) q h = (x, q, h)

-- what a call asked was sent by a domain that held it
pub asked_sent : (s : System) (past : Past) (c : ℕ) (a : Asked) → IsAdmittedPast s past → asked_of past c ≡ Some a → WasSent past a.parcel
asked_sent s past c a h q =
    let x = asked_parts past c a q in
    let m = nth_moment is_call past c x.0 x.1 in
    let k = queued_at s m.before x.0 (moment s past x.0 m.before h m.moment) m.passes in
    record {
      entry = x.0;
      before = m.before;
      moment = m.moment;
      held = subst (λ (p : Parcel). IsTrue (holds_all m.before x.0.domain.0 p)) (asked_call x.0.act a k.asks x.2) k.goes.parcel;
    }

-- ---- parcels of answers

-- what came of a call came by an entry
pub record CameBy {A : Type 0} (f : Past → Entry → Option A) (past : Past) (a : A) : Type 0 where
  pub entry : Entry
  pub before : Past
  pub moment : IsMoment past entry before
  pub gives : f before entry ≡ Some a

-- what came of a call came by an entry of the past
pub since_moment : {A : Type 0} (f : Past → Entry → Option A) (past : Past) (c : ℕ) (a : A) → first_since f past c ≡ Some a → CameBy f past a
unfolding first_since
since_moment f [] c a h = cc
since_moment {A} f (e ∷ past) c a h = by (first_since f past c) (is_some (call_entry past c)) refl h (since_moment f past c a)
  where
    by : (o : Option A) (b : Bool) → first_since f past c ≡ o → (option_or o (if b then f past e else None)) ≡ Some a →
        (first_since f past c ≡ Some a → CameBy f past a) → CameBy f (e ∷ past) a
    by (Some x) b q h again =
        let k = again (q ∙ h) in record { entry = k.entry; before = k.before; moment = moment_more e k.entry past k.before k.moment; gives = k.gives }
    by None true q h again = record { entry = e; before = past; moment = ([], refl); gives = h }
    by None false q h again = cc

-- the answer carries the parcel
abbrev pub Carries : Answer → Parcel → Type 0
Carries a p = (a ≡ Answer.Value p) ⊎ (a ≡ Answer.Thrown p)

-- an answer with a parcel is of a done reply
done_carries : (r : Reply) (a : Answer) (p : Parcel) → Carries (answer_by_reply r a) p → (is_done r ≡ true) × Carries a p
unfolding answer_by_reply refused_answer is_done
done_carries (reply.Refused refusal.Discarded) a p (inl h) = cc
done_carries (reply.Refused refusal.Discarded) a p (inr h) = cc
done_carries (reply.Refused _) a p (inl h) = cc
done_carries (reply.Refused _) a p (inr h) = cc
done_carries _ a p h = (refl, h)

-- a value carries its parcel
value_carries : (q p : Parcel) → Carries (Answer.Value q) p → q ≡ p
value_carries q p (inl h) = cc (h)
value_carries q p (inr h) = cc

-- an exception carries its parcel
thrown_carries : (q p : Parcel) → Carries (thrown q) p → q ≡ p
unfolding thrown
thrown_carries q p h = by (length q.roots == 0) h
  where
    by : (b : Bool) → Carries (if b then Answer.CopyFailed else Answer.Thrown q) p → q ≡ p
    by true (inl h) = cc
    by true (inr h) = cc
    by false (inl h) = cc
    by false (inr h) = cc (h)

-- a done return or throw sends a parcel of what its domain held
pub back_held : (s : System) (past : Past) (d c : ℕ) (p : Parcel) → is_done (sent_back s past d c p) ≡ true → holds_all past d p ≡ true
unfolding sent_back
back_held s past d c p h = unturned (holds_all past d p) (undone _ _ _ (undone _ _ _ h).1).0

-- what a test answers
answers_if : (b : Bool) (x y : Answer) → (if b then Some x else None) ≡ Some y → x ≡ y
answers_if true x y h = cc
answers_if false x y h = cc

-- what an act's answer carries, its domain held
act_held : (s : System) (past : Past) (d c : ℕ) (a : Act) (r : Reply) (x : Answer) (p : Parcel) → r ≡ reply_to s past d a → answered_by_act c a r ≡ Some x → Carries x p → holds_all past d p ≡ true
unfolding answered_by_act reply_to
act_held s past d c (act.Return k q) r x p e h w =
    let z = answers_if (k.0 == c) (answer_by_reply r (Answer.Value q)) x h in
    let y = done_carries r (Answer.Value q) p (subst (λ (n : Answer). Carries n p) (sym z) w) in
    ap (holds_all past d) (sym (value_carries q p y.1)) ∙ back_held s past d k.0 q (ap is_done (sym e) ∙ y.0)
act_held s past d c (act.Throw k q) r x p e h w =
    let z = answers_if (k.0 == c) (answer_by_reply r (thrown q)) x h in
    let y = done_carries r (thrown q) p (subst (λ (n : Answer). Carries n p) (sym z) w) in
    ap (holds_all past d) (sym (thrown_carries q p y.1)) ∙ back_held s past d k.0 q (ap is_done (sym e) ∙ y.0)
act_held s past d c _ r x p e h w = cc

-- an end carries no parcel
ended_carries : {A : Type 0} (x : Answer) (p : Parcel) → Answer.Ended ≡ x → Carries x p → A
ended_carries x p h (inl w) = cc
ended_carries x p h (inr w) = cc

-- what an entry's answer carries, its domain held
entry_held : (s : System) (past : Past) (e : Entry) (c : ℕ) (x : Answer) (p : Parcel) → IsNext s past e → answered_by past e c ≡ Some x → Carries x p → holds_all past e.domain.0 p ≡ true
unfolding answered_by
entry_held s past e c x p n h w = by (answered_by_act c e.act e.reply) refl (ends_server past c e) h
  where
    by : (o : Option Answer) → answered_by_act c e.act e.reply ≡ o → (b : Bool) → (elim o as (λ _. Option Answer) [ Some a ↦ Some a | None ↦ if b then Some Answer.Ended else None ]) ≡ Some x → holds_all past e.domain.0 p ≡ true
    by (Some a) q b h = act_held s past e.domain.0 c e.act e.reply x p n.reply (q ∙ h) w
    by None q true h = let z : Answer.Ended ≡ x = cc (h) in ended_carries x p z w
    by None q false h = cc

-- what an answer carries was sent by a domain that held it
pub answer_sent : (s : System) (past : Past) (c : ℕ) (a : Answer) (p : Parcel) → IsAdmittedPast s past → answer_of past c ≡ Some a → Carries a p → WasSent past p
unfolding answer_of
answer_sent s past c a p h q w =
    let k = since_moment (λ before e. answered_by before e c) past c a q in
    record { entry = k.entry; before = k.before; moment = k.moment; held = entry_held s k.before k.entry c a p (moment s past k.entry k.before h k.moment) k.gives w }

-- ---- what is handed over

-- a take hands over the parcel that was asked
job_parcel : (c : CallId) (o : Option Asked) (p : Parcel) → received_parcel (act.Take c) (job_of o) ≡ Some p → (a : Asked) × (o ≡ Some a) × (a.parcel ≡ p)
unfolding received_parcel job_of
job_parcel c None p h = cc
job_parcel c (Some a) p h = (a, refl, cc (h))

-- a resume hands over the parcel of the answer
resumed_parcel : (c : CallId) (o : Option Answer) (p : Parcel) → received_parcel (act.Resume c) (or_done (option_and_then answer_reply o)) ≡ Some p → (a : Answer) × (o ≡ Some a) × Carries a p
unfolding received_parcel or_done answer_reply
resumed_parcel c None p h = cc
resumed_parcel c (Some (Answer.Value q)) p h = (Answer.Value q, refl, inl (let z : q ≡ p = cc (h) in ap Answer.Value z))
resumed_parcel c (Some (Answer.Thrown q)) p h = (Answer.Thrown q, refl, inr (let z : q ≡ p = cc (h) in ap Answer.Thrown z))
resumed_parcel c (Some Answer.CopyFailed) p h = cc
resumed_parcel c (Some Answer.Ended) p h = cc
resumed_parcel c (Some Answer.Discarded) p h = cc

-- what an act hands over was sent by a domain that held it
received_sent : (s : System) (past : Past) (d : ℕ) (a : Act) (r : Reply) (p : Parcel) → IsAdmittedPast s past → r ≡ reply_to s past d a → received_parcel a r ≡ Some p → WasSent past p
unfolding reply_to received_parcel
received_sent s past d (act.Take c) r p h e q =
    let x = job_parcel c (asked_of past c.0) p (ap (received_parcel (act.Take c)) (sym e) ∙ q) in
    subst (λ (y : Parcel). WasSent past y) x.2 (asked_sent s past c.0 x.0 h x.1)
received_sent s past d (act.Resume c) r p h e q =
    let x = resumed_parcel c (answer_of past c.0) p (ap (received_parcel (act.Resume c)) (sym e) ∙ q) in answer_sent s past c.0 x.0 p h x.1 x.2
received_sent s past d _ r p h e q = cc

-- each parcel that a take or resume hands over was sent before by a domain that held all that is in it
pub parcels_held : (s : System) (whole : Past) → IsAdmittedPast s whole → ParcelsWereHeld whole
parcels_held s whole h e past p m q =
    received_sent s past e.domain.0 e.act e.reply p (before_admitted s whole e past h m) (moment s whole e past h m).reply q
