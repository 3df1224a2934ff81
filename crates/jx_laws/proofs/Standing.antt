-- An unanswered call is queued or served, its server lives, and it has a line.
use Rattle.std.proofs.Common.{◌≡◌, refl, sym, ◌∙◌, ap, ℕ, ◌<◌, ◌≤◌, ◌+◌, Bool, true, false, not, ◌&&◌, List, [], ◌∷◌, ◌++◌, Option, Some, None, is_some, is_none, arith, if◌then◌else◌, ◌⊎◌, inl, inr, IsTrue}
use Rattle.std.specs.Prelude.{◌↔◌, codes, decimal}
use Rattle.jx_base.specs.Texts.{line, spaced}
use Rattle.jx_base.specs.declared.act.Act.{Act}
use Rattle.jx_base.specs.declared.act.Act.TheVariants as act
use Rattle.jx_base.specs.declared.act.Reply.{Reply}
use Rattle.jx_base.specs.declared.act.Refusal.{Refusal}
use Rattle.jx_base.specs.declared.act.Reason.{Reason}
use Rattle.jx_base.specs.declared.act.Entry.{Entry}
use Rattle.jx_base.specs.declared.ids.MethodId.{MethodId}
use Rattle.jx_base.specs.declared.ids.ServiceId.{ServiceId}
use Rattle.jx_base.specs.declared.value.Parcel.{Parcel}
use Rattle.jx_base.specs.declared.program.System.{System}
use Rattle.jx_base.specs.Basics.{passes}
use Rattle.jx_base.specs.Histories.{Past, count_where}
use Rattle.jx_model.specs.Domains.{is_live, ended_by, ended_by_act, reason_for}
use Rattle.jx_model.specs.Portals.{owner_of, has_live_owner, holds_portal}
use Rattle.jx_model.specs.Calls.{Answer, is_call, asked_by, queued_as, calls_made, call_entry, asked_of, service_of_call, server_of, answer_of, answered_by, answered_by_act, ends_server, ends_domain, is_unanswered, is_queued, is_being_served, is_taken}
use Rattle.jx_model.specs.Replies.{reply_to, called, holds_all, ◌refuses◌else◌}
use Rattle.jx_model.specs.Legal.{IsNext, IsAdmittedPast}
use Rattle.audit_model.specs.AuditText.{call_line}
use Rattle.jx_laws.specs.Laws.{UnansweredHolds}
use Rattle.jx_base.proofs.BasicLaws.{both, passed}
use Rattle.jx_base.proofs.NthEntries.{nth_new, count_new, count_same}
use Rattle.jx_model.proofs.CallSteps.{answer_made}
use Rattle.jx_laws.proofs.Basics.{none_of, within_or_above}
use Rattle.jx_laws.proofs.Living.{live_stays, reasonless}
use Rattle.jx_laws.proofs.CallFacts.{entry_there}
use Rattle.jx_laws.proofs.Servers.{server_by, server_stays}
use Rattle.jx_laws.proofs.OneAnswer.{answer_kept}
use Rattle.std.specs.Option.{option_and_then, option_map}
use Rattle.jx_model.proofs.Serving.{owner_kept}

-- ---- what a queued call needed

-- an act that is a call
pub record IsCallAct (a : Act) : Type 0 where
  pub service : ServiceId
  pub method : MethodId
  pub parcel : Parcel
  pub is : a ≡ act.Call service method parcel

-- an act that asks is a call
pub asks : (a : Act) → is_some (asked_by a) ≡ true → IsCallAct a
unfolding asked_by
asks (act.Call k m p) h = record { service = k; method = m; parcel = p; is = refl }
asks _ h = cc

-- a call that is queued is through a held portal of a service whose owner lives, with what its caller holds
pub record IsQueuedFor (past : Past) (d : ℕ) (k : ServiceId) (p : Parcel) : Type 0 where
  pub portal : holds_portal past d k.0 ≡ true
  pub parcel : holds_all past d p ≡ true
  pub owner : has_live_owner past k.0 ≡ true

-- a queued reply passed the first tests
queues : (a b c d e : Bool) (r1 r2 r3 r4 : Refusal) (rest : Reply) →
    is_some (queued_as (not (a && b) refuses r1 else not c refuses r2 else not d refuses r3 else not e refuses r4 else rest)) ≡ true → (a ≡ true) × (b ≡ true) × (c ≡ true)
unfolding ◌refuses◌else◌ queued_as
queues true true true d e r1 r2 r3 r4 rest h = (refl, refl, refl)
queues true true false d e r1 r2 r3 r4 rest h = cc
queues true false c d e r1 r2 r3 r4 rest h = cc
queues false b c d e r1 r2 r3 r4 rest h = cc

-- a queued call passed the tests on its portal, its parcel and its service's owner
pub queued_for : (s : System) (past : Past) (d : ℕ) (k : ServiceId) (m : MethodId) (p : Parcel) → is_some (queued_as (reply_to s past d (act.Call k m p))) ≡ true → IsQueuedFor past d k p
unfolding reply_to called
queued_for s past d k m p h =
    let x = queues (holds_portal past d k.0) (holds_all past d p) (has_live_owner past k.0) _ _ _ _ _ _ _ h in
    record { portal = x.0; parcel = x.1; owner = x.2 }

-- the facts of a queued call, at its own moment
pub record IsQueuedAt (past : Past) (e : Entry) : Type 0 where
  pub asks : IsCallAct e.act
  pub goes : IsQueuedFor past e.domain.0 asks.service asks.parcel

-- the facts of an entry that queues a call
pub queued_at : (s : System) (past : Past) (e : Entry) → IsNext s past e → is_call e ≡ true → IsQueuedAt past e
unfolding is_call
queued_at s past e n h =
    let x = both (is_some (asked_by e.act)) (is_some (queued_as e.reply)) h in
    let a = asks e.act x.0 in
    let r : e.reply ≡ reply_to s past e.domain.0 (act.Call a.service a.method a.parcel) = n.reply ∙ ap (reply_to s past e.domain.0) a.is in
    record { asks = a; goes = queued_for s past e.domain.0 a.service a.method a.parcel (ap (λ (y : Reply). is_some (queued_as y)) (sym r) ∙ x.1) }

-- ---- the server of an unanswered call lives

-- a call ends no domain
call_ends : (d : ℕ) (k : ServiceId) (m : MethodId) (p : Parcel) (r : Reply) → ended_by_act d (act.Call k m p) r ≡ None
unfolding ended_by_act
call_ends d k m p r = refl

-- what ends no domain has no reason
reason_none : (d : ℕ) → reason_for None d ≡ None
unfolding reason_for
reason_none d = refl

-- an entry that calls ends no domain
call_no_end : (e : Entry) (d : ℕ) → IsCallAct e.act → reason_for (ended_by e) d ≡ None
unfolding ended_by
call_no_end e d a =
    ap (λ (x : Option (ℕ × Reason)). reason_for x d) (ap (λ (y : Act). ended_by_act e.domain.0 y e.reply) a.is ∙ call_ends e.domain.0 a.service a.method a.parcel e.reply) ∙ reason_none d

-- the service that a call asks
call_service : (k : ServiceId) (m : MethodId) (p : Parcel) → option_map (λ a. a.service.0) (asked_by (act.Call k m p)) ≡ Some k.0
unfolding asked_by
call_service k m p = refl

-- the service of a new call
pub service_new : (e : Entry) (past : Past) (c : ℕ) → is_call e ≡ true → c ≡ calls_made past + 1 → (a : IsCallAct e.act) → service_of_call (e ∷ past) c ≡ Some a.service.0
unfolding service_of_call asked_of call_entry
service_new e past c h q a =
    ap (λ (o : Option Entry). option_map (λ x. x.service.0) (option_and_then (λ y. asked_by y.act) o)) (nth_new is_call e past c h q)
    ∙ ap (λ (y : Act). option_map (λ x. x.service.0) (asked_by y)) a.is
    ∙ call_service a.service a.method a.parcel

-- a server that is live is there
has_live : (past : Past) (c d : ℕ) → server_of past c ≡ Some d → is_live past d ≡ true → passes (is_live past) (server_of past c) ≡ true
unfolding passes
has_live past c d h l = ap (passes (is_live past)) h ∙ l

-- the server of a call that an entry queues is live after it
pub new_served : (s : System) (past : Past) (e : Entry) (c : ℕ) → IsNext s past e → is_call e ≡ true → c ≡ calls_made past + 1 → passes (is_live (e ∷ past)) (server_of (e ∷ past) c) ≡ true
unfolding has_live_owner
new_served s past e c n h q =
    let x = queued_at s past e n h in
    let o = passed (is_live past) (owner_of past x.asks.service.0) x.goes.owner in
    has_live (e ∷ past) c o.0
    (server_by (e ∷ past) c x.asks.service.0 o.0 (service_new e past c h q x.asks) (owner_kept e past x.asks.service.0 o.0 o.1))
    (live_stays e past o.0 o.2 (call_no_end e o.0 x.asks))

-- an entry that doesn't answer a call doesn't end its server
unended_server : (past : Past) (e : Entry) (c d : ℕ) → server_of past c ≡ Some d → answered_by past e c ≡ None → reason_for (ended_by e) d ≡ None
unfolding answered_by ends_server
unended_server past e c d h a = by (answered_by_act c e.act e.reply) (ends_domain (ended_by e) (server_of past c)) refl a
  where
    by : (o : Option Answer) (b : Bool) → ends_domain (ended_by e) (server_of past c) ≡ b → (elim o as (λ _. Option Answer) [ Some a ↦ Some a | None ↦ if b then Some Answer.Ended else None ]) ≡ None →
        reason_for (ended_by e) d ≡ None
    by (Some x) b q a = cc
    by None true q a = cc
    by None false q a = reasonless (ended_by e) d (ap (ends_domain (ended_by e)) (sym h) ∙ q)

-- the server of a call that stays unanswered stays live
pub still_live : (e : Entry) (past : Past) (c : ℕ) → 1 ≤ c → c ≤ calls_made past → answer_of past c ≡ None → answer_of (e ∷ past) c ≡ None → passes (is_live past) (server_of past c) ≡ true →
    passes (is_live (e ∷ past)) (server_of (e ∷ past) c) ≡ true
still_live e past c l u a b h =
    let o = passed (is_live past) (server_of past c) h in
    let z : answer_of (e ∷ past) c ≡ answered_by past e c =
    answer_made e past c l u ∙ ap (λ (o : Option Answer). elim o as (λ _. Option Answer) [ Some a ↦ Some a | None ↦ answered_by past e c ]) a in
    has_live (e ∷ past) c o.0 (server_stays e past c o.0 u o.1) (live_stays e past o.0 o.2 (unended_server past e c o.0 o.1 (sym z ∙ b)))

-- a call that has no answer after an entry had none before it
pub open_before : (e : Entry) (past : Past) (c : ℕ) → answer_of (e ∷ past) c ≡ None → answer_of past c ≡ None
open_before e past c h = by (answer_of past c) refl
  where
    by : (o : Option Answer) → answer_of past c ≡ o → answer_of past c ≡ None
    by None q = q
    by (Some a) q = let z = answer_kept e past c a q in cc (z, h)

-- no call is made in the empty past
no_calls : (c : ℕ) → 1 ≤ c → c ≤ calls_made [] → ⊥
unfolding count_where
no_calls c l u = omega (arith, l, u)

-- a call that was made has an answer or its server lives
pub server_lives : (s : System) (past : Past) (c : ℕ) → IsAdmittedPast s past → 1 ≤ c → c ≤ calls_made past → answer_of past c ≡ None → passes (is_live past) (server_of past c) ≡ true
server_lives s [] c a l u h = absurd (no_calls c l u)
server_lives s (e ∷ past) c a l u h = by (is_call e) refl (within_or_above c (calls_made past)) (server_lives s past c a.1 l)
  where
    by : (b : Bool) → is_call e ≡ b → (c ≤ calls_made past) ⊎ (calls_made past < c) → (c ≤ calls_made past → answer_of past c ≡ None → passes (is_live past) (server_of past c) ≡ true) →
        passes (is_live (e ∷ past)) (server_of (e ∷ past) c) ≡ true
    by b q (inl k) again = let o = open_before e past c h in still_live e past c l k o h (again k o)
    by true q (inr k) again = new_served s past e c a.0 q (omega (arith, k, u, count_new is_call e past q))
    by false q (inr k) again = absurd (omega (arith, k, u, count_same is_call e past q))

-- ---- the law

-- an unanswered call was made and has no answer
unanswered_parts : (past : Past) (c : ℕ) → is_unanswered past c ≡ true → (is_some (call_entry past c) ≡ true) × (answer_of past c ≡ None)
unfolding is_unanswered
unanswered_parts past c h = let x = both (is_some (call_entry past c)) (is_none (answer_of past c)) h in (x.0, none_of (answer_of past c) x.1)

-- the server of an unanswered call is live
pub unanswered_live : (s : System) (past : Past) (c : ℕ) → IsAdmittedPast s past → is_unanswered past c ≡ true → passes (is_live past) (server_of past c) ≡ true
unanswered_live s past c a h = let x = unanswered_parts past c h in let m = entry_there past c x.0 in server_lives s past c a m.0 m.1 x.1

-- an unanswered call is queued or served, and no other call is
pub stands : (past : Past) (c : ℕ) → IsTrue (is_unanswered past c) ↔ (IsTrue (is_queued past c) ⊎ IsTrue (is_being_served past c))
unfolding is_queued is_being_served
stands past c = by (is_unanswered past c) (is_taken past c)
  where
    by : (u t : Bool) → (u ≡ true) ↔ (((u && not t) ≡ true) ⊎ ((u && t) ≡ true))
    by true true = (λ h. inr refl, λ h. refl)
    by true false = (λ h. inl refl, λ h. refl)
    by false t = (λ h. cc, λ h. elim h [ inl x ↦ cc | inr x ↦ cc ])

-- a line isn't empty
line_some : {A : Type 0} (words : List (List ℕ)) → line words ≡ [] → A
unfolding line
line_some words h = by (spaced words) h
  where
    by : {A : Type 0} (xs : List ℕ) → xs ++ codes "\n" ≡ [] → A
    by [] h = cc
    by (x ∷ xs) h = cc

-- a call has no line exactly where it is not unanswered
pub has_line : (past : Past) (c : ℕ) → is_unanswered past c ≡ false ↔ (call_line past c ≡ [])
unfolding is_queued is_being_served call_line
has_line past c = by (is_unanswered past c) (is_taken past c) (decimal c ∷ codes "queued" ∷ []) (decimal c ∷ codes "running" ∷ [])
  where
    by : (u t : Bool) (xs ys : List (List ℕ)) → (u ≡ false) ↔ ((if (u && not t) then line xs else if (u && t) then line ys else []) ≡ [])
    by true true xs ys = (λ h. cc, λ h. line_some ys h)
    by true false xs ys = (λ h. cc, λ h. line_some xs h)
    by false t xs ys = (λ h. refl, λ h. refl)

-- a call is unanswered exactly where it is queued or served; then its server lives and it has a line
pub unanswered_holds : (s : System) (past : Past) → IsAdmittedPast s past → UnansweredHolds past
unanswered_holds s past a = record { standing = stands past; live = λ c h. unanswered_live s past c a h; listed = has_line past }
