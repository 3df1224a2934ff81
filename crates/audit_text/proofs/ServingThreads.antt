-- The threads of a service: which serve its calls, and that they lie together.
use Rattle.std.proofs.Common.{◌≡◌, refl, sym, ◌∙◌, ap, subst, ℕ, zero, suc, ◌+◌, ◌<◌, ◌≤◌, Bool, true, false, [], ◌∷◌, length, replicate, Option, Some, None, is_some, slice_get, arith, ◌⊎◌, inl, inr, if◌then◌else◌}
use Rattle.std.specs.Option.{option_and_then, option_map}
use Rattle.std.proofs.lemmas.Option.{slice_get_within}
use Rattle.jx_base.specs.declared.act.Act.{Act}
use Rattle.jx_base.specs.declared.act.Act.TheVariants as act
use Rattle.jx_base.specs.declared.act.Entry.{Entry}
use Rattle.jx_base.specs.declared.act.Refusal.TheVariants as refusal
use Rattle.jx_base.specs.declared.act.Reply.{Reply}
use Rattle.jx_base.specs.declared.act.Reply.TheVariants as reply
use Rattle.jx_base.specs.declared.ids.CallId.{CallId}
use Rattle.jx_base.specs.declared.ids.ClassId.{ClassId}
use Rattle.jx_base.specs.declared.ids.ServiceId.{ServiceId}
use Rattle.jx_base.specs.declared.program.System.{System}
use Rattle.jx_base.specs.declared.states.ThreadState.{ThreadState}
use Rattle.jx_base.specs.declared.states.ThreadState.TheVariants as thread
use Rattle.jx_base.specs.Basics.{is_number, passes}
use Rattle.jx_base.specs.Histories.{Past, is_own}
use Rattle.program_model.specs.Limits.{thread_limit}
use Rattle.jx_model.specs.Domains.{is_live}
use Rattle.jx_model.specs.Portals.{is_export, exported_interface, owner_of, services_made}
use Rattle.jx_model.specs.Threads.{service_threads, new_threads, new_threads_of, thread_state, state_by_last, state_after, serving_state, served_call, last_of_thread, running_thread, is_of_thread}
use Rattle.jx_model.specs.Calls.{service_of_call}
use Rattle.jx_model.specs.Permits.{acting_thread, is_halt, zero_may, domain_thread, may_perform, is_zero_act, is_choice, choice_thread, taking_thread, is_head, idle_thread, is_idle_for}
use Rattle.jx_model.specs.Replies.{reply_to, new_service, ◌refuses◌else◌}
use Rattle.jx_model.specs.WellMade.{IsWellMade}
use Rattle.jx_model.specs.Legal.{IsNext, IsAdmittedPast}
use Rattle.jx_base.proofs.BasicLaws.{ap2, eq_of}
use Rattle.jx_base.proofs.NthEntries.{count_new, count_grows}
use Rattle.jx_model.proofs.Acting.{chosen, of_then, where_passes}
use Rattle.jx_model.proofs.CallSteps.{service_made}
use Rattle.jx_model.proofs.Serving.{in_domain, of_none, served, served_before, take_at, owner_kept, is_it}
use Rattle.jx_laws.proofs.Lists.{get_left, get_split, get_none}
use Rattle.jx_laws.proofs.Threads.{thread_of}
use Rattle.audit_text.specs.CallTables.{taken_service, last_take}
use Rattle.audit_text.proofs.CallSteps.{last_take-other, last_take-own}
use Rattle.audit_text.proofs.LastTakes.{IsTakeOf, take_of}

-- ---- idle threads are of their service

-- a thread that is idle after its act was idle before it
idle_after : (k : ℕ) (x : ThreadState) (a : Act) (r : Reply) → is_idle_for k (state_after x a r) ≡ true → is_idle_for k x ≡ true
unfolding state_after is_idle_for
idle_after k x (act.Call s m p) (reply.Queued c) h = cc
idle_after k x act.Yield r h = cc
idle_after k x (act.EndThread c) r h = cc
idle_after k x _ _ h = h

idle_last : (k : ℕ) (x : ThreadState) (o : Option Entry) → is_idle_for k (state_by_last x o) ≡ true → is_idle_for k x ≡ true
unfolding state_by_last
idle_last k x None h = h
idle_last k x (Some e) h = idle_after k x e.act e.reply h

idle_serving : (k : ℕ) (s : ServiceId) (c : Option CallId) → is_idle_for k (serving_state s c) ≡ true → s.0 ≡ k
unfolding serving_state is_idle_for
idle_serving k s None h = eq_of s.0 k h
idle_serving k s (Some c) h = cc

running_idle : (k : ℕ) → is_idle_for k thread.Running ≡ true → ⊥
unfolding is_idle_for
running_idle k h = cc

-- thread t of domain d is one of the service
pub record IsThreadOf (past : Past) (d t k : ℕ) : Type 0 where
  pub place : ℕ
  pub number : t ≡ suc place
  pub service : ServiceId
  pub there : slice_get (service_threads past d) place ≡ Some service
  pub is : service.0 ≡ k

idle_thread_of : (past : Past) (d t k : ℕ) → passes (is_idle_for k) (thread_state past d t) ≡ true → IsThreadOf past d t k
unfolding thread_state passes
idle_thread_of past d zero k h = absurd (running_idle k (idle_last k thread.Running (last_of_thread past d 0) h))
idle_thread_of past d (suc t) k h = by (slice_get (service_threads past d) t) refl h
  where
    by : (o : Option ServiceId) → slice_get (service_threads past d) t ≡ o →
        passes (is_idle_for k) (option_map (λ s. state_by_last (serving_state s (served_call past d (suc t))) (last_of_thread past d (suc t))) o) ≡ true → IsThreadOf past d (suc t) k
    by None q h = cc
    by (Some j) q h =
        record {
          place = t;
          number = refl;
          service = j;
          there = q;
          is = idle_serving k j (served_call past d (suc t)) (idle_last k (serving_state j (served_call past d (suc t))) (last_of_thread past d (suc t)) h);
        }

-- the thread that takes a call is one of the call's service
taking : (s : System) (past : Past) (d t : ℕ) (c : CallId) → acting_thread s past d (act.Take c) ≡ Some t → (k : ℕ) × (service_of_call past c.0 ≡ Some k) × IsThreadOf past d t k
unfolding is_halt zero_may domain_thread may_perform is_zero_act is_choice choice_thread taking_thread idle_thread
taking s past d t c h =
    let n = of_none (running_thread past d) (is_live past d) t (taking_thread past d c.0) (in_domain s past d t (act.Take c) refl refl h).1 in
    let q = chosen (is_head past d c.0) t (option_and_then (idle_thread past d) (service_of_call past c.0)) n.2 in
    let k = of_then (service_of_call past c.0) (idle_thread past d) t q.1 in
    (k.0, k.1, idle_thread_of past d t k.0 (where_passes past d t (is_idle_for k.0) k.2))

-- a thread stays one of its service
thread_stays : (e : Entry) (past : Past) (d t k : ℕ) → IsThreadOf past d t k → IsThreadOf (e ∷ past) d t k
unfolding service_threads
thread_stays e past d t k h =
    record { place = h.place; number = h.number; service = h.service; there = get_left (service_threads past d) (new_threads_of d e) h.place h.service h.there; is = h.is }

-- ---- who serves a call of the service

-- a thread serves a call of its service
pub serving : (s : System) (past : Past) (d t : ℕ) (c : CallId) → IsAdmittedPast s past → served_call past d t ≡ Some c → (k : ℕ) × (service_of_call past c.0 ≡ Some k) × IsThreadOf past d t k
unfolding served_call
serving s [] d t c a h = cc
serving s (e ∷ past) d t c a h = by (served_before e past d t c h) (serving s past d t c a.1)
  where
    by : ((is_of_thread d t e ≡ true) × (e.act ≡ act.Take c)) ⊎ (served_call past d t ≡ Some c) → (served_call past d t ≡ Some c → (k : ℕ) × (service_of_call past c.0 ≡ Some k) × IsThreadOf past d t k) →
        (k : ℕ) × (service_of_call (e ∷ past) c.0 ≡ Some k) × IsThreadOf (e ∷ past) d t k
    by (inl x) again =
        let w = thread_of d t e x.0 in
        let n : acting_thread s past d (act.Take c) ≡ Some t = ap2 (acting_thread s past) (sym w.0) (sym x.1) ∙ a.0.thread ∙ ap (λ (i : ℕ). Some i) w.1 in
        let k = taking s past d t c n in
        (k.0, service_made e past c.0 (take_at s past e c a.0 x.1).high ∙ k.1, thread_stays e past d t k.0 k.2)
    by (inr x) again =
        let k = again x in
        (k.0, service_made e past c.0 (served s past d t c a.1 x).high ∙ k.1, thread_stays e past d t k.0 k.2)

-- the last take of a call of the service is by one of its threads, of the domain that owns it
pub record IsByThread (past : Past) (e : Entry) (k : ℕ) : Type 0 where
  pub owner : owner_of past k ≡ Some e.domain.0
  pub thread : IsThreadOf past e.domain.0 e.thread.0 k

taker_now : (s : System) (past : Past) (e : Entry) (k : ℕ) → IsNext s past e → IsTakeOf past e k → IsByThread (e ∷ past) e k
taker_now s past e k n t =
    let x = take_at s past e t.call n t.is in
    let y = taking s past e.domain.0 e.thread.0 t.call (ap (acting_thread s past e.domain.0) (sym t.is) ∙ n.thread) in
    let p : y.0 ≡ k = cc (y.1, t.service) in
    let q : x.service ≡ k = cc (x.of, t.service) in
    record {
      owner = owner_kept e past k e.domain.0 (ap (owner_of past) (sym q) ∙ is_it (owner_of past x.service) e.domain.0 x.owner);
      thread = thread_stays e past e.domain.0 e.thread.0 k (subst (λ (i : ℕ). IsThreadOf past e.domain.0 e.thread.0 i) p y.2);
    }

pub last_by : (s : System) (past : Past) (k : ℕ) (x : Entry) → IsAdmittedPast s past → last_take past k ≡ Some x → IsByThread past x k
unfolding last_take
last_by s [] k x a h = cc
last_by s (e ∷ past) k x a h = by (is_number (taken_service e.act e.reply) k) refl (last_by s past k x a.1)
  where
    by : (b : Bool) → is_number (taken_service e.act e.reply) k ≡ b → (last_take past k ≡ Some x → IsByThread past x k) → IsByThread (e ∷ past) x k
    by true q again =
        let z : e ≡ x = cc (last_take-own e past k q, h) in
        subst (λ (y : Entry). IsByThread (e ∷ past) y k) z (taker_now s past e k a.0 (take_of s past e k a.0 (is_it (taken_service e.act e.reply) k q)))
    by false q again =
        let y = again (sym (last_take-other e past k q) ∙ h) in
        record { owner = owner_kept e past k x.domain.0 y.owner; thread = thread_stays e past x.domain.0 x.thread.0 k y.thread }

-- ---- the threads of a service lie together

-- a thread that an entry adds is one of at most eight of the service that it exports
record IsAdded (past : Past) (e : Entry) (i k : ℕ) : Type 0 where
  pub few : i < 8
  pub number : k ≡ services_made past + 1
  pub exports : is_export e ≡ true

-- what stands at a place of a list of equals
replicated : (n i : ℕ) (x y : ServiceId) → slice_get (replicate n x) i ≡ Some y → (i < n) × (x ≡ y)
replicated zero i x y h = cc
replicated (suc n) zero x y h = (omega arith, cc)
replicated (suc n) (suc i) x y h = let r = replicated n i x y h in (omega (arith, r.0), r.1)

-- an export that is answered with a service gives it the next number
exported_number : (b : Bool) (j : ServiceId) (c iface : ClassId) (n : ℕ) → reply.Service j c ≡ (b refuses refusal.TooMany else reply.Service (record { 0 = n }) iface) → j.0 ≡ n
unfolding ◌refuses◌else◌
exported_number true j c iface n h = cc
exported_number false j c iface n h = let z : j ≡ record { 0 = n } = cc in ap (λ (y : ServiceId). y.0) z

added_by : (s : System) (past : Past) (d i : ℕ) (y : ServiceId) (a : Act) (r : Reply) → IsWellMade s past a → r ≡ reply_to s past d a → slice_get (new_threads a r) i ≡ Some y →
    (i < 8) × (y.0 ≡ services_made past + 1) × (is_some (exported_interface a r) ≡ true)
unfolding new_threads exported_interface thread_limit reply_to new_service
added_by s past d i y (act.Export iface k) (reply.Service j c) w q h =
    let x = replicated k i j y h in
    (omega (arith, x.0, w.2), ap (λ (z : ServiceId). z.0) (sym x.1) ∙ exported_number _ j c iface (services_made past + 1) q, refl)
added_by s past d i y a r w q h = get_none i y h

added : (s : System) (past : Past) (e : Entry) (d i : ℕ) (y : ServiceId) → IsNext s past e → slice_get (new_threads_of d e) i ≡ Some y → IsAdded past e i y.0
unfolding new_threads_of is_export
added s past e d i y n h = by (is_own d e) h
  where
    by : (b : Bool) → slice_get (if b then new_threads e.act e.reply else []) i ≡ Some y → IsAdded past e i y.0
    by true h = let x = added_by s past e.domain.0 i y e.act e.reply n.well_made n.reply h in record { few = x.0; number = x.1; exports = x.2 }
    by false h = get_none i y h

-- the service of a thread was made
thread_made : (s : System) (past : Past) (d i : ℕ) (y : ServiceId) → IsAdmittedPast s past → slice_get (service_threads past d) i ≡ Some y → y.0 ≤ services_made past
unfolding service_threads
thread_made s [] d i y a h = get_none i y h
thread_made s (e ∷ past) d i y a h = elim (get_split (service_threads past d) (new_threads_of d e) i y h) [
  | inl q ↦ omega (arith, thread_made s past d i y a.1 q, count_grows is_export e past)
  | inr q ↦ let x = added s past e d q.0 y a.0 q.2 in omega (arith, x.number, count_new is_export e past x.exports)
]

-- two threads of one service lie fewer than eight places apart
close : (s : System) (past : Past) (d i j : ℕ) (x y : ServiceId) → IsAdmittedPast s past → slice_get (service_threads past d) i ≡ Some x → slice_get (service_threads past d) j ≡ Some y → x.0 ≡ y.0 → i < j + 8
unfolding service_threads
close s [] d i j x y a h k q = get_none i x h
close s (e ∷ past) d i j x y a h k q = by (get_split (service_threads past d) (new_threads_of d e) i x h) (get_split (service_threads past d) (new_threads_of d e) j y k) (λ u v. close s past d i j x y a.1 u v q)
  where
    by : (slice_get (service_threads past d) i ≡ Some x) ⊎ ((n : ℕ) × (i ≡ length (service_threads past d) + n) × (slice_get (new_threads_of d e) n ≡ Some x)) →
        (slice_get (service_threads past d) j ≡ Some y) ⊎ ((n : ℕ) × (j ≡ length (service_threads past d) + n) × (slice_get (new_threads_of d e) n ≡ Some y)) →
        (slice_get (service_threads past d) i ≡ Some x → slice_get (service_threads past d) j ≡ Some y → i < j + 8) → i < j + 8
    by (inl u) (inl v) again = again u v
    by (inl u) (inr v) again = omega (arith, slice_get_within (service_threads past d) i x u, v.1)
    by (inr u) (inl v) again = absurd (omega (arith, q, (added s past e d u.0 x a.0 u.2).number, thread_made s past d j y a.1 v))
    by (inr u) (inr v) again = omega (arith, u.1, v.1, (added s past e d u.0 x a.0 u.2).few)

pub threads_close : (s : System) (past : Past) (d t r k : ℕ) → IsAdmittedPast s past → IsThreadOf past d t k → IsThreadOf past d r k → t < r + 8
threads_close s past d t r k a x y = omega (arith, x.number, y.number, close s past d x.place y.place x.service y.service a x.there y.there (x.is ∙ sym y.is))

-- a thread of a service is one of the domain's
pub thread_within : (past : Past) (d t k : ℕ) → IsThreadOf past d t k → t ≤ length (service_threads past d)
thread_within past d t k x = omega (arith, x.number, slice_get_within (service_threads past d) x.place x.service x.there)
