-- The calls of a service are taken in the order of their numbers.
use Rattle.std.proofs.Common.{◌≡◌, ◌≢◌, refl, sym, ◌∙◌, ap, ℕ, zero, suc, ◌+◌, ◌<◌, ◌≤◌, Bool, true, false, not, cond, ◌&&◌, ◌||◌, List, [], ◌∷◌, Option, Some, None, is_some, filter, slice_get, arith, ◌⊎◌, inl, inr, if◌then◌else◌}
use Rattle.std.specs.List.{range_with_len}
use Rattle.std.specs.Option.{option_and_then, option_map, unwrap_or}
use Rattle.jx_base.specs.declared.act.Act.{Act}
use Rattle.jx_base.specs.declared.act.Act.TheVariants as act
use Rattle.jx_base.specs.declared.act.Entry.{Entry}
use Rattle.jx_base.specs.declared.act.Reply.{Reply}
use Rattle.jx_base.specs.declared.act.Reply.TheVariants as reply
use Rattle.jx_base.specs.declared.ids.CallId.{CallId}
use Rattle.jx_base.specs.declared.program.System.{System}
use Rattle.jx_base.specs.Basics.{is_number, up_to}
use Rattle.jx_base.specs.Histories.{Past, count_where, nth_entry}
use Rattle.jx_model.specs.Domains.{is_live, is_made, end_reason, ended_by}
use Rattle.jx_model.specs.Calls.{Answer, Asked, is_call, calls_made, call_entry, asked_of, asked_by, service_of_call, server_of, is_take_of, is_answer_to, answered_by, answered_by_act, ends_domain, ends_server, is_queued, is_taken, waiting_calls, queued_calls, queue_head}
use Rattle.jx_model.specs.Replies.{reply_to, job_of}
use Rattle.jx_model.specs.Legal.{IsNext, IsAdmittedPast}
use Rattle.jx_base.proofs.BasicLaws.{and_false, passed, same_number}
use Rattle.jx_base.proofs.NthEntries.{count_new, count_same, count_grows, nth_passes}
use Rattle.jx_model.proofs.CallSteps.{service_made}
use Rattle.jx_model.proofs.Serving.{Takes, take_at, before_end, is_it, not_ended}
use Rattle.jx_laws.proofs.Basics.{clash, fails, within_or_above}
use Rattle.jx_laws.proofs.CallFacts.{take_is, answer_is}
use Rattle.jx_laws.proofs.InOrder.{calls_in_order}
use Rattle.jx_laws.proofs.Living.{live_made, made_stays}
use Rattle.jx_laws.proofs.OneAnswer.{answer_at, queued_untaken}
use Rattle.jx_laws.proofs.Servers.{server_stays}
use Rattle.jx_laws.proofs.Standing.{new_served}
use Rattle.table_threads.proofs.CallRecords.{queued_made, queued_new, unqueues}
use Rattle.table_threads.proofs.Records.{filter_twice}
use Rattle.audit_text.specs.CallTables.{taken_service, taken_call, last_take, last_taken}
use Rattle.audit_text.proofs.CallSteps.{last_take-other, last_take-own}
use Rattle.audit_text.proofs.Rows.{same_or_other}

-- ---- calls and their servers

-- a call with a service was made
pub service_there : (past : Past) (c k : ℕ) → service_of_call past c ≡ Some k → (1 ≤ c) × (c ≤ calls_made past)
unfolding service_of_call asked_of call_entry
service_there past c k h = by (nth_entry is_call past c) refl h
  where
    by : (o : Option Entry) → nth_entry is_call past c ≡ o → option_map (λ a. a.service.0) (option_and_then (λ e. asked_by e.act) o) ≡ Some k → (1 ≤ c) × (c ≤ calls_made past)
    by None q h = cc
    by (Some e) q h = let x = nth_passes is_call past c e q in (x.1, x.2)

-- a call that wasn't made before the entry is the entry's
pub new_call : (e : Entry) (past : Past) (c : ℕ) → calls_made past < c → c ≤ calls_made (e ∷ past) → (is_call e ≡ true) × (c ≡ calls_made past + 1)
new_call e past c l u = by (is_call e) refl
  where
    by : (b : Bool) → is_call e ≡ b → (is_call e ≡ true) × (c ≡ calls_made past + 1)
    by true q = (q, omega (arith, l, u, count_new is_call e past q))
    by false q = absurd (omega (arith, l, u, count_same is_call e past q))

-- a made domain that owns the service of a call
pub record HasServer (past : Past) (c : ℕ) : Type 0 where
  pub domain : ℕ
  pub is : server_of past c ≡ Some domain
  pub made : is_made past domain ≡ true

no_calls_yet : (c : ℕ) → 1 ≤ c → c ≤ calls_made [] → ⊥
unfolding count_where
no_calls_yet c l u = omega (arith, l, u)

-- each call that was made has a server
pub has_server : (s : System) (past : Past) (c : ℕ) → IsAdmittedPast s past → 1 ≤ c → c ≤ calls_made past → HasServer past c
has_server s [] c a l u = absurd (no_calls_yet c l u)
has_server s (e ∷ past) c a l u = by (within_or_above c (calls_made past)) (has_server s past c a.1 l)
  where
    by : (c ≤ calls_made past) ⊎ (calls_made past < c) → (c ≤ calls_made past → HasServer past c) → HasServer (e ∷ past) c
    by (inl k) again = let h = again k in record { domain = h.domain; is = server_stays e past c h.domain k h.is; made = made_stays e past h.domain h.made }
    by (inr k) again =
        let n = new_call e past c k u in
        let o = passed (is_live (e ∷ past)) (server_of (e ∷ past) c) (new_served s past e c a.0 n.0 n.1) in
        record { domain = o.0; is = o.1; made = live_made (e ∷ past) o.0 o.2 }

-- the server of a call is the owner of its service, also before a later entry
same_owner : (o : Option ℕ) (d k : ℕ) → o ≡ Some d → o ≡ Some k → d ≡ k
same_owner o d k p q = cc

-- ---- the head of a queue

-- nothing before the first that a filter of numbers gives passes
before_first : (p : ℕ → Bool) (a n x : ℕ) → slice_get (filter p (range_with_len a n)) 0 ≡ Some x → (y : ℕ) → a ≤ y → y < x → p y ≡ false
before_first p a zero x h y l u = cc
before_first p a (suc n) x h y l u = by (p a) refl h (λ r. before_first p (a + 1) n x r y)
  where
    at : p a ≡ false → (a + 1 ≤ y → y < x → p y ≡ false) → (a ≡ y) ⊎ (a ≢ y) → p y ≡ false
    at q again (inl w) = ap p (sym w) ∙ q
    at q again (inr w) = again (omega (arith, w, l)) u

    by : (b : Bool) → p a ≡ b → slice_get (cond b (a ∷ filter p (range_with_len (a + 1) n)) (filter p (range_with_len (a + 1) n))) 0 ≡ Some x →
        (slice_get (filter p (range_with_len (a + 1) n)) 0 ≡ Some x → a + 1 ≤ y → y < x → p y ≡ false) → p y ≡ false
    by true q h again = let w : a ≡ x = cc in absurd (omega (arith, w, l, u))
    by false q h again = at q (again h) (same_or_other a y)

-- of two tests that don't both pass, the second of which passes, the first fails
first_fails : (a b : Bool) → (a && b) ≡ false → b ≡ true → a ≡ false
first_fails true true h i = cc
first_fails true false h i = cc
first_fails false b h i = refl

is_its_number : (o : Option ℕ) (k : ℕ) → o ≡ Some k → is_number o k ≡ true
unfolding is_number
is_its_number o k q = ap (λ (x : Option ℕ). is_number x k) q ∙ same_number k

-- a call of the service before the head of its queue isn't queued
before_head : (past : Past) (k x : ℕ) → queue_head past k ≡ Some x → (c : ℕ) → 1 ≤ c → c < x → service_of_call past c ≡ Some k → is_queued past c ≡ false
unfolding queue_head queued_calls waiting_calls up_to
before_head past k x h c l u v =
    first_fails (is_queued past c) (is_number (service_of_call past c) k)
    (before_first (λ y. is_queued past y && is_number (service_of_call past y) k) 1 (calls_made past) x
    (ap (λ (xs : List ℕ). slice_get xs 0) (filter_twice (is_queued past) (λ y. is_number (service_of_call past y) k) (range_with_len 1 (calls_made past))) ∙ h) c l u)
    (is_its_number (service_of_call past c) k v)

-- ---- takes

-- an act that takes a call of the service
record IsTakeAct (a : Act) (r : Reply) (k : ℕ) : Type 0 where
  pub call : CallId
  pub is : a ≡ act.Take call
  pub replied : (o : Option Asked) → r ≡ job_of o → option_map (λ x. x.service.0) o ≡ Some k

take_act : (a : Act) (r : Reply) (k : ℕ) → taken_service a r ≡ Some k → IsTakeAct a r k
unfolding taken_service job_of
take_act (act.Take c) (reply.Job j m p) k h = record { call = c; is = refl; replied = by }
  where
    by : (o : Option Asked) → reply.Job j m p ≡ job_of o → option_map (λ x. x.service.0) o ≡ Some k
    by None q = cc
    by (Some x) q = let z : x.service ≡ j = cc in ap (λ y. Some y.0) z ∙ h
take_act _ _ k h = cc

-- an entry that takes a call of the service
pub record IsTakeOf (past : Past) (e : Entry) (k : ℕ) : Type 0 where
  pub call : CallId
  pub is : e.act ≡ act.Take call
  pub service : service_of_call past call.0 ≡ Some k

took : (s : System) (past : Past) (d : ℕ) (c : CallId) → reply_to s past d (act.Take c) ≡ job_of (asked_of past c.0)
unfolding reply_to
took s past d c = refl

pub take_of : (s : System) (past : Past) (e : Entry) (k : ℕ) → IsNext s past e → taken_service e.act e.reply ≡ Some k → IsTakeOf past e k
unfolding service_of_call
take_of s past e k n h =
    let x = take_act e.act e.reply k h in
    record { call = x.call; is = x.is; service = x.replied (asked_of past x.call.0) (n.reply ∙ ap (reply_to s past e.domain.0) x.is ∙ took s past e.domain.0 x.call) }

-- a take of a call of the service is noted as one
job_service : (c : CallId) (o : Option Asked) (k : ℕ) → option_map (λ x. x.service.0) o ≡ Some k → taken_service (act.Take c) (job_of o) ≡ Some k
unfolding taken_service job_of
job_service c None k h = cc
job_service c (Some x) k h = h

take_noted : (s : System) (past : Past) (e : Entry) (c : CallId) (k : ℕ) → IsNext s past e → e.act ≡ act.Take c → service_of_call past c.0 ≡ Some k → taken_service e.act e.reply ≡ Some k
unfolding service_of_call
take_noted s past e c k n q h =
    ap (taken_service e.act) (n.reply ∙ ap (reply_to s past e.domain.0) q ∙ took s past e.domain.0 c)
    ∙ ap (λ (a : Act). taken_service a (job_of (asked_of past c.0))) q
    ∙ job_service c (asked_of past c.0) k h

its_call : (a : Act) (c : CallId) → a ≡ act.Take c → taken_call a ≡ c.0
unfolding taken_call
its_call a c q = ap taken_call q

takes_it : (a : Act) (c : CallId) → a ≡ act.Take c → is_take_of c.0 a ≡ true
unfolding is_take_of
takes_it a c q = ap (is_take_of c.0) q ∙ same_number c.0

-- ---- calls that stay in their queues

-- an act that answers no call
no_answer : (c : ℕ) (a : Act) (r : Reply) → is_answer_to c a ≡ false → answered_by_act c a r ≡ None
unfolding is_answer_to answered_by_act
no_answer c (act.Return k p) r h = rw h refl
no_answer c (act.Throw k p) r h = rw h refl
no_answer c _ r h = refl

-- an entry whose act doesn't answer the call, and that doesn't end its server
not_answered : (past : Past) (e : Entry) (c d : ℕ) → server_of past c ≡ Some d → end_reason (e ∷ past) d ≡ None → is_answer_to c e.act ≡ false → is_some (answered_by past e c) ≡ false
unfolding answered_by ends_server
not_answered past e c d o r h =
    ap (λ (x : Option Answer). is_some (elim x as (λ _. Option Answer) [ Some a ↦ Some a | None ↦ if ends_domain (ended_by e) (server_of past c) then Some Answer.Ended else None ])) (no_answer c e.act e.reply h)
    ∙ ap (λ (b : Bool). is_some (if b then Some Answer.Ended else None)) (ap (ends_domain (ended_by e)) o ∙ not_ended (ended_by e) d (before_end e past d r).0)

-- a queued call that the entry doesn't take stays queued while its server lives
stays_queued : (s : System) (past : Past) (e : Entry) (c d : ℕ) → IsAdmittedPast s (e ∷ past) → 1 ≤ c → c ≤ calls_made past → server_of past c ≡ Some d → end_reason (e ∷ past) d ≡ None →
    is_take_of c e.act ≡ false → is_queued past c ≡ true → is_queued (e ∷ past) c ≡ true
stays_queued s past e c d a l u o r t h = queued_made e past c l u ∙ by (is_queued past c) (is_take_of c e.act) (is_some (answered_by past e c)) h t (not_answered past e c d o r answers)
  where
    answers : is_answer_to c e.act ≡ false
    answers = fails (is_answer_to c e.act) (λ q. clash (is_taken past c) (answer_at s past e c a.1 a.0 (answer_is c e.act q)).taken (queued_untaken past c h))

    by : (x y z : Bool) → x ≡ true → y ≡ false → z ≡ false → (x && not (y || z)) ≡ true
    by true false false p q r = refl
    by false y z p q r = cc
    by true true z p q r = cc
    by true false true p q r = cc

-- a call that isn't queued, or that the entry takes, isn't queued after it
stays_out : (e : Entry) (past : Past) (c : ℕ) → 1 ≤ c → c ≤ calls_made past → is_queued past c ≡ false → is_queued (e ∷ past) c ≡ false
stays_out e past c l u h = queued_made e past c l u ∙ ap (λ (b : Bool). b && not (unqueues past e c)) h

taken_out : (e : Entry) (past : Past) (c : ℕ) → 1 ≤ c → c ≤ calls_made past → is_take_of c e.act ≡ true → is_queued (e ∷ past) c ≡ false
taken_out e past c l u h = queued_made e past c l u ∙ ap (λ (b : Bool). is_queued past c && not (b || is_some (answered_by past e c))) h ∙ and_false (is_queued past c)

-- ---- the last call of a service that was taken

-- no call up to it is queued, and each behind it is, while the service's owner lives
pub record IsInOrder (past : Past) (k : ℕ) : Type 0 where
  pub made : last_taken past k ≤ calls_made past
  pub passed : (c : ℕ) → service_of_call past c ≡ Some k → c ≤ last_taken past k → is_queued past c ≡ false
  pub behind : (c d : ℕ) → service_of_call past c ≡ Some k → server_of past c ≡ Some d → end_reason past d ≡ None → last_taken past k < c → is_queued past c ≡ true

last-other : (e : Entry) (past : Past) (k : ℕ) → is_number (taken_service e.act e.reply) k ≡ false → last_taken (e ∷ past) k ≡ last_taken past k
unfolding last_taken
last-other e past k h = ap (λ (o : Option Entry). unwrap_or (option_map (λ x. taken_call x.act) o) 0) (last_take-other e past k h)

last-own : (e : Entry) (past : Past) (k : ℕ) → is_number (taken_service e.act e.reply) k ≡ true → last_taken (e ∷ past) k ≡ taken_call e.act
unfolding last_taken
last-own e past k h = ap (λ (o : Option Entry). unwrap_or (option_map (λ x. taken_call x.act) o) 0) (last_take-own e past k h)

module _ (s : System) (e : Entry) (past : Past) (k : ℕ) (a : IsAdmittedPast s (e ∷ past)) (old : IsInOrder past k) where
  old_service : (c : ℕ) → c ≤ calls_made past → service_of_call (e ∷ past) c ≡ Some k → service_of_call past c ≡ Some k
  old_service c u v = sym (service_made e past c u) ∙ v

  -- the server of an old call was its server before
  old_server : (c d : ℕ) → 1 ≤ c → c ≤ calls_made past → server_of (e ∷ past) c ≡ Some d → server_of past c ≡ Some d
  old_server c d l u o =
      let h = has_server s past c a.1 l u in
      h.is ∙ ap (λ (n : ℕ). Some n) (same_owner (server_of (e ∷ past) c) h.domain d (server_stays e past c h.domain u h.is) o)

  -- a new call is queued
  new_queued : (c : ℕ) → calls_made past < c → service_of_call (e ∷ past) c ≡ Some k → is_queued (e ∷ past) c ≡ true
  new_queued c l v = let n = new_call e past c l (service_there (e ∷ past) c k v).1 in queued_new e past c n.0 n.1

  -- an old call behind the last one that was taken stays queued
  old_behind : (c d : ℕ) → service_of_call (e ∷ past) c ≡ Some k → server_of (e ∷ past) c ≡ Some d → end_reason (e ∷ past) d ≡ None → last_taken past k < c → c ≤ calls_made past →
      is_take_of c e.act ≡ false → is_queued (e ∷ past) c ≡ true
  old_behind c d v o r l u t =
      let low = (service_there (e ∷ past) c k v).0 in
      let o2 = old_server c d low u o in
      stays_queued s past e c d a low u o2 r t (old.behind c d (old_service c u v) o2 (before_end e past d r).1 l)

  order_other : is_number (taken_service e.act e.reply) k ≡ false → IsInOrder (e ∷ past) k
  order_other h = record { made = omega (arith, same, old.made, count_grows is_call e past); passed = gone; behind = waits }
    where
      same : last_taken (e ∷ past) k ≡ last_taken past k
      same = last-other e past k h

      gone : (c : ℕ) → service_of_call (e ∷ past) c ≡ Some k → c ≤ last_taken (e ∷ past) k → is_queued (e ∷ past) c ≡ false
      gone c v l =
          let u : c ≤ calls_made past = omega (arith, l, same, old.made) in
          stays_out e past c (service_there (e ∷ past) c k v).0 u (old.passed c (old_service c u v) (omega (arith, l, same)))

      untaken : (c : ℕ) → c ≤ calls_made past → service_of_call (e ∷ past) c ≡ Some k → is_take_of c e.act ≡ false
      untaken c u v = fails (is_take_of c e.act) (λ t.
          let x = take_is c e.act t in
          let w = take_noted s past e x.0 k a.0 x.1 (ap (service_of_call past) x.2 ∙ old_service c u v) in
          clash (is_number (taken_service e.act e.reply) k) (is_its_number (taken_service e.act e.reply) k w) h)

      waits : (c d : ℕ) → service_of_call (e ∷ past) c ≡ Some k → server_of (e ∷ past) c ≡ Some d → end_reason (e ∷ past) d ≡ None → last_taken (e ∷ past) k < c → is_queued (e ∷ past) c ≡ true
      waits c d v o r l = elim (within_or_above c (calls_made past)) [
        | inl u ↦ old_behind c d v o r (omega (arith, l, same)) u (untaken c u v)
        | inr u ↦ new_queued c u v
      ]

  order_own : is_number (taken_service e.act e.reply) k ≡ true → IsInOrder (e ∷ past) k
  order_own h = record { made = omega (arith, same, x.high, count_grows is_call e past); passed = gone; behind = waits }
    where
      t : IsTakeOf past e k
      t = take_of s past e k a.0 (is_it (taken_service e.act e.reply) k h)

      x : Takes past e.domain.0 t.call.0
      x = take_at s past e t.call a.0 t.is

      same : last_taken (e ∷ past) k ≡ t.call.0
      same = last-own e past k h ∙ its_call e.act t.call t.is

      head : queue_head past k ≡ Some t.call.0
      head = ap (λ (o : Option ℕ). option_and_then (queue_head past) o) (sym t.service) ∙ ((calls_in_order s (e ∷ past) a).takes e past t.call.0 ([], refl) (takes_it e.act t.call t.is)).first

      -- the last call that was taken before lies before this one
      later : last_taken past k < t.call.0
      later = elim (within_or_above t.call.0 (last_taken past k)) [
        | inl w ↦ clash (is_queued past t.call.0) x.queued (old.passed t.call.0 t.service w)
        | inr w ↦ w
      ]

      gone : (c : ℕ) → service_of_call (e ∷ past) c ≡ Some k → c ≤ last_taken (e ∷ past) k → is_queued (e ∷ past) c ≡ false
      gone c v l =
          let low = (service_there (e ∷ past) c k v).0 in
          let u : c ≤ calls_made past = omega (arith, l, same, x.high) in
          elim (same_or_other t.call.0 c) [
            | inl q ↦ taken_out e past c low u (ap (λ (n : ℕ). is_take_of n e.act) (sym q) ∙ takes_it e.act t.call t.is)
            | inr q ↦ stays_out e past c low u (before_head past k t.call.0 head c low (omega (arith, l, same, q)) (old_service c u v))
          ]

      untaken : (c : ℕ) → t.call.0 < c → is_take_of c e.act ≡ false
      untaken c l = fails (is_take_of c e.act) (λ w.
          let y = take_is c e.act w in
          let z : y.0 ≡ t.call = cc (y.1, t.is) in
          omega (arith, l, y.2, ap (λ (n : CallId). n.0) z))

      waits : (c d : ℕ) → service_of_call (e ∷ past) c ≡ Some k → server_of (e ∷ past) c ≡ Some d → end_reason (e ∷ past) d ≡ None → last_taken (e ∷ past) k < c → is_queued (e ∷ past) c ≡ true
      waits c d v o r l = elim (within_or_above c (calls_made past)) [
        | inl u ↦ old_behind c d v o r (omega (arith, l, same, later)) u (untaken c (omega (arith, l, same)))
        | inr u ↦ new_queued c u v
      ]

  order_more : IsInOrder (e ∷ past) k
  order_more = by (is_number (taken_service e.act e.reply) k) refl
    where
      by : (b : Bool) → is_number (taken_service e.act e.reply) k ≡ b → IsInOrder (e ∷ past) k
      by true q = order_own q
      by false q = order_other q

no_order : (k : ℕ) → IsInOrder [] k
unfolding last_taken last_take count_where
no_order k = record { made = omega arith; passed = λ c v l. absurd (none c v); behind = λ c d v o r l. absurd (none c v) }
  where
    none : (c : ℕ) → service_of_call [] c ≡ Some k → ⊥
    none c v = let x = service_there [] c k v in no_calls_yet c x.0 x.1

-- the calls of a service are taken in order
pub in_order : (s : System) (past : Past) (k : ℕ) → IsAdmittedPast s past → IsInOrder past k
in_order s [] k a = no_order k
in_order s (e ∷ past) k a = order_more s e past k a (in_order s past k a.1)
