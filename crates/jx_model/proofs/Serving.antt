-- The call that a thread serves was taken, belongs to its domain, and is unanswered.
use Rattle.std.proofs.Common.{◌≡◌, refl, sym, ◌∙◌, ap, ℕ, suc, zero, ◌+◌, ◌<◌, ◌≤◌, Bool, true, false, not, cond, ◌&&◌, ◌||◌, List, [], ◌∷◌, Option, Some, None, is_some, is_none, arith, ◌==◌, if◌then◌else◌, filter, slice_get, ◌⊎◌, inl, inr}
use Rattle.std.proofs.lemmas.Bool.Decides.{nat_tests}
use Rattle.std.specs.List.{range_with_len}
use Rattle.jx_base.specs.declared.act.Act.{Act}
use Rattle.jx_base.specs.declared.act.Act.TheVariants as act
use Rattle.jx_base.specs.declared.act.Reply.{Reply}
use Rattle.jx_base.specs.declared.act.Reply.TheVariants as reply
use Rattle.jx_base.specs.declared.act.Reason.{Reason}
use Rattle.jx_base.specs.declared.act.Entry.{Entry}
use Rattle.jx_base.specs.declared.ids.CallId.{CallId}
use Rattle.jx_base.specs.declared.ids.ServiceId.{ServiceId}
use Rattle.jx_base.specs.declared.value.Parcel.{Parcel}
use Rattle.jx_base.specs.declared.program.System.{System}
use Rattle.jx_base.specs.declared.states.ThreadState.{ThreadState}
use Rattle.jx_base.specs.declared.states.ThreadState.TheVariants as thread
use Rattle.jx_base.specs.Basics.{up_to, is_number, passes}
use Rattle.jx_base.specs.Histories.{Past, is_own, nth_entry}
use Rattle.jx_model.specs.Journal.{is_full}
use Rattle.jx_model.specs.Domains.{is_live, is_made, end_reason, reason_for, ended_by}
use Rattle.jx_model.specs.Threads.{thread_state, state_by_last, state_after, serving_state, served_call, served_after, is_of_thread, last_of_thread, service_threads, running_thread}
use Rattle.jx_model.specs.Portals.{owner_of, export_of, is_export}
use Rattle.jx_model.specs.Calls.{Answer, is_call, calls_made, answer_of, answered_by, answered_by_act, ends_domain, ends_server, server_of, answer_by_reply, thrown, service_of_call, is_take_of, is_queued, is_unanswered, queued_calls, waiting_calls, queue_head, call_entry, is_taken}
use Rattle.jx_model.specs.Permits.{acting_thread, domain_thread, zero_may, zero_may_now, is_halt, may_perform, is_serving, is_zero_act, is_choice, choice_thread, taking_thread, is_head, idle_thread}
use Rattle.jx_model.specs.Legal.{IsNext, IsAdmittedPast}
use Rattle.jx_base.proofs.BasicLaws.{both, eq_of}
use Rattle.jx_base.proofs.NthEntries.{nth_old, nth_passes, count_grows}
use Rattle.jx_model.proofs.CallSteps.{answer_made, service_made, taken_made}
use Rattle.jx_model.proofs.Acting.{acting_cases, chosen, of_then}
use Rattle.std.specs.Option.{option_and_then, option_map}

-- an act that Domain Zero may not perform
pub in_domain : (s : System) (past : Past) (d t : ℕ) (a : Act) → is_halt a ≡ false → zero_may s past a ≡ false → acting_thread s past d a ≡ Some t → ((d == 0) ≡ false) × (domain_thread past d a ≡ Some t)
unfolding zero_may_now
in_domain s past d t a h z e = elim (acting_cases s past d t a e) [
  | inl x ↦ none (is_full s past) (is_halt a) (zero_may s past a) h z x.2
  | inr x ↦ x
]
  where
    none : {A : Type 0} (f x y : Bool) → x ≡ false → y ≡ false → (if f then x else y) ≡ true → A
    none true x y p q e = cc
    none false x y p q e = cc

filter_one : (p q : ℕ → Bool) (x : ℕ) (xs : List ℕ) (a b : Bool) → p x ≡ a → q x ≡ b → filter (λ y. p y && q y) xs ≡ filter q (filter p xs) →
    cond (a && b) (x ∷ filter (λ y. p y && q y) xs) (filter (λ y. p y && q y) xs) ≡ filter q (cond a (x ∷ filter p xs) (filter p xs))
filter_one p q x xs false b h i again = again
filter_one p q x xs true true h i again = rw i (ap (λ (ys : List ℕ). x ∷ ys) again)
filter_one p q x xs true false h i again = rw i again

filter_twice : (p q : ℕ → Bool) (xs : List ℕ) → filter (λ x. p x && q x) xs ≡ filter q (filter p xs)
filter_twice p q [] = refl
filter_twice p q (x ∷ xs) = filter_one p q x xs (p x) (q x) refl refl (filter_twice p q xs)

-- ---- a take

pub record Takes (past : Past) (d c : ℕ) : Type 0 where
  pub low : 1 ≤ c
  pub high : c ≤ calls_made past
  pub live : is_live past d ≡ true
  pub service : ℕ
  pub of : service_of_call past c ≡ Some service
  pub owner : is_number (owner_of past service) d ≡ true
  pub queued : is_queued past c ≡ true

pub is_it : (o : Option ℕ) (c : ℕ) → is_number o c ≡ true → o ≡ Some c
unfolding is_number
is_it None c h = cc
is_it (Some m) c h = grind (arith, nat_tests)

-- the first that a filter of numbers gives
pub head_of : (p : ℕ → Bool) (a n x : ℕ) → slice_get (filter p (range_with_len a n)) 0 ≡ Some x → (p x ≡ true) × (a ≤ x) × (x < a + n)
head_of p a zero x h = cc
head_of p a (suc n) x h = by (p a) refl h (head_of p (a + 1) n x)
  where
    by : (b : Bool) → p a ≡ b → slice_get (cond b (a ∷ filter p (range_with_len (a + 1) n)) (filter p (range_with_len (a + 1) n))) 0 ≡ Some x →
        (slice_get (filter p (range_with_len (a + 1) n)) 0 ≡ Some x → (p x ≡ true) × (a + 1 ≤ x) × (x < a + 1 + n)) → (p x ≡ true) × (a ≤ x) × (x < a + suc n)
    by true e h again = let q : a ≡ x = cc in (ap p (sym q) ∙ e, omega (arith, q), omega (arith, q))
    by false e h again = let r = again h in (r.0, omega (arith, r.1), omega (arith, r.2))

pub of_none : (o : Option ℕ) (b : Bool) (t : ℕ) (x : Option ℕ) → (elim o as (λ _. Option ℕ) [ Some r ↦ None | None ↦ if b then x else None ]) ≡ Some t → (o ≡ None) × (b ≡ true) × (x ≡ Some t)
of_none None true t x h = (refl, refl, h)
of_none None false t x h = cc
of_none (Some r) b t x h = cc

pub takes : (s : System) (past : Past) (d t : ℕ) (c : CallId) → acting_thread s past d (act.Take c) ≡ Some t → Takes past d c.0
unfolding is_halt zero_may domain_thread may_perform is_zero_act is_choice choice_thread taking_thread is_head server_of queue_head queued_calls waiting_calls up_to
takes s past d t c h =
    let n = of_none (running_thread past d) (is_live past d) t (taking_thread past d c.0) (in_domain s past d t (act.Take c) refl refl h).1 in
    let q = chosen (is_head past d c.0) t (option_and_then (idle_thread past d) (service_of_call past c.0)) n.2 in
    let k = of_then (service_of_call past c.0) (idle_thread past d) t q.1 in
    let b = both (is_number (server_of past c.0) d) (is_number (option_and_then (queue_head past) (service_of_call past c.0)) c.0) q.0 in
    let head : is_number (queue_head past k.0) c.0 ≡ true = ap (λ (o : Option ℕ). is_number (option_and_then (queue_head past) o) c.0) (sym k.1) ∙ b.1 in
    let f = head_of (λ c. is_queued past c && is_number (service_of_call past c) k.0) 1 (calls_made past) c.0
    (ap (λ (xs : List ℕ). slice_get xs 0) (filter_twice (is_queued past) (λ c. is_number (service_of_call past c) k.0) (range_with_len 1 (calls_made past))) ∙ is_it (queue_head past k.0) c.0 head) in
    record {
      low = f.1;
      high = omega (arith, f.2);
      live = n.1;
      service = k.0;
      of = k.1;
      owner = ap (λ (o : Option ℕ). is_number (option_and_then (owner_of past) o) d) (sym k.1) ∙ b.0;
      queued = (both (is_queued past c.0) (is_number (service_of_call past c.0) k.0) f.0).0;
    }

-- ---- what a thread serves

served_step : (old : Option CallId) (a : Act) (c : CallId) → served_after old a ≡ Some c → (a ≡ act.Take c) ⊎ (old ≡ Some c)
unfolding served_after
served_step old (act.Take k) c h = let q : k ≡ c = cc in inl (ap act.Take q)
served_step old (act.Return k p) c h = cc
served_step old (act.Throw k p) c h = cc
served_step old _ c h = inr h

-- an own entry of the thread that takes the call, or the call was served before
pub served_before : (e : Entry) (past : Past) (d t : ℕ) (c : CallId) → served_call (e ∷ past) d t ≡ Some c →
    ((is_of_thread d t e ≡ true) × (e.act ≡ act.Take c)) ⊎ (served_call past d t ≡ Some c)
unfolding served_call
served_before e past d t c h = by (is_of_thread d t e) refl h
  where
    by : (b : Bool) → is_of_thread d t e ≡ b → (elim b as (λ _. Option CallId) [ true ↦ served_after (served_call past d t) e.act | false ↦ served_call past d t ]) ≡ Some c →
        ((is_of_thread d t e ≡ true) × (e.act ≡ act.Take c)) ⊎ (served_call past d t ≡ Some c)
    by false e h = inr h
    by true q h = elim (served_step (served_call past d t) e.act c h) [ inl x ↦ inl (q, x) | inr x ↦ inr x ]

calls_grow : (e : Entry) (past : Past) → calls_made past ≤ calls_made (e ∷ past)
calls_grow e past = count_grows is_call e past

its : (b : Bool) (c : CallId) (a : Act) → a ≡ act.Take c → (b || is_take_of c.0 a) ≡ true
unfolding is_take_of
its b c a q = ap (λ (x : Act). b || is_take_of c.0 x) q ∙ or_same b c.0
  where
    or_same : (b : Bool) (n : ℕ) → (b || (n == n)) ≡ true
    or_same b n = grind arith

untaken : {A : Type 0} (past : Past) (c : ℕ) → is_queued past c ≡ true → is_taken past c ≡ true → A
unfolding is_queued
untaken past c h i = by (is_unanswered past c) (is_taken past c) h i
  where
    by : {A : Type 0} (x y : Bool) → (x && not y) ≡ true → y ≡ true → A
    by false y h i = cc
    by true true h i = cc
    by true false h i = cc

pub own_of : (d t : ℕ) (e : Entry) → is_of_thread d t e ≡ true → d ≡ e.domain.0
unfolding is_of_thread is_own
own_of d t e h = sym (eq_of e.domain.0 d (both (e.domain.0 == d) (e.thread.0 == t) h).0)

pub same_thread : (d t k r : ℕ) (e : Entry) → is_of_thread d t e ≡ true → is_of_thread k r e ≡ true → (d ≡ k) × (t ≡ r)
unfolding is_of_thread is_own
same_thread d t k r e h i = numbers e.domain.0 e.thread.0 d t k r h i
  where
    numbers : (x y d t k r : ℕ) → ((x == d) && (y == t)) ≡ true → ((x == k) && (y == r)) ≡ true → (d ≡ k) × (t ≡ r)
    numbers x y d t k r h i =
        let p = both (x == d) (y == t) h in
        let q = both (x == k) (y == r) i in
        (sym (eq_of x d p.0) ∙ eq_of x k q.0, sym (eq_of y t p.1) ∙ eq_of y r q.1)

pub record IsServed (past : Past) (c : ℕ) : Type 0 where
  pub low : 1 ≤ c
  pub high : c ≤ calls_made past
  pub taken : is_taken past c ≡ true

still_served : (e : Entry) (past : Past) (c : ℕ) → IsServed past c → IsServed (e ∷ past) c
still_served e past c h =
    record {
      low = h.low;
      high = omega (arith, h.high, more);
      taken = taken_made e past c h.low h.high ∙ ap (λ (b : Bool). b || is_take_of c e.act) h.taken;
    }
  where
    more : calls_made past ≤ calls_made (e ∷ past)
    more = calls_grow e past

-- the facts of the take itself, at its own moment
pub take_at : (s : System) (past : Past) (e : Entry) (c : CallId) → IsNext s past e → e.act ≡ act.Take c → Takes past e.domain.0 c.0
take_at s past e c n q = takes s past e.domain.0 e.thread.0 c (ap (acting_thread s past e.domain.0) (sym q) ∙ n.thread)

-- a call that a thread serves is made and taken
pub served : (s : System) (past : Past) (d t : ℕ) (c : CallId) → IsAdmittedPast s past → served_call past d t ≡ Some c → IsServed past c.0
unfolding served_call
served s [] d t c a h = cc
served s (e ∷ past) d t c a h = elim (served_before e past d t c h) [
  | inl x ↦
      let k = take_at s past e c a.0 x.1 in
      record { low = k.low; high = omega (arith, k.high, calls_grow e past); taken = taken_made e past c.0 k.low k.high ∙ its (is_taken past c.0) c e.act x.1 }
  | inr x ↦ still_served e past c.0 (served s past d t c a.1 x)
]

-- no two threads serve one call
pub served_once : (s : System) (past : Past) (d t k r : ℕ) (c : CallId) → IsAdmittedPast s past → served_call past d t ≡ Some c → served_call past k r ≡ Some c → (d ≡ k) × (t ≡ r)
unfolding served_call
served_once s [] d t k r c a h i = cc
served_once s (e ∷ past) d t k r c a h i = by (served_before e past d t c h) (served_before e past k r c i) (served_once s past d t k r c a.1)
  where
    clash : {A : Type 0} (x y : ℕ) → e.act ≡ act.Take c → served_call past x y ≡ Some c → A
    clash x y q w = untaken past c.0 (take_at s past e c a.0 q).queued (served s past x y c a.1 w).taken

    by : ((is_of_thread d t e ≡ true) × (e.act ≡ act.Take c)) ⊎ (served_call past d t ≡ Some c) → ((is_of_thread k r e ≡ true) × (e.act ≡ act.Take c)) ⊎ (served_call past k r ≡ Some c) →
        (served_call past d t ≡ Some c → served_call past k r ≡ Some c → (d ≡ k) × (t ≡ r)) → (d ≡ k) × (t ≡ r)
    by (inl x) (inl y) again = same_thread d t k r e x.0 y.0
    by (inl x) (inr y) again = clash k r x.1 y
    by (inr x) (inl y) again = clash d t y.1 x
    by (inr x) (inr y) again = again x y

after_serves : (c : ℕ) (runs : ThreadState) (a : Act) (r : Reply) → is_serving c (state_after runs a r) ≡ true → is_serving c runs ≡ true
unfolding state_after is_serving
after_serves c runs (act.Call k m p) (reply.Queued q) h = cc
after_serves c runs act.Yield r h = cc
after_serves c runs (act.EndThread k) r h = cc
after_serves c runs _ _ h = h

pub last_serves : (c : ℕ) (runs : ThreadState) (o : Option Entry) → is_serving c (state_by_last runs o) ≡ true → is_serving c runs ≡ true
unfolding state_by_last
last_serves c runs None h = h
last_serves c runs (Some e) h = after_serves c runs e.act e.reply h

pub running_serves : {A : Type 0} (c : ℕ) → is_serving c thread.Running ≡ true → A
unfolding is_serving
running_serves c h = cc

serving_is : (s : ServiceId) (o : Option CallId) (c : CallId) → is_serving c.0 (serving_state s o) ≡ true → o ≡ Some c
unfolding serving_state is_serving
serving_is s None c h = cc
serving_is s (Some k) c h = ap (λ (n : ℕ). let x : CallId = record { 0 = n } in Some x) (eq_of k.0 c.0 h)

passes_mapped : (f : ServiceId → ThreadState) (p : ThreadState → Bool) (o : Option ServiceId) → passes p (option_map f o) ≡ true → (s : ServiceId) × (p (f s) ≡ true)
unfolding passes
passes_mapped f p None h = cc
passes_mapped f p (Some s) h = (s, h)

-- the state of a thread that serves a call
pub serves_it : (past : Past) (d t : ℕ) (c : CallId) → passes (is_serving c.0) (thread_state past d t) ≡ true → served_call past d t ≡ Some c
unfolding thread_state passes
serves_it past d zero c h = zeroth (last_serves c.0 thread.Running (last_of_thread past d 0) h)
  where
    zeroth : is_serving c.0 thread.Running ≡ true → served_call past d 0 ≡ Some c
    zeroth h = running_serves c.0 h
serves_it past d (suc t) c h =
    let x = passes_mapped (λ s. state_by_last (serving_state s (served_call past d (suc t))) (last_of_thread past d (suc t))) (is_serving c.0) (slice_get (service_threads past d) t) h in
    serving_is x.0 (served_call past d (suc t)) c (last_serves c.0 (serving_state x.0 (served_call past d (suc t))) (last_of_thread past d (suc t)) x.1)

-- an answer by a thread
returned : (o : Option ℕ) (f : ℕ → Bool) (l : Bool) (t : ℕ) → (elim o as (λ _. Option ℕ) [ Some r ↦ if f r then Some r else None | None ↦ if l then None else None ]) ≡ Some t → (o ≡ Some t) × (f t ≡ true)
returned None f true t h = cc
returned None f false t h = cc
returned (Some r) f l t h = by (f r) refl h
  where
    by : (b : Bool) → f r ≡ b → (if b then Some r else None) ≡ Some t → (Some r ≡ Some t) × (f t ≡ true)
    by true q e = (e, let z : r ≡ t = cc in ap f (sym z) ∙ q)
    by false q e = cc

pub returns_it : (s : System) (past : Past) (d t : ℕ) (c : CallId) (p : Parcel) → acting_thread s past d (act.Return c p) ≡ Some t → (running_thread past d ≡ Some t) × (served_call past d t ≡ Some c)
unfolding is_halt zero_may domain_thread may_perform choice_thread
returns_it s past d t c p h =
    let r = returned (running_thread past d) (λ x. passes (is_serving c.0) (thread_state past d x)) (is_live past d) t (in_domain s past d t (act.Return c p) refl refl h).1 in
    (r.0, serves_it past d t c r.1)

-- ---- the owner of what a thread serves

-- a service keeps its owner
pub owner_kept : (e : Entry) (past : Past) (s d : ℕ) → owner_of past s ≡ Some d → owner_of (e ∷ past) s ≡ Some d
unfolding owner_of export_of
owner_kept e past s d h = by (nth_entry is_export past s) refl h
  where
    by : (o : Option Entry) → nth_entry is_export past s ≡ o → option_map (λ x. x.domain.0) o ≡ Some d → option_map (λ x. x.domain.0) (nth_entry is_export (e ∷ past) s) ≡ Some d
    by None q h = cc
    by (Some x) q h =
        let n = nth_passes is_export past s x q in
        ap (option_map (λ x. x.domain.0)) (nth_old is_export e past s (λ z. omega (arith, z, n.2)) ∙ q) ∙ h

abbrev pub Owned : Past → ℕ → ℕ → Type 0
Owned past d c = (s : ℕ) × (service_of_call past c ≡ Some s) × (owner_of past s ≡ Some d)

owned_kept : (e : Entry) (past : Past) (d c : ℕ) → c ≤ calls_made past → Owned past d c → Owned (e ∷ past) d c
owned_kept e past d c u h = (h.0, service_made e past c u ∙ h.1, owner_kept e past h.0 d h.2)

pub served_owned : (s : System) (past : Past) (d t : ℕ) (c : CallId) → IsAdmittedPast s past → served_call past d t ≡ Some c → Owned past d c.0
unfolding served_call
served_owned s [] d t c a h = cc
served_owned s (e ∷ past) d t c a h = elim (served_before e past d t c h) [
  | inl x ↦
      let k = take_at s past e c a.0 x.1 in
      owned_kept e past d c.0 k.high (k.service, k.of, is_it (owner_of past k.service) d (ap (is_number (owner_of past k.service)) (own_of d t e x.0) ∙ k.owner))
  | inr x ↦ owned_kept e past d c.0 (served s past d t c a.1 x).high (served_owned s past d t c a.1 x)
]

-- ---- a call that a live domain's thread serves

-- an act that answers a call
pub record Answers (a : Act) (c : ℕ) : Type 0 where
  pub call : CallId
  pub parcel : Parcel
  pub is : call.0 ≡ c
  pub by : (a ≡ act.Return call parcel) ⊎ (a ≡ act.Throw call parcel)

answers_if : {A : Type 0} (b : Bool) (x y : A) → (if b then Some x else None) ≡ Some y → b ≡ true
answers_if true x y h = refl
answers_if false x y h = cc

-- the act of an answer
pub answers_act : (n : ℕ) (a : Act) (r : Reply) (x : Answer) → answered_by_act n a r ≡ Some x → Answers a n
unfolding answered_by_act
answers_act n (act.Return k p) r x h = record { call = k; parcel = p; is = eq_of k.0 n (answers_if (k.0 == n) (answer_by_reply r (Answer.Value p)) x h); by = inl refl }
answers_act n (act.Throw k p) r x h = record { call = k; parcel = p; is = eq_of k.0 n (answers_if (k.0 == n) (answer_by_reply r (thrown p)) x h); by = inr refl }
answers_act n _ r x h = cc

pub throws_it : (s : System) (past : Past) (d t : ℕ) (c : CallId) (p : Parcel) → acting_thread s past d (act.Throw c p) ≡ Some t → served_call past d t ≡ Some c
unfolding is_halt zero_may domain_thread may_perform choice_thread
throws_it s past d t c p h =
    serves_it past d t c (returned (running_thread past d) (λ x. passes (is_serving c.0) (thread_state past d x)) (is_live past d) t (in_domain s past d t (act.Throw c p) refl refl h).1).1

-- a call is answered by the thread that serves it
pub answers_it : (s : System) (past : Past) (e : Entry) (c : ℕ) → IsNext s past e → (a : Answers e.act c) → served_call past e.domain.0 e.thread.0 ≡ Some a.call
answers_it s past e c n a = elim a.by [
  | inl q ↦ (returns_it s past e.domain.0 e.thread.0 a.call a.parcel (ap (acting_thread s past e.domain.0) (sym q) ∙ n.thread)).1
  | inr q ↦ throws_it s past e.domain.0 e.thread.0 a.call a.parcel (ap (acting_thread s past e.domain.0) (sym q) ∙ n.thread)
]

pub after_return : (o : Option CallId) (c : CallId) (p : Parcel) → served_after o (act.Return c p) ≡ None
unfolding served_after
after_return o c p = refl

pub after_throw : (o : Option CallId) (c : CallId) (p : Parcel) → served_after o (act.Throw c p) ≡ None
unfolding served_after
after_throw o c p = refl

served_no_more : (e : Entry) (past : Past) (d t n : ℕ) (c : CallId) → is_of_thread d t e ≡ true → Answers e.act n → served_call (e ∷ past) d t ≡ Some c → ⊥
unfolding served_call
served_no_more e past d t n c o a h = by (none a.by)
  where
    none : (e.act ≡ act.Return a.call a.parcel) ⊎ (e.act ≡ act.Throw a.call a.parcel) → served_after (served_call past d t) e.act ≡ None
    none (inl q) = ap (served_after (served_call past d t)) q ∙ after_return (served_call past d t) a.call a.parcel
    none (inr q) = ap (served_after (served_call past d t)) q ∙ after_throw (served_call past d t) a.call a.parcel

    by : served_after (served_call past d t) e.act ≡ None → ⊥
    by q = let z = sym (ap (λ (b : Bool). elim b as (λ _. Option CallId) [ true ↦ served_after (served_call past d t) e.act | false ↦ served_call past d t ]) o) ∙ h in cc (z, q)

-- what ended before
pub before_end : (e : Entry) (past : Past) (d : ℕ) → end_reason (e ∷ past) d ≡ None → (reason_for (ended_by e) d ≡ None) × (end_reason past d ≡ None)
unfolding end_reason
before_end e past d h = by (reason_for (ended_by e) d) (end_reason past d) h
  where
    by : (o p : Option Reason) → (elim o as (λ _. Option Reason) [ Some r ↦ Some r | None ↦ p ]) ≡ None → (o ≡ None) × (p ≡ None)
    by None p h = (refl, h)
    by (Some r) p h = cc

-- an entry that doesn't end the owner
pub not_ended : (x : Option (ℕ × Reason)) (d : ℕ) → reason_for x d ≡ None → ends_domain x (Some d) ≡ false
unfolding reason_for ends_domain is_number
not_ended None d h = refl
not_ended (Some x) d h = by x.0 x.1 h
  where
    by : (n : ℕ) (r : Reason) → (if n == d then Some r else None) ≡ None → (d == n) ≡ false
    by n r h = turned (n == d) refl h
      where
        turned : (b : Bool) → (n == d) ≡ b → (if b then Some r else None) ≡ None → (d == n) ≡ false
        turned true q h = cc
        turned false q h = grind (arith, nat_tests)

step_none : (past : Past) (e : Entry) (d c : ℕ) → Owned past d c → reason_for (ended_by e) d ≡ None → answered_by_act c e.act e.reply ≡ None → answered_by past e c ≡ None
unfolding answered_by ends_server server_of
step_none past e d c o r a =
    ap (λ (x : Option Answer). elim x as (λ _. Option Answer) [ Some a ↦ Some a | None ↦ if ends_domain (ended_by e) (option_and_then (owner_of past) (service_of_call past c)) then Some Answer.Ended else None ]) a
    ∙ ap (λ (b : Bool). if b then Some Answer.Ended else None) (ap (ends_domain (ended_by e)) (ap (λ (x : Option ℕ). option_and_then (owner_of past) x) o.1 ∙ o.2) ∙ not_ended (ended_by e) d r)

takes_none : (c : CallId) (r : Reply) → answered_by_act c.0 (act.Take c) r ≡ None
unfolding answered_by_act
takes_none c r = refl

pub queued_open : (past : Past) (c : ℕ) → is_queued past c ≡ true → answer_of past c ≡ None
unfolding is_queued is_unanswered
queued_open past c h = by (is_some (call_entry past c)) (answer_of past c) (is_taken past c) h
  where
    by : (m : Bool) (o : Option Answer) (t : Bool) → (m && is_none o && not t) ≡ true → o ≡ None
    by m None t h = refl
    by true (Some x) t h = cc
    by false (Some x) t h = cc

own_thread_is : (e : Entry) (d t : ℕ) → e.domain.0 ≡ d → e.thread.0 ≡ t → is_of_thread d t e ≡ true
unfolding is_of_thread is_own
own_thread_is e d t p q = rw (p, q) (same d t)
  where
    same : (x y : ℕ) → ((x == x) && (y == y)) ≡ true
    same x y = grind arith

-- a call that a thread of a domain that has not ended serves is unanswered
pub unanswered : (s : System) (past : Past) (d t : ℕ) (c : CallId) → IsAdmittedPast s past → served_call past d t ≡ Some c → end_reason past d ≡ None → answer_of past c.0 ≡ None
unfolding served_call
unanswered s [] d t c a h l = cc
unanswered s (e ∷ past) d t c a h l = by (before_end e past d l) (served_before e past d t c h) (unanswered s past d t c a.1)
  where
    stepped : 1 ≤ c.0 → c.0 ≤ calls_made past → answer_of past c.0 ≡ None → answered_by past e c.0 ≡ None → answer_of (e ∷ past) c.0 ≡ None
    stepped x y p q = answer_made e past c.0 x y ∙ ap (λ (o : Option Answer). elim o as (λ _. Option Answer) [ Some a ↦ Some a | None ↦ answered_by past e c.0 ]) p ∙ q

    by : (reason_for (ended_by e) d ≡ None) × (end_reason past d ≡ None) → ((is_of_thread d t e ≡ true) × (e.act ≡ act.Take c)) ⊎ (served_call past d t ≡ Some c) →
        (served_call past d t ≡ Some c → end_reason past d ≡ None → answer_of past c.0 ≡ None) → answer_of (e ∷ past) c.0 ≡ None
    by b (inl x) again =
        let k = take_at s past e c a.0 x.1 in
        let o : Owned past d c.0 = (k.service, k.of, is_it (owner_of past k.service) d (ap (is_number (owner_of past k.service)) (own_of d t e x.0) ∙ k.owner)) in
        stepped k.low k.high (queued_open past c.0 k.queued) (step_none past e d c.0 o b.0 (ap (λ (y : Act). answered_by_act c.0 y e.reply) x.1 ∙ takes_none c e.reply))
    by b (inr x) again =
        let v = served s past d t c a.1 x in
        stepped v.low v.high (again x b.1) (step_none past e d c.0 (served_owned s past d t c a.1 x) b.0 (quiet (answered_by_act c.0 e.act e.reply) refl))
      where
        quiet : (o : Option Answer) → answered_by_act c.0 e.act e.reply ≡ o → o ≡ None
        quiet None q = refl
        quiet (Some y) q =
            let w = answers_act c.0 e.act e.reply y q in
            let u = answers_it s past e c.0 a.0 w in
            let same : Some w.call ≡ Some c = ap (λ (n : ℕ). let k : CallId = record { 0 = n } in Some k) w.is in
            let z = served_once s past e.domain.0 e.thread.0 d t c a.1 (u ∙ same) x in
            absurd (served_no_more e past d t c.0 c (own_thread_is e d t z.0 z.1) w h)

-- a live domain hasn't ended
pub not_ended_yet : (past : Past) (d : ℕ) → is_live past d ≡ true → end_reason past d ≡ None
unfolding is_live
not_ended_yet past d h = by (is_made past d) (end_reason past d) h
  where
    by : (m : Bool) (o : Option Reason) → (m && is_none o) ≡ true → o ≡ None
    by m None h = refl
    by true (Some r) h = cc
    by false (Some r) h = cc
