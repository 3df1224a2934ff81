-- At most one thread of a domain runs.
use Rattle.std.proofs.Common.{◌≡◌, refl, sym, ◌∙◌, ap, subst, ℕ, suc, zero, ◌<◌, ◌≤◌, Bool, true, false, ◌&&◌, List, [], ◌∷◌, ◌++◌, length, Option, Some, None, arith, ◌==◌, if◌then◌else◌, ◌⊎◌, inl, inr, slice_get, append-nil, cond, length-append}
use Rattle.std.specs.List.{find}
use Rattle.std.specs.Prelude.{nat_lt}
use Rattle.std.proofs.lemmas.Bool.Decides.{nat_tests}
use Rattle.jx_base.specs.declared.act.Act.{Act}
use Rattle.jx_base.specs.declared.act.Act.TheVariants as act
use Rattle.jx_base.specs.declared.act.Reply.{Reply}
use Rattle.jx_base.specs.declared.act.Entry.{Entry}
use Rattle.jx_base.specs.declared.ids.CallId.{CallId}
use Rattle.jx_base.specs.declared.ids.ServiceId.{ServiceId}
use Rattle.jx_base.specs.declared.program.System.{System}
use Rattle.jx_base.specs.declared.states.ThreadState.{ThreadState}
use Rattle.jx_base.specs.declared.states.ThreadState.TheVariants as thread
use Rattle.jx_base.specs.Basics.{passes}
use Rattle.jx_base.specs.Histories.{Past, is_own}
use Rattle.jx_model.specs.Journal.{is_full}
use Rattle.jx_model.specs.Threads.{service_threads, new_threads_of, new_threads, is_of_thread, served_call, served_after, state_by_last, serving_state, last_of_thread, thread_state, is_running_state}
use Rattle.jx_model.specs.Permits.{domain_thread, zero_may_now, zero_may, is_halt}
use Rattle.jx_model.specs.Legal.{IsNext, IsAdmittedPast}
use Rattle.jx_model.specs.Growth.{RunsOneThread, Runs}
use Rattle.jx_base.proofs.BasicLaws.{ap2, ap3, both, eq_of, and_false, get_left}
use Rattle.jx_model.proofs.Acting.{acting_cases, domain_cases, acting_within, running_runs, none_runs}
use Rattle.std.specs.Option.{option_map}

-- ---- threads of other entries

-- an entry of another thread leaves what a thread serves, and its last entry
pub serves_same : (e : Entry) (past : Past) (d t : ℕ) → is_of_thread d t e ≡ false → served_call (e ∷ past) d t ≡ served_call past d t
unfolding served_call
serves_same e past d t h =
    ap (λ (b : Bool). elim b as (λ _. Option CallId) [ true ↦ served_after (served_call past d t) e.act | false ↦ served_call past d t ]) h

pub last_same : (e : Entry) (past : Past) (d t : ℕ) → is_of_thread d t e ≡ false → last_of_thread (e ∷ past) d t ≡ last_of_thread past d t
unfolding last_of_thread
last_same e past d t h = ap (λ (b : Bool). cond b (Some e) (find (is_of_thread d t) past)) h

-- a service thread with that service, after what it served and its last entry
abbrev pub state_with : Option CallId → Option Entry → ServiceId → ThreadState
state_with c o s = state_by_last (serving_state s c) o

pub other_thread : (e : Entry) (past : Past) (d t : ℕ) → is_of_thread d t e ≡ false → service_threads (e ∷ past) d ≡ service_threads past d → thread_state (e ∷ past) d t ≡ thread_state past d t
unfolding thread_state
other_thread e past d zero h n = ap (λ (o : Option Entry). Some (state_by_last thread.Running o)) (last_same e past d 0 h)
other_thread e past d (suc t) h n =
    ap3 (λ (c : Option CallId) (o : Option Entry) (ss : List ServiceId). option_map (state_with c o) (slice_get ss t))
    (serves_same e past d (suc t) h) (last_same e past d (suc t) h) n

-- ---- Domain Zero has no service threads

zero_adds_none : (s : System) (past : Past) (a : Act) (r : Reply) → zero_may_now s past a ≡ true → new_threads a r ≡ []
unfolding zero_may_now zero_may is_halt new_threads
zero_adds_none s past (act.Export iface k) r h = by (is_full s past) h
  where
    by : {A : Type 0} (b : Bool) → (if b then false else false) ≡ true → A
    by true h = cc
    by false h = cc
zero_adds_none s past _ r h = refl

new_of_zero : (s : System) (past : Past) (e : Entry) → IsNext s past e → new_threads_of 0 e ≡ []
unfolding new_threads_of is_own
new_of_zero s past e n = by (e.domain.0 == 0) refl (acting_cases s past e.domain.0 e.thread.0 e.act n.thread)
  where
    by : (b : Bool) → (e.domain.0 == 0) ≡ b →
        (((e.domain.0 == 0) ≡ true) × (e.thread.0 ≡ 0) × (zero_may_now s past e.act ≡ true)) ⊎ (((e.domain.0 == 0) ≡ false) × (domain_thread past e.domain.0 e.act ≡ Some e.thread.0)) → (if b then new_threads e.act e.reply else []) ≡ []
    by false q c = refl
    by true q (inl z) = zero_adds_none s past e.act e.reply z.2
    by true q (inr x) = cc (x.0, q)

zero_threads : (s : System) (past : Past) → IsAdmittedPast s past → service_threads past 0 ≡ []
unfolding service_threads
zero_threads s [] h = refl
zero_threads s (e ∷ past) h = ap2 (λ (xs ys : List ServiceId). xs ++ ys) (zero_threads s past h.1) (new_of_zero s past e h.0)

-- ---- no entry is of a thread that isn't there

-- an entry of a thread that isn't there before it
pub stranger : (s : System) (past : Past) (e : Entry) (d t : ℕ) → IsNext s past e → length (service_threads past d) < t → is_of_thread d t e ≡ false
unfolding is_of_thread is_own
stranger s past e d t n l = by (e.domain.0 == d && (e.thread.0 == t)) refl
  where
    by : (b : Bool) → (e.domain.0 == d && (e.thread.0 == t)) ≡ b → b ≡ false
    by false q = refl
    by true q =
        let x = both (e.domain.0 == d) (e.thread.0 == t) q in
        let w = acting_within s past e.domain.0 e.thread.0 e.act n.thread in
        let v : e.thread.0 ≤ length (service_threads past d) = subst (λ (k : ℕ). e.thread.0 ≤ length (service_threads past k)) (eq_of e.domain.0 d x.0) w in
        absurd (omega (arith, l, v, eq_of e.thread.0 t x.1))

-- a thread that isn't there has no entry and serves nothing
pub record IsAbsent (past : Past) (d t : ℕ) : Type 0 where
  pub last : last_of_thread past d t ≡ None
  pub serves : served_call past d t ≡ None

-- a domain's threads stay
pub threads_grow : (e : Entry) (past : Past) (d : ℕ) → length (service_threads past d) ≤ length (service_threads (e ∷ past) d)
unfolding service_threads
threads_grow e past d = omega (arith, length-append (service_threads past d) (new_threads_of d e))

-- a thread that isn't there is absent
pub absent : (s : System) (past : Past) (d t : ℕ) → IsAdmittedPast s past → length (service_threads past d) < t → IsAbsent past d t
unfolding last_of_thread served_call
absent s [] d t h l = record { last = refl; serves = refl }
absent s (e ∷ past) d t h l = by (absent s past d t h.1 before)
  where
    before : length (service_threads past d) < t
    before = omega (arith, l, threads_grow e past d)

    other : is_of_thread d t e ≡ false
    other = stranger s past e d t h.0 before

    by : IsAbsent past d t → IsAbsent (e ∷ past) d t
    by i = record { last = last_same e past d t other ∙ i.last; serves = serves_same e past d t other ∙ i.serves }

-- ---- what runs after another thread's entry ran before it

get_old : (e : Entry) (past : Past) (d i : ℕ) → i < length (service_threads past d) → slice_get (service_threads (e ∷ past) d) i ≡ slice_get (service_threads past d) i
unfolding service_threads
get_old e past d i l = get_left (service_threads past d) (new_threads_of d e) i l

below : (i n : ℕ) → nat_lt i n ≡ true → i < n
below i n h = grind (arith, nat_tests)

above : (i n : ℕ) → nat_lt i n ≡ false → n ≤ i
above i n h = grind (arith, nat_tests)

idles : {A : Type 0} (o : Option ServiceId) → passes is_running_state (option_map (state_with None None) o) ≡ true → A
unfolding passes state_by_last serving_state is_running_state
idles None h = cc
idles (Some k) h = cc

pub ran_before : (s : System) (past : Past) (e : Entry) (d t : ℕ) → IsNext s past e → IsAdmittedPast s past → is_of_thread d t e ≡ false →
    passes is_running_state (thread_state (e ∷ past) d t) ≡ true → passes is_running_state (thread_state past d t) ≡ true
unfolding thread_state
ran_before s past e d zero n h o r =
    ap (λ (x : Option Entry). passes is_running_state (Some (state_by_last thread.Running x))) (sym (last_same e past d 0 o)) ∙ r
ran_before s past e d (suc t) n h o r = by (nat_lt t (length (service_threads past d))) refl
  where
    same : passes is_running_state (option_map (state_with (served_call past d (suc t)) (last_of_thread past d (suc t))) (slice_get (service_threads (e ∷ past) d) t)) ≡ true
    same =
        ap2 (λ (c : Option CallId) (x : Option Entry). passes is_running_state (option_map (state_with c x) (slice_get (service_threads (e ∷ past) d) t)))
        (sym (serves_same e past d (suc t) o)) (sym (last_same e past d (suc t) o))
        ∙ r

    by : (b : Bool) → nat_lt t (length (service_threads past d)) ≡ b → passes is_running_state (option_map (state_with (served_call past d (suc t)) (last_of_thread past d (suc t))) (slice_get (service_threads past d) t)) ≡ true
    by true q =
        ap (λ (x : Option ServiceId). passes is_running_state (option_map (state_with (served_call past d (suc t)) (last_of_thread past d (suc t))) x)) (sym (get_old e past d t (below t (length (service_threads past d)) q)))
        ∙ same
    by false q =
        let i = absent s past d (suc t) h (omega (arith, above t (length (service_threads past d)) q)) in
        idles (slice_get (service_threads (e ∷ past) d) t)
        (ap2 (λ (c : Option CallId) (x : Option Entry). passes is_running_state (option_map (state_with c x) (slice_get (service_threads (e ∷ past) d) t))) (sym i.serves) (sym i.last) ∙ same)

-- ---- one thread runs

-- where another thread ran, this one has no entry
quiet_other : (s : System) (past : Past) (e : Entry) (t : ℕ) → IsNext s past e → ((t k : ℕ) → Runs past e.domain.0 t → Runs past e.domain.0 k → t ≡ k) →
    (e.domain.0 == 0) ≡ false → Runs past e.domain.0 t → t ≡ e.thread.0
quiet_other s past e t n one z r = elim (acting_cases s past e.domain.0 e.thread.0 e.act n.thread) [
  | inl x ↦ cc (x.0, z)
  | inr x ↦ elim (domain_cases past e.domain.0 e.thread.0 e.act x.1) [
    | inl y ↦ one t e.thread.0 r (running_runs past e.domain.0 e.thread.0 y.0)
    | inr y ↦ cc (none_runs past e.domain.0 t y.0 y.1 r, r)
  ]
]

-- of Domain Zero's threads, thread 0 alone runs
zero_runs : (s : System) (past : Past) (t : ℕ) → IsAdmittedPast s past → Runs past 0 t → t ≡ 0
unfolding thread_state passes
zero_runs s past zero h r = refl
zero_runs s past (suc t) h r =
    cc (ap (λ (ss : List ServiceId). passes is_running_state (option_map (state_with (served_call past 0 (suc t)) (last_of_thread past 0 (suc t))) (slice_get ss t))) (sym (zero_threads s past h)), r)

start_runs : (d t : ℕ) → Runs [] d t → t ≡ 0
unfolding thread_state service_threads passes
start_runs d zero r = refl
start_runs d (suc t) r = cc

-- after its own entry, that entry's thread alone may run
actor_runs : (s : System) (past : Past) (e : Entry) (t : ℕ) → IsNext s past e → IsAdmittedPast s past → ((t k : ℕ) → Runs past e.domain.0 t → Runs past e.domain.0 k → t ≡ k) →
    (e.domain.0 == 0) ≡ false → Runs (e ∷ past) e.domain.0 t → t ≡ e.thread.0
unfolding is_of_thread is_own
actor_runs s past e t n h one z r = by (e.thread.0 == t) refl
  where
    by : (b : Bool) → (e.thread.0 == t) ≡ b → t ≡ e.thread.0
    by true q = sym (eq_of e.thread.0 t q)
    by false q = quiet_other s past e t n one z (ran_before s past e e.domain.0 t n h (not_own q) r)
      where
        not_own : (e.thread.0 == t) ≡ false → is_of_thread e.domain.0 t e ≡ false
        not_own q = ap (λ (b : Bool). (e.domain.0 == e.domain.0) && b) q ∙ and_false (e.domain.0 == e.domain.0)

not_of : (e : Entry) (d t : ℕ) → is_own d e ≡ false → is_of_thread d t e ≡ false
unfolding is_of_thread
not_of e d t q = ap (λ (b : Bool). b && (e.thread.0 == t)) q

same_threads : (e : Entry) (past : Past) (d : ℕ) → is_own d e ≡ false → service_threads (e ∷ past) d ≡ service_threads past d
unfolding service_threads new_threads_of
same_threads e past d q = ap (λ (b : Bool). service_threads past d ++ (if b then new_threads e.act e.reply else [])) q ∙ append-nil _

own_domain : (e : Entry) (d : ℕ) → is_own d e ≡ true → e.domain.0 ≡ d
unfolding is_own
own_domain e d q = eq_of e.domain.0 d q

-- at most one thread of a domain runs
pub one_runner : (s : System) (past : Past) → IsAdmittedPast s past → RunsOneThread past
one_runner s [] h d t k x y = start_runs d t x ∙ sym (start_runs d k y)
one_runner s (e ∷ past) h d t k x y = by (is_own d e) refl (one_runner s past h.1)
  where
    same : is_own d e ≡ false → (t : ℕ) → Runs (e ∷ past) d t → Runs past d t
    same q t x = ap (passes is_running_state) (sym (other_thread e past d t (not_of e d t q) (same_threads e past d q))) ∙ x

    own : (b : Bool) → (e.domain.0 == 0) ≡ b → e.domain.0 ≡ d → ((t k : ℕ) → Runs past e.domain.0 t → Runs past e.domain.0 k → t ≡ k) → t ≡ k
    own true z q one = at_zero t x ∙ sym (at_zero k y)
      where
        at_zero : (t : ℕ) → Runs (e ∷ past) d t → t ≡ 0
        at_zero t x = zero_runs s (e ∷ past) t h (subst (λ (n : ℕ). Runs (e ∷ past) n t) (sym q ∙ eq_of e.domain.0 0 z) x)
    own false z q one = at_actor t x ∙ sym (at_actor k y)
      where
        at_actor : (t : ℕ) → Runs (e ∷ past) d t → t ≡ e.thread.0
        at_actor t x = actor_runs s past e t h.0 h.1 one z (subst (λ (n : ℕ). Runs (e ∷ past) n t) (sym q) x)

    by : (b : Bool) → is_own d e ≡ b → RunsOneThread past → t ≡ k
    by false q one = one d t k (same q t x) (same q k y)
    by true q one = own (e.domain.0 == 0) refl (own_domain e d q) (one e.domain.0)
