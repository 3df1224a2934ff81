-- What an act that is permitted says of the threads.
use Rattle.std.proofs.Common.{◌≡◌, refl, sym, ◌∙◌, ap, ℕ, suc, zero, ◌+◌, ◌≤◌, Bool, true, false, length, Option, Some, None, arith, ◌==◌, if◌then◌else◌, ◌⊎◌, inl, inr, slice_get}
use Rattle.std.specs.List.{range_with_len, find}
use Rattle.std.proofs.lemmas.Option.{slice_get_within}
use Rattle.jx_base.specs.declared.act.Act.{Act}
use Rattle.jx_base.specs.declared.act.Act.TheVariants as act
use Rattle.jx_base.specs.declared.ids.ServiceId.{ServiceId}
use Rattle.jx_base.specs.declared.program.System.{System}
use Rattle.jx_base.specs.declared.states.ThreadState.{ThreadState}
use Rattle.jx_base.specs.Basics.{passes}
use Rattle.jx_base.specs.Histories.{Past}
use Rattle.jx_model.specs.Domains.{is_live}
use Rattle.jx_model.specs.Threads.{service_threads, threads_of, thread_state, thread_where, running_thread, is_running_state}
use Rattle.jx_model.specs.Calls.{service_of_call, is_resumable}
use Rattle.jx_model.specs.Permits.{acting_thread, is_over, zero_may_now, domains_wait, domain_thread, may_perform, choice_thread, taking_thread, is_head, idle_thread, is_idle_for, resuming_thread, is_waiting_for, going_thread, is_yielded}
use Rattle.jx_base.proofs.BasicLaws.{found, none_found, passed}
use Rattle.std.specs.Option.{option_and_then, option_map}

-- what a test chooses
pub chosen : (b : Bool) (t : ℕ) (x : Option ℕ) → (if b then x else None) ≡ Some t → (b ≡ true) × (x ≡ Some t)
chosen true t x h = (refl, h)
chosen false t x h = cc

-- what comes of a value that is there
pub of_then : (o : Option ℕ) (f : ℕ → Option ℕ) (t : ℕ) → option_and_then f o ≡ Some t → (k : ℕ) × (o ≡ Some k) × (f k ≡ Some t)
of_then None f t h = cc
of_then (Some k) f t h = (k, refl, h)

-- Domain Zero acts in thread 0, and other domains by their own threads
pub acting_cases : (s : System) (past : Past) (d t : ℕ) (a : Act) → acting_thread s past d a ≡ Some t →
    (((d == 0) ≡ true) × (t ≡ 0) × (zero_may_now s past a ≡ true)) ⊎ (((d == 0) ≡ false) × (domain_thread past d a ≡ Some t))
unfolding acting_thread
acting_cases s past d t a h = by (is_over past) (d == 0) (zero_may_now s past a) (domains_wait s past) h
  where
    by : (o z m w : Bool) → (if o then None else if z then (if m then Some 0 else None) else if w then None else domain_thread past d a) ≡ Some t →
        ((z ≡ true) × (t ≡ 0) × (m ≡ true)) ⊎ ((z ≡ false) × (domain_thread past d a ≡ Some t))
    by true z m w h = cc
    by false true true w h = let q : 0 ≡ t = cc in inl (refl, sym q, refl)
    by false true false w h = cc
    by false false m true h = cc
    by false false m false h = inr (refl, h)

-- the thread runs, or none does and a choice lets it run
pub domain_cases : (past : Past) (d t : ℕ) (a : Act) → domain_thread past d a ≡ Some t →
    ((running_thread past d ≡ Some t) × (may_perform past d t a ≡ true)) ⊎ ((running_thread past d ≡ None) × (is_live past d ≡ true) × (choice_thread past d a ≡ Some t))
unfolding domain_thread
domain_cases past d t a h = by (running_thread past d) (is_live past d) h
  where
    runs : (r : ℕ) (m : Bool) → may_perform past d r a ≡ m → (if m then Some r else None) ≡ Some t → (Some r ≡ Some t) × (may_perform past d t a ≡ true)
    runs r true q h = (h, let z : r ≡ t = cc in ap (λ (k : ℕ). may_perform past d k a) (sym z) ∙ q)
    runs r false q h = cc

    by : (o : Option ℕ) (l : Bool) → (elim o as (λ _. Option ℕ) [ Some r ↦ if may_perform past d r a then Some r else None | None ↦ if l then choice_thread past d a else None ]) ≡ Some t →
        ((o ≡ Some t) × (may_perform past d t a ≡ true)) ⊎ ((o ≡ None) × (l ≡ true) × (choice_thread past d a ≡ Some t))
    by (Some r) l h = inl (runs r (may_perform past d r a) refl h)
    by None l h = let x = chosen l t (choice_thread past d a) h in inr (refl, x.0, x.1)

-- ---- threads that are there

-- a thread that has a state is one of the domain's
pub state_within : (past : Past) (d t : ℕ) (x : ThreadState) → thread_state past d t ≡ Some x → t ≤ length (service_threads past d)
unfolding thread_state
state_within past d zero x h = omega arith
state_within past d (suc t) x h = by _ (slice_get (service_threads past d) t) refl h
  where
    by : (f : ServiceId → ThreadState) (o : Option ServiceId) → slice_get (service_threads past d) t ≡ o → option_map f o ≡ Some x → suc t ≤ length (service_threads past d)
    by f None q h = cc
    by f (Some k) q h = omega (arith, slice_get_within (service_threads past d) t k q)

pub where_within : (past : Past) (d t : ℕ) (p : ThreadState → Bool) → thread_where past d p ≡ Some t → t ≤ length (service_threads past d)
unfolding thread_where threads_of
where_within past d t p h = omega (arith, (found (λ k. passes p (thread_state past d k)) 0 (length (service_threads past d) + 1) t h).2)

pub where_passes : (past : Past) (d t : ℕ) (p : ThreadState → Bool) → thread_where past d p ≡ Some t → passes p (thread_state past d t) ≡ true
unfolding thread_where threads_of
where_passes past d t p h = (found (λ k. passes p (thread_state past d k)) 0 (length (service_threads past d) + 1) t h).0

-- the running thread runs
pub running_runs : (past : Past) (d t : ℕ) → running_thread past d ≡ Some t → passes is_running_state (thread_state past d t) ≡ true
unfolding running_thread
running_runs past d t h = where_passes past d t is_running_state (chosen (is_live past d) t (thread_where past d is_running_state) h).1

pub running_within : (past : Past) (d t : ℕ) → running_thread past d ≡ Some t → t ≤ length (service_threads past d)
unfolding running_thread
running_within past d t h = where_within past d t is_running_state (chosen (is_live past d) t (thread_where past d is_running_state) h).1

-- a domain with a running thread is live
pub running_live : (past : Past) (d t : ℕ) → running_thread past d ≡ Some t → is_live past d ≡ true
unfolding running_thread
running_live past d t h = (chosen (is_live past d) t (thread_where past d is_running_state) h).0

-- where a live domain has no running thread, none of its threads runs
pub none_runs : (past : Past) (d t : ℕ) → running_thread past d ≡ None → is_live past d ≡ true → passes is_running_state (thread_state past d t) ≡ true → passes is_running_state (thread_state past d t) ≡ false
unfolding running_thread thread_where threads_of
none_runs past d t h l r =
    let x = passed is_running_state (thread_state past d t) r in
    none_found (λ k. passes is_running_state (thread_state past d k)) 0 (length (service_threads past d) + 1)
    (sym (ap (λ (b : Bool). if b then find (λ k. passes is_running_state (thread_state past d k)) (range_with_len 0 (length (service_threads past d) + 1)) else None) l) ∙ h)
    t (omega arith) (omega (arith, state_within past d t x.0 x.1))

choice_within : (past : Past) (d t : ℕ) (a : Act) → choice_thread past d a ≡ Some t → t ≤ length (service_threads past d)
unfolding choice_thread taking_thread resuming_thread going_thread idle_thread
choice_within past d t (act.Take c) h =
    let x = chosen (is_head past d c.0) t (option_and_then (idle_thread past d) (service_of_call past c.0)) h in
    let y = of_then (service_of_call past c.0) (idle_thread past d) t x.1 in where_within past d t (is_idle_for y.0) y.2
choice_within past d t (act.Resume c) h =
    where_within past d t (is_waiting_for c.0) (chosen (is_resumable past c.0) t (thread_where past d (is_waiting_for c.0)) h).1
choice_within past d t (act.Go k) h =
    let x = chosen (passes is_yielded (thread_state past d k.0)) t (Some k.0) h in
    let y = passed is_yielded (thread_state past d k.0) x.0 in
    let q : k.0 ≡ t = cc (x.1) in omega (arith, q, state_within past d k.0 y.0 y.1)
choice_within past d t _ h = cc

-- the thread of an act is one of the domain's
pub acting_within : (s : System) (past : Past) (d t : ℕ) (a : Act) → acting_thread s past d a ≡ Some t → t ≤ length (service_threads past d)
acting_within s past d t a h = elim (acting_cases s past d t a h) [
  | inl z ↦ omega (arith, z.1)
  | inr x ↦ elim (domain_cases past d t a x.1) [ inl y ↦ running_within past d t y.0 | inr y ↦ choice_within past d t a y.2 ]
]
