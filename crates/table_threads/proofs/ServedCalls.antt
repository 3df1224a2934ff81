-- What a thread serves is a call of its service.
use Rattle.std.proofs.Common.{◌≡◌, refl, sym, ◌∙◌, ap, ℕ, suc, ◌<◌, ◌≤◌, Bool, true, false, [], ◌∷◌, length, Option, Some, None, arith, ◌==◌, ◌⊎◌, inl, inr, slice_get}
use Rattle.std.specs.Prelude.{nat_le}
use Rattle.std.proofs.lemmas.Bool.Decides.{nat_tests}
use Rattle.jx_base.specs.declared.act.Act.{Act}
use Rattle.jx_base.specs.declared.act.Act.TheVariants as act
use Rattle.jx_base.specs.declared.act.Reply.{Reply}
use Rattle.jx_base.specs.declared.act.Reply.TheVariants as reply
use Rattle.jx_base.specs.declared.act.Entry.{Entry}
use Rattle.jx_base.specs.declared.ids.CallId.{CallId}
use Rattle.jx_base.specs.declared.ids.ServiceId.{ServiceId}
use Rattle.jx_base.specs.declared.states.ThreadState.{ThreadState}
use Rattle.jx_base.specs.declared.program.System.{System}
use Rattle.jx_base.specs.Basics.{passes}
use Rattle.jx_base.specs.Histories.{Past, is_own}
use Rattle.jx_model.specs.Domains.{is_live}
use Rattle.jx_model.specs.Threads.{service_threads, new_threads_of, served_call, thread_state, state_by_last, state_after, serving_state, last_of_thread, running_thread, is_of_thread}
use Rattle.jx_model.specs.Calls.{service_of_call}
use Rattle.jx_model.specs.Permits.{acting_thread, is_halt, zero_may, choice_thread, taking_thread, idle_thread, is_idle_for, is_head, domain_thread, may_perform, is_zero_act, is_choice}
use Rattle.jx_model.specs.Legal.{IsAdmittedPast}
use Rattle.jx_base.proofs.BasicLaws.{ap2, both, eq_of, get_left}
use Rattle.jx_model.proofs.Acting.{where_passes, acting_within, chosen, of_then}
use Rattle.jx_model.proofs.CallSteps.{service_made}
use Rattle.jx_model.proofs.Serving.{in_domain, of_none, served, served_before, take_at}
use Rattle.jx_model.proofs.OneThread.{absent}
use Rattle.std.specs.Option.{option_and_then, option_map}

-- ---- the service of what a thread serves

idle_after : (k : ℕ) (x : ThreadState) (a : Act) (r : Reply) → is_idle_for k (state_after x a r) ≡ true → is_idle_for k x ≡ true
unfolding state_after is_idle_for
idle_after k x (act.Call s m p) (reply.Queued c) h = cc
idle_after k x act.Yield r h = cc
idle_after k x (act.EndThread c) r h = cc
idle_after k x _ _ h = h

idle_last : (k : ℕ) (x : ThreadState) (o : Option Entry) → is_idle_for k (state_by_last x o) ≡ true → is_idle_for k x ≡ true
unfolding state_by_last
idle_last k x None h = h
idle_last k x (Some e) h = idle_after k x e.act e.reply h

idle_serving : (k : ℕ) (s : ServiceId) (c : Option CallId) → is_idle_for k (serving_state s c) ≡ true → s.0 ≡ k
unfolding serving_state is_idle_for
idle_serving k s None h = eq_of s.0 k h
idle_serving k s (Some c) h = cc

-- the thread that takes a call is one of the call's service
pub taker_service : (s : System) (past : Past) (d t : ℕ) (c : CallId) (k : ServiceId) → acting_thread s past d (act.Take c) ≡ Some (suc t) → slice_get (service_threads past d) t ≡ Some k → service_of_call past c.0 ≡ Some k.0
unfolding is_halt zero_may domain_thread may_perform is_zero_act is_choice choice_thread taking_thread idle_thread thread_state passes
taker_service s past d t c k h g =
    let n = of_none (running_thread past d) (is_live past d) (suc t) (taking_thread past d c.0) (in_domain s past d (suc t) (act.Take c) refl refl h).1 in
    let q = chosen (is_head past d c.0) (suc t) (option_and_then (idle_thread past d) (service_of_call past c.0)) n.2 in
    let j = of_then (service_of_call past c.0) (idle_thread past d) (suc t) q.1 in
    let w = where_passes past d (suc t) (is_idle_for j.0) j.2 in
    let v = ap (λ (o : Option ServiceId). passes (is_idle_for j.0) (option_map (λ s. state_by_last (serving_state s (served_call past d (suc t))) (last_of_thread past d (suc t))) o)) (sym g) ∙ w in
    let z = idle_serving j.0 k (served_call past d (suc t)) (idle_last j.0 (serving_state k (served_call past d (suc t))) (last_of_thread past d (suc t)) v) in
    j.1 ∙ ap Some (sym z)

-- a thread serves a call of its service
pub served_service : (s : System) (past : Past) (d t : ℕ) (c : CallId) (k : ServiceId) → IsAdmittedPast s past → served_call past d (suc t) ≡ Some c → slice_get (service_threads past d) t ≡ Some k → service_of_call past c.0 ≡ Some k.0
unfolding served_call service_threads is_of_thread is_own
served_service s [] d t c k a h g = cc
served_service s (e ∷ past) d t c k a h g = by (served_before e past d (suc t) c h) (served_service s past d t c k a.1)
  where
    before : suc t ≤ length (service_threads past d) → slice_get (service_threads past d) t ≡ Some k
    before l = sym (get_left (service_threads past d) (new_threads_of d e) t (omega (arith, l))) ∙ g

    there : served_call past d (suc t) ≡ Some c → suc t ≤ length (service_threads past d)
    there w = by (nat_le (suc t) (length (service_threads past d))) refl
      where
        within : (x y : ℕ) → nat_le x y ≡ true → x ≤ y
        within x y q = grind (arith, nat_tests)

        beyond : (x y : ℕ) → nat_le x y ≡ false → y < x
        beyond x y q = grind (arith, nat_tests)

        by : (b : Bool) → nat_le (suc t) (length (service_threads past d)) ≡ b → suc t ≤ length (service_threads past d)
        by true q = within (suc t) (length (service_threads past d)) q
        by false q = cc ((absent s past d (suc t) a.1 (beyond (suc t) (length (service_threads past d)) q)).serves, w)

    by : ((is_of_thread d (suc t) e ≡ true) × (e.act ≡ act.Take c)) ⊎ (served_call past d (suc t) ≡ Some c) →
        (served_call past d (suc t) ≡ Some c → slice_get (service_threads past d) t ≡ Some k → service_of_call past c.0 ≡ Some k.0) → service_of_call (e ∷ past) c.0 ≡ Some k.0
    by (inl x) again =
        let y = both (e.domain.0 == d) (e.thread.0 == suc t) x.0 in
        let p = eq_of e.domain.0 d y.0 in
        let q = eq_of e.thread.0 (suc t) y.1 in
        let n : acting_thread s past d (act.Take c) ≡ Some (suc t) = ap2 (acting_thread s past) (sym p) (sym x.1) ∙ a.0.thread ∙ ap Some q in
        service_made e past c.0 (take_at s past e c a.0 x.1).high ∙ taker_service s past d t c k n (before (acting_within s past d (suc t) (act.Take c) n))
    by (inr x) again = service_made e past c.0 (served s past d (suc t) c a.1 x).high ∙ again x (before (there x))
