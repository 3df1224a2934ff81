-- States that are some instructions later.
use Rattle.std.proofs.Common.{◌≡◌, refl, sym, ◌∙◌, ap, subst, ℕ, zero, suc, ◌+◌, ◌<◌, List, [], ◌∷◌, length, Option, Some, None, arith}
use Rattle.std.specs.Prelude.{slice_get, slice_set, IsSomeAnd}
use Rattle.std.proofs.lemmas.Option.{slice_get_within}
use Rattle.jx_base.specs.declared.act.Act.{Act}
use Rattle.jx_base.specs.declared.act.Act.TheVariants as act
use Rattle.jx_base.specs.declared.act.Reason.TheVariants as reason
use Rattle.jx_base.specs.declared.program.System.{System}
use Rattle.jx_base.specs.Histories.{Past}
use Rattle.machine_laws.specs.Standing.{Stands}
use Rattle.machine_laws.proofs.Standing.{advanced_at, advanced_running, no_steps, steps_add, steps_more, steps_running}
use Rattle.machine_model.specs.Machine.{domain_state}
use Rattle.machine_model.specs.MachineThreads.{thread_at, with_thread}
use Rattle.machine_model.specs.Running.{Ask, Step, after_steps, ending_act, stage_step, step}
use Rattle.machine_model.specs.State.{Bad, Stage, State, Thread}
use Rattle.domain_machine.specs.Works.{Reaches, WillAsk}

pub get_set : {X : Type 0} (xs : List X) (i : ℕ) (y : X) → i < length xs → slice_get (slice_set xs i y) i ≡ Some y
get_set [] i y l = absurd (omega (arith, l))
get_set (x ∷ xs) zero y l = refl
get_set (x ∷ xs) (suc i) y l = get_set xs i y (omega (arith, l))

pub set_there : {X : Type 0} (xs : List X) (i : ℕ) (x : X) → slice_get xs i ≡ Some x → slice_set xs i x ≡ xs
set_there [] i x e = refl
set_there {X = X} (y ∷ xs) zero x e = let q : y ≡ x = cc in ap (λ (z : X). z ∷ xs) (sym q)
set_there {X = X} (y ∷ xs) (suc i) x e = ap (λ (zs : List X). y ∷ zs) (set_there xs i x e)

-- a thread that was put there is there
pub thread_put : (st : State) (k : ℕ) (x y : Thread) → thread_at st k ≡ Some x → thread_at (with_thread st k y) k ≡ Some y
unfolding thread_at with_thread
thread_put st k x y e = get_set st.threads k y (slice_get_within st.threads k x e)

-- ---- some instructions later

pub reach_here : (s : System) (k : ℕ) (st : State) → Reaches s k st st
reach_here s k st = (0, sym (no_steps s k st))

pub reach_step : (s : System) (k : ℕ) (st mid new : State) → Reaches s k st mid → step s mid k ≡ Step new → Reaches s k st new
reach_step s k st mid new r e = (suc r.0, sym (steps_more s k r.0 st new (subst (λ (x : State). step s x k ≡ Step new) r.1 e)))

pub reach_on : (s : System) (k : ℕ) (st mid new : State) → Reaches s k st mid → Reaches s k mid new → Reaches s k st new
reach_on s k st mid new r q = (r.0 + q.0, q.1 ∙ ap (after_steps s k q.0) r.1 ∙ steps_add s k r.0 q.0 (r.0 + q.0) st refl)

-- what stands for a domain does so some instructions later
pub stands_later : (s : System) (t : ℕ) (own : Past) (st new : State) (k : ℕ) → Stands s t own st → st.running ≡ Some k → Reaches s k st new → Stands s t own new
stands_later s t own st new k h r q =
    let d = domain_state s t own in
    let runs : d.running ≡ Some k = sym (advanced_running s h.0 d) ∙ ap (λ (x : State). x.running) (sym h.1) ∙ r in
    (h.0 + q.0, q.1 ∙ ap (after_steps s k q.0) (h.1 ∙ advanced_at s h.0 k d runs) ∙ steps_add s k h.0 q.0 (h.0 + q.0) d refl ∙ sym (advanced_at s (h.0 + q.0) k d runs))

-- the same thread runs
pub runs_later : (s : System) (k : ℕ) (st new : State) → Reaches s k st new → new.running ≡ st.running
runs_later s k st new q = ap (λ (x : State). x.running) q.1 ∙ steps_running s k q.0 st

pub will_ask_on : (s : System) (k : ℕ) (st mid : State) (a : Act) → Reaches s k st mid → WillAsk s k mid a → WillAsk s k st a
will_ask_on s k st mid a r w = (w.0, (reach_on s k st mid w.0 r w.1.0, w.1.1))

-- ---- a thread that met bad code

pub bad_asks : (s : System) (st : State) (k : ℕ) (x : Thread) → thread_at st k ≡ Some x → x.stage ≡ Bad → step s st k ≡ Ask (act.End reason.BadCode)
unfolding step stage_step ending_act
bad_asks s st k x e g = rw (e, step) (ap (λ (h : Stage). stage_step s st k x h) g)

pub bad_there_asks : (s : System) (st : State) (k : ℕ) → IsSomeAnd (thread_at st k) (λ x. x.stage ≡ Bad) → step s st k ≡ Ask (act.End reason.BadCode)
bad_there_asks s st k h = by (thread_at st k) refl h
  where
    by : (o : Option Thread) → thread_at st k ≡ o → IsSomeAnd o (λ x. x.stage ≡ Bad) → step s st k ≡ Ask (act.End reason.BadCode)
    by None e h = absurd h
    by (Some x) e h = bad_asks s st k x e h
