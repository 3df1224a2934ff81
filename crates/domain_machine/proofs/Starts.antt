-- What a machine holds at the start.
use Rattle.std.proofs.Common.{◌≡◌, refl, sym, ◌∙◌, ap, subst, ℕ, Bool, false, List, [], ◌∷◌, ◌++◌, Some, None}
use Rattle.std.specs.Prelude.{IsSomeAnd}
use Rattle.jx_base.specs.declared.program.System.{System}
use Rattle.jx_base.specs.declared.program.Template.{Template}
use Rattle.interp_core.specs.Cores.{core_state, store_of}
use Rattle.interp_core.specs.declared.cores.Core.{Core as OneCore}
use Rattle.machine_model.specs.Machine.{domain_state}
use Rattle.machine_model.specs.MachineThreads.{after_finish, idle_thread, thread_at, with_store, with_thread}
use Rattle.machine_model.specs.Start.{first_store, initializers, mains, start_of}
use Rattle.machine_model.specs.State.{Bad, Going, Stage, State, Store, Thread}
use Rattle.machine_replies.specs.Leaving.{HasCome, left_as, stage_of}
use Rattle.machine_replies.specs.declared.stage.Stage.{Stage as OneStage}
use Rattle.machine_replies.specs.declared.stage.Stage.TheVariants as stage
use Rattle.program_model.specs.Lookup.{template_at}
use Rattle.domain_machine.specs.declared.held.Held.{Held}
use Rattle.domain_machine.specs.declared.threads.Thread.{Thread as OneThread}
use Rattle.domain_machine.specs.Entering.{IsSetTo, Leads, held_state}
use Rattle.domain_machine.specs.Works.{thread_of}

-- the state in which nothing has begun
abbrev pub nothing_begun : System → Template → State
nothing_begun s t = record { fuel = t.fuel; store = first_store s t; threads = idle_thread ∷ []; running = Some 0 }

-- thread 0 with its methods
abbrev pub first_thread : System → Template → Thread
first_thread s t = record idle_thread { waiting = initializers s t ++ mains s t }

pub state_is : (s : System) (k : ℕ) (t : Template) → template_at s k ≡ Some t → domain_state s k [] ≡ after_finish s (nothing_begun s t) 0 (first_thread s t) None
unfolding domain_state start_of
state_is s k t e = rw (e, domain_state) refl

module _ (s : System) (t : Template) (begun : OneCore) (held : Held) (put new : OneThread) (waiting : List ℕ) (g : OneStage) (bad : Bool)
    (is : thread_of put ≡ record (first_thread s t) { frames = (core_state begun).frames; waiting = waiting })
    (threads : held.threads.items ≡ new ∷ []) (store : store_of held.core ≡ store_of begun) (fuel : held.fuel ≡ t.fuel) (running : held.running ≡ Some 0) (after : State) where
  shown : (y : Thread) → thread_of new ≡ y → held_state held ≡ with_thread (with_store (nothing_begun s t) (store_of begun)) 0 y
  unfolding with_thread with_store
  shown y e = rw (threads, store, fuel, running, e) refl

  there : (y : Thread) (c : Store) → y.stage ≡ Bad → IsSomeAnd (thread_at (with_thread (with_store (nothing_begun s t) c) 0 y) 0) (λ x. x.stage ≡ Bad)
  unfolding with_thread with_store thread_at
  there y c e = e

  runs : (y : Thread) (c : Store) → (with_thread (with_store (nothing_begun s t) c) 0 y).running ≡ Some 0
  unfolding with_thread with_store
  runs y c = refl

  come : (e : Stage) → after ≡ left_as (nothing_begun s t) 0 (record (first_thread s t) { waiting = waiting }) (core_state begun) e → thread_of new ≡ record (thread_of put) { stage = e } → bad ≡ false → Leads 0 after held bad
  come e w q b = subst (Leads 0 after held) (sym b) (shown _ (q ∙ ap (λ (y : Thread). record y { stage = e }) is) ∙ sym w)

  pub leads : HasCome (nothing_begun s t) 0 (record (first_thread s t) { waiting = waiting }) (core_state begun) g after → IsSetTo put (Some g) new bad → Leads 0 after held bad
  leads w e = by g w e
    where
      by : (g : OneStage) → HasCome (nothing_begun s t) 0 (record (first_thread s t) { waiting = waiting }) (core_state begun) g after → IsSetTo put (Some g) new bad → Leads 0 after held bad
      by stage.Going w e = come Going w (ap thread_of e.0) e.1
      by (stage.Returned v) w e = come (stage_of (stage.Returned v)) w.0 (ap thread_of e.0) e.1
      by (stage.Threw r) w e = come (stage_of (stage.Threw r)) w.0 (ap thread_of e.0) e.1
      by stage.Bad w e =
          let y : Thread = record (first_thread s t) { waiting = waiting; frames = w.0.frames; stage = Bad } in
          subst (Leads 0 after held) (sym e) (subst (λ (z : State). (z.running ≡ Some 0) × IsSomeAnd (thread_at z 0) (λ x. x.stage ≡ Bad)) (sym w.1) (runs y w.0.store, there y w.0.store refl))
