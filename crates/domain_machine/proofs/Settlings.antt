-- What an entry makes of its thread.
use Rattle.std.proofs.Common.{◌≡◌, refl, sym, ◌∙◌, ap, subst, ℕ, Bool, false, List, Option, Some, None}
use Rattle.std.specs.Prelude.{IsSomeAnd, Vec, reverse}
use Rattle.jx_base.specs.declared.frame.Frame.{Frame}
use Rattle.jx_base.specs.declared.ids.CallId.{CallId}
use Rattle.jx_base.specs.declared.ids.MethodId.{MethodId}
use Rattle.jx_base.specs.declared.ids.ServiceId.{ServiceId}
use Rattle.jx_base.specs.declared.program.System.{System}
use Rattle.jx_base.specs.declared.value.Parcel.{Parcel}
use Rattle.machine_model.specs.AfterEntry.{after_take}
use Rattle.domain_machine.specs.Taking.{taken_by}
use Rattle.std.specs.declared.alloc.Global.{Global}
use Rattle.interp_core.specs.Cores.{core_state, store_of}
use Rattle.interp_core.specs.declared.cores.Core.{Core as OneCore}
use Rattle.machine_model.specs.MachineThreads.{thread_at, with_store, with_thread}
use Rattle.machine_model.specs.State.{Bad, Core, Going, Stage, State, Store, Thread}
use Rattle.machine_replies.specs.Leaving.{Comes, GoesOn, HasCome, Leaves, LeavesAs, left_as, stage_of}
use Rattle.machine_replies.specs.declared.stage.Stage.{Stage as OneStage}
use Rattle.machine_replies.specs.declared.stage.Stage.TheVariants as stage
use Rattle.domain_machine.specs.declared.threads.Thread.{Thread as OneThread}
use Rattle.domain_machine.specs.Entering.{HasBad, IsSetTo, Settles, SettlesAs}
use Rattle.domain_machine.specs.Works.{thread_of}
use Rattle.domain_machine.proofs.Reaching.{set_there, thread_put}

-- the thread that was put there is bad
bad_put : (st : State) (t : ℕ) (x y : Thread) (core : Core) → thread_at st t ≡ Some x → y.stage ≡ Bad → HasBad t st (with_thread (with_store st core.store) t y)
unfolding with_thread with_store thread_at
bad_put st t x y core e b = record {
  running = refl;
  bad = subst (λ (o : Option Thread). IsSomeAnd o (λ z. z.stage ≡ Bad)) (sym (thread_put st t x y e)) b;
}

-- the state in which the thread is as it was
same_put : (st : State) (t : ℕ) (x : Thread) (store : Store) → thread_at st t ≡ Some x → with_store st store ≡ with_thread (with_store st store) t x
unfolding with_thread with_store thread_at
same_put st t x store e = rw (set_there st.threads t x e) refl

-- what it has come to doesn't tell what it was at
set_any : (put new : OneThread) (g : OneStage) (bad : Bool) → IsSetTo put (Some g) new bad → IsSetTo (record put { stage = stage.Going }) (Some g) new bad
set_any put new stage.Bad bad e = e
set_any put new stage.Going bad e = e
set_any put new (stage.Returned v) bad e = e
set_any put new (stage.Threw r) bad e = e

module _ (left : OneCore) (put new : OneThread) (st : State) (t : ℕ) (x y : Thread) (there : thread_at st t ≡ Some y)
    (is : thread_of put ≡ record x { frames = (core_state left).frames }) (after : State) (bad : Bool) where
  settled : (g : Stage) → after ≡ left_as st t x (core_state left) g → thread_of new ≡ record (thread_of put) { stage = g } → bad ≡ false → SettlesAs st t (store_of left) (thread_of new) bad after
  settled g w q b =
      subst (λ (b : Bool). SettlesAs st t (store_of left) (thread_of new) b after) (sym b)
      (w ∙ ap (with_thread (with_store st (store_of left)) t) (sym (q ∙ ap (λ (y : Thread). record y { stage = g }) is)))

  -- the thread has come to the stage
  pub come_settles : (g : OneStage) → HasCome st t x (core_state left) g after → IsSetTo put (Some g) new bad → SettlesAs st t (store_of left) (thread_of new) bad after
  come_settles stage.Bad w e =
      subst (λ (b : Bool). SettlesAs st t (store_of left) (thread_of new) b after) (sym e)
      (subst (HasBad t st) (sym w.1) (bad_put st t y (record x { frames = w.0.frames; stage = Bad }) w.0 there refl))
  come_settles stage.Going w e = settled Going w (ap thread_of e.0) e.1
  come_settles (stage.Returned v) w e = settled (stage_of (stage.Returned v)) w.0 (ap thread_of e.0) e.1
  come_settles (stage.Threw r) w e = settled (stage_of (stage.Threw r)) w.0 (ap thread_of e.0) e.1

  -- the same, or the thread is as it was
  pub left_settles : (g : Option OneStage) → y ≡ x → LeavesAs st t x (core_state left) g after → IsSetTo put g new bad → SettlesAs st t (store_of left) (thread_of new) bad after
  left_settles (Some g) q w e = come_settles g w e
  left_settles None q w e =
      let z : thread_of new ≡ x = ap thread_of e.0 ∙ is ∙ ap (λ (fs : List Frame). record x { frames = fs }) w.1 in
      subst (λ (b : Bool). SettlesAs st t (store_of left) (thread_of new) b after) (sym e.1)
      (w.0 ∙ same_put st t y (store_of left) there ∙ ap (with_thread (with_store st (store_of left)) t) (q ∙ sym z))

-- ---- with the frames in the core, and back

module _ (first lent left back : OneCore) (old away put new : OneThread) (frames : lent.frames ≡ old.frames) (kept : away ≡ record old { frames = first.frames })
    (store : store_of lent ≡ store_of first) (came : put ≡ record away { frames = left.frames }) (again : store_of back ≡ store_of left) where
  put_is : thread_of put ≡ record (thread_of old) { frames = (core_state left).frames }
  put_is = ap thread_of (came ∙ ap (λ (y : OneThread). record y { frames = left.frames }) kept)

  pub leaves_settle : (g : Option OneStage) (bad : Bool) (f : State → ℕ → Thread → State) → Leaves (core_state lent) (core_state left) g f → IsSetTo put g new bad → Settles (store_of first) (thread_of old) (store_of back) (thread_of new) f bad
  leaves_settle g bad f w e st t h =
      subst (λ (c : Store). SettlesAs st t c (thread_of new) bad (f st t (thread_of old))) (sym again)
      (left_settles left put new st t (thread_of old) (thread_of old) h.there put_is (f st t (thread_of old)) bad g refl
      (w st t (thread_of old) (record { store = h.store ∙ sym store; frames = ap (λ (fs : Vec Frame Global). reverse fs.items) (sym frames) })) e)

  pub takes_settle : (call : CallId) (g : OneStage) (bad : Bool) (s : System) (service : ServiceId) (method : MethodId) (p : Parcel) → Comes (core_state lent) (core_state left) g (λ st t x. after_take s st t x service method p) →
      IsSetTo (record put { call = Some call }) (Some g) new bad → Settles (store_of first) (thread_of old) (store_of back) (thread_of new) (taken_by s call service method p) bad
  takes_settle call g bad s service method p w e st t h =
      let x : Thread = record (thread_of old) { call = Some call; stage = Going } in
      let q : thread_of (record put { call = Some call; stage = stage.Going }) ≡ record x { frames = (core_state left).frames } = ap (λ (y : Thread). record y { call = Some call; stage = Going }) put_is in
      subst (λ (c : Store). SettlesAs st t c (thread_of new) bad (after_take s st t x service method p)) (sym again)
      (come_settles left (record put { call = Some call; stage = stage.Going }) new st t x (thread_of old) h.there q (after_take s st t x service method p) bad g
      (w st t x (record { store = h.store ∙ sym store; frames = ap (λ (fs : Vec Frame Global). reverse fs.items) (sym frames) })) (set_any (record put { call = Some call }) new g bad e))

-- a thread that goes on is not bad
pub goes_on_well : (old new : OneThread) (g : Option OneStage) (bad : Bool) → GoesOn g → IsSetTo old g new bad → bad ≡ false
goes_on_well old new None bad h e = e.1
goes_on_well old new (Some stage.Going) bad h e = e.1
goes_on_well old new (Some (stage.Returned v)) bad h e = absurd h
goes_on_well old new (Some (stage.Threw r)) bad h e = absurd h
goes_on_well old new (Some stage.Bad) bad h e = absurd h
