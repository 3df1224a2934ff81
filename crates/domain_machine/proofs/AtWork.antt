-- A running thread, up to its next act.
use Rattle.std.proofs.Common.{◌≡◌, refl, sym, ◌∙◌, ap, subst, ℕ, List, [], Option, Some, None, set-set}
use Rattle.std.specs.Prelude.{slice_set}
use Rattle.jx_base.specs.declared.act.Act.{Act}
use Rattle.jx_base.specs.declared.act.Act.TheVariants as act
use Rattle.jx_base.specs.declared.act.Reason.TheVariants as reason
use Rattle.jx_base.specs.declared.program.System.{System}
use Rattle.jx_base.specs.declared.value.Value.{Value}
use Rattle.jx_base.specs.Histories.{Past}
use Rattle.machine_calls.specs.Calling.{CanEndIn}
use Rattle.machine_laws.proofs.Lists.{all_get}
use Rattle.machine_laws.proofs.WholeLaw.{standing_values}
use Rattle.machine_laws.specs.Standing.{Stands}
use Rattle.machine_laws.specs.Values.{IsStageIn, IsStoreIn, IsThreadIn}
use Rattle.machine_model.specs.MachineThreads.{after_finish, thread_at, with_store, with_thread}
use Rattle.machine_model.specs.Running.{Ask, ending_act, stage_step, step}
use Rattle.machine_model.specs.State.{Bad, Core, Going, Returned, Stage, State, Store, Thread, Threw}
use Rattle.machine_replies.specs.Leaving.{CanRun, HasCome, left_as, stage_of}
use Rattle.machine_replies.specs.declared.stage.Stage.{Stage as OneStage}
use Rattle.machine_replies.specs.declared.stage.Stage.TheVariants as stage
use Rattle.domain_machine.specs.declared.running.Stop.{Stop}
use Rattle.domain_machine.specs.declared.running.Stop.TheVariants as stop
use Rattle.domain_machine.specs.Works.{CanWork, Finishes, HasReturned, IsAtWork, IsGoingOn, IsLiving, Reaches, RunsTo, Stops, StopsAs, WillAsk, at_work, come_to}
use Rattle.domain_machine.proofs.Reaching.{bad_asks, reach_on, set_there, stands_later, thread_put, will_ask_on}
use Rattle.domain_machine.proofs.Stopping.{finish_any}

-- ---- the state at the work

pub work_same : (st : State) (k : ℕ) (store : Store) (fuel : ℕ) (x : Thread) → IsAtWork store fuel x st k → at_work st k store fuel x ≡ st
unfolding with_thread thread_at
work_same st k store fuel x h = rw (set_there st.threads k x h.there, sym h.fuel, sym h.store) refl

pub work_again : (st : State) (k : ℕ) (store left : Store) (fuel more : ℕ) (x y : Thread) → IsAtWork store fuel x st k → IsAtWork left more y (at_work st k left more y) k
unfolding with_thread thread_at
work_again st k store left fuel more x y h = record { running = h.running; there = thread_put st k x y h.there; store = refl; fuel = refl }

pub work_twice : (st : State) (k : ℕ) (store left : Store) (fuel more : ℕ) (x y : Thread) → at_work (at_work st k store fuel x) k left more y ≡ at_work st k left more y
unfolding with_thread
work_twice st k store left fuel more x y = rw (set-set st.threads k x y) refl

-- the work can be done where it has come
pub working_on : (s : System) (store left : Store) (fuel more : ℕ) (x y : Thread) → CanWork s store fuel x → ((st : State) (k : ℕ) → IsAtWork store fuel x st k → Reaches s k st (at_work st k left more y)) → CanWork s left more y
working_on s store left fuel more x y h f = record {
  template = h.template;
  own = h.own;
  past = h.past;
  domain = h.domain;
  state = at_work h.state h.number left more y;
  number = h.number;
  known = h.known;
  life = h.life;
  stands = stands_later s h.template h.own h.state (at_work h.state h.number left more y) h.number h.stands h.at.running (f h.state h.number h.at);
  at = work_again h.state h.number store left fuel more x y h.at;
}

-- a thread at work that goes on in the core's frames
pub going_at_work : (core : Core) (fuel : ℕ) (st : State) (k : ℕ) (x : Thread) → IsAtWork core.store fuel x st k → x.frames ≡ core.frames → x.stage ≡ Going → IsGoingOn core fuel st k x
going_at_work core fuel st k x h f g = record { running = h.running; there = h.there; store = h.store; frames = f; stage = g; fuel = h.fuel }

pub living_work : (s : System) (core : Core) (fuel : ℕ) (x : Thread) → CanWork s core.store fuel x → x.frames ≡ core.frames → x.stage ≡ Going → IsLiving s core fuel
living_work s core fuel x h f g = record {
  template = h.template;
  own = h.own;
  past = h.past;
  domain = h.domain;
  state = h.state;
  number = h.number;
  thread = x;
  known = h.known;
  life = h.life;
  stands = h.stands;
  at = going_at_work core fuel h.state h.number x h.at f g;
}

-- the thread's stage is one of its domain
pub can_end : (s : System) (store : Store) (fuel : ℕ) (x : Thread) → CanRun s → CanWork s store fuel x → CanEndIn store x.stage
unfolding thread_at
can_end s store fuel x r h =
    let stands = subst (λ (own : Past). Stands s h.template own h.state) (sym h.life.own_are) h.stands in
    let values = standing_values s h.past r.sound h.life.admitted h.domain h.template h.state h.known stands in
    let thread = all_get (IsThreadIn s h.past h.state.store) h.state.threads h.number x h.at.there values.threads in
    (s, (h.past, (subst (IsStoreIn s h.past) h.at.store values.store, subst (λ (store : Store). IsStageIn h.past store x.stage) h.at.store thread.stage)))

-- ---- where the frames of the thread stopped

-- it is no bad code
abbrev pub IsSound : OneStage → Type 0
IsSound stage.Bad = ⊥
IsSound _ = Unit {0}

sound_stage : (g : OneStage) → (g ≡ stage.Bad → ⊥) → IsSound g
sound_stage stage.Bad n = absurd (n refl)
sound_stage stage.Going n = tt
sound_stage (stage.Returned v) n = tt
sound_stage (stage.Threw r) n = tt

module _ (s : System) (st : State) (k : ℕ) (first : Store) (full : ℕ) (begun : Thread) (h : IsAtWork first full begun st k)
    (core : Core) (fuel : ℕ) (x : Thread) (r : Reaches s k st (at_work st k core.store fuel x)) where
  -- the state then
  abbrev pub N : State
  N = at_work st k core.store fuel x

  pub then_at : IsAtWork core.store fuel x N k
  then_at = work_again st k first core.store full fuel begun x h

  pub come_at : (new : Core) (left : ℕ) (g : Stage) → Reaches s k N (come_to N k x new left g) → Reaches s k st (at_work st k new.store left (record x { frames = new.frames; stage = g }))
  come_at new left g q =
      let y : Thread = record x { frames = new.frames; stage = g } in
      reach_on s k st N (at_work st k new.store left y) r (subst (Reaches s k N) (work_twice st k core.store new.store fuel left x y) q)

  pub asks_at : (new : Core) (left : ℕ) (a : Act) → StopsAs s N k x new left (stop.Asks a) →
      Reaches s k st (at_work st k new.store left (record x { frames = new.frames; stage = Going })) × (step s (at_work st k new.store left (record x { frames = new.frames; stage = Going })) k ≡ Ask a)
  asks_at new left a q =
      let y : Thread = record x { frames = new.frames; stage = Going } in
      (come_at new left Going q.0, ap (λ (z : State). step s z k) (sym (work_twice st k core.store new.store fuel left x y)) ∙ q.1)

  pub bad_at : WillAsk s k N (act.End reason.BadCode) → WillAsk s k st (act.End reason.BadCode)
  bad_at w = will_ask_on s k st N (act.End reason.BadCode) r w

  module _ (new : Core) (left : ℕ) (v : Option Value) (q : HasReturned s N k x new left v) (next : Core) (waiting : List ℕ) (g : OneStage)
      (f : Finishes s new x.waiting v next waiting g) where
    -- the thread that has begun its next method
    abbrev pub Z : Stage → Thread
    Z e = record x { frames = next.frames; stage = e; waiting = waiting }

    come : HasCome q.before k (record x { frames = []; waiting = waiting }) next g (after_finish s q.before k x v)
    unfolding with_thread
    come =
        subst (HasCome q.before k (record x { frames = []; waiting = waiting }) next g) (finish_any s q.before k x [] x.stage v)
        (f q.before k (record x { frames = [] }) (record { store = ap (λ (z : State). z.store) q.like.is; frames = sym q.frames }) refl)

    put : (c : Core) (y : Thread) → with_thread (with_store q.before c.store) k y ≡ at_work st k c.store left y
    unfolding with_thread with_store
    put c y =
        ap (λ (z : State). with_thread (with_store z c.store) k y) q.like.is
        ∙ ap (λ (ts : List Thread). record st { fuel = left; store = c.store; threads = ts }) (set-set (slice_set st.threads k x) k q.like.thread y ∙ set-set st.threads k x y)

    pub finished : IsSound g → Reaches s k st (at_work st k next.store left (Z (stage_of g)))
    finished ok = by g ok come
      where
        to : (e : Stage) → after_finish s q.before k x v ≡ left_as q.before k (record x { frames = []; waiting = waiting }) next e → Reaches s k st (at_work st k next.store left (Z e))
        to e w = reach_on s k st N (at_work st k next.store left (Z e)) r (subst (Reaches s k N) (w ∙ put next (Z e)) q.reaches)

        by : (g : OneStage) → IsSound g → HasCome q.before k (record x { frames = []; waiting = waiting }) next g (after_finish s q.before k x v) → Reaches s k st (at_work st k next.store left (Z (stage_of g)))
        by stage.Going ok w = to Going w
        by (stage.Returned u) ok w = to (Returned u) w.0
        by (stage.Threw o) ok w = to (Threw o) w.0
        by stage.Bad ok w = absurd ok

    pub finished_badly : g ≡ stage.Bad → WillAsk s k st (act.End reason.BadCode)
    finished_badly e =
        let w = subst (λ (g : OneStage). HasCome q.before k (record x { frames = []; waiting = waiting }) next g (after_finish s q.before k x v)) e come in
        let y : Thread = record x { frames = w.0.frames; stage = Bad; waiting = waiting } in
        let there = work_again st k first w.0.store full left begun y h in
        (at_work st k w.0.store left y, (reach_on s k st N (at_work st k w.0.store left y) r (subst (Reaches s k N) (w.1 ∙ put w.0 y) q.reaches), bad_asks s (at_work st k w.0.store left y) k y there.there refl))

-- the act by which its code ends
pub ends_at : (s : System) (st : State) (k : ℕ) (store : Store) (fuel : ℕ) (x : Thread) (g : OneStage) (a : Act) → IsAtWork store fuel x st k → x.stage ≡ stage_of g → (g ≡ stage.Going → ⊥) →
    ((st : State) (y : Thread) → st.store ≡ store → y.call ≡ x.call → a ≡ ending_act st y (stage_of g)) → step s st k ≡ Ask a
unfolding step stage_step
ends_at s st k store fuel x g a h e n f = rw (h.there, step) (ap (λ (d : Stage). stage_step s st k x d) e ∙ by g n f)
  where
    by : (g : OneStage) → (g ≡ stage.Going → ⊥) → ((st : State) (y : Thread) → st.store ≡ store → y.call ≡ x.call → a ≡ ending_act st y (stage_of g)) → stage_step s st k x (stage_of g) ≡ Ask a
    by stage.Going n f = absurd (n refl)
    by (stage.Returned v) n f = ap Ask (sym (f st x h.store refl))
    by (stage.Threw r) n f = ap Ask (sym (f st x h.store refl))
    by stage.Bad n f = ap Ask (sym (f st x h.store refl))

-- ---- where the frames of a working thread stop

module _ (s : System) (first : Store) (full : ℕ) (begun : Thread) (core : Core) (fuel : ℕ) (x : Thread) (frames : x.frames ≡ core.frames) (goes : x.stage ≡ Going)
    (u : (st : State) (k : ℕ) → IsAtWork first full begun st k → Reaches s k st (at_work st k core.store fuel x)) where
  -- the thread goes on in these frames
  pub living : CanWork s first full begun → IsLiving s core fuel
  living h = living_work s core fuel x (working_on s first core.store full fuel begun x h u) frames goes

  stopped : (st : State) (k : ℕ) (new : Core) (left : ℕ) (answer : Stop) → IsAtWork first full begun st k → Stops s core fuel new left answer → StopsAs s (at_work st k core.store fuel x) k x new left answer
  stopped st k new left answer h f =
      let there = then_at s st k first full begun h core fuel x (u st k h) in
      f (at_work st k core.store fuel x) k x (going_at_work core fuel (at_work st k core.store fuel x) k x there frames goes)

  pub work_asks : (new : Core) (left : ℕ) (a : Act) (y : Thread) → y ≡ record x { frames = new.frames } → Stops s core fuel new left (stop.Asks a) → RunsTo s first full begun new.store left y (Some a)
  work_asks new left a y e f st k h =
      let w = asks_at s st k first full begun h core fuel x (u st k h) new left a (stopped st k new left (stop.Asks a) h f) in
      let q : record x { frames = new.frames; stage = Going } ≡ y = ap (λ (g : Stage). record x { frames = new.frames; stage = g }) (sym goes) ∙ sym e in
      subst (λ (y : Thread). Reaches s k st (at_work st k new.store left y) × (step s (at_work st k new.store left y) k ≡ Ask a)) q w

  pub work_bad : (new : Core) (left : ℕ) (y : Thread) (more : Store) → Stops s core fuel new left stop.Bad → RunsTo s first full begun more left y None
  work_bad new left y more f st k h = bad_at s st k first full begun h core fuel x (u st k h) (stopped st k new left stop.Bad h f)

  pub work_threw : (new : Core) (left : ℕ) (r : ℕ) → Stops s core fuel new left (stop.Threw r) → (st : State) (k : ℕ) → IsAtWork first full begun st k →
      Reaches s k st (at_work st k new.store left (record x { frames = new.frames; stage = Threw r }))
  work_threw new left r f st k h = come_at s st k first full begun h core fuel x (u st k h) new left (Threw r) (stopped st k new left (stop.Threw r) h f).0

  pub no_frames : (new : Core) (left : ℕ) (v : Option Value) → CanWork s first full begun → Stops s core fuel new left (stop.Returned v) → new.frames ≡ []
  no_frames new left v h f = (stopped h.state h.number new left (stop.Returned v) h.at f).frames

  pub work_finished : (new : Core) (left : ℕ) (v : Option Value) (next : Core) (waiting : List ℕ) (g : OneStage) → Stops s core fuel new left (stop.Returned v) → Finishes s new x.waiting v next waiting g → (g ≡ stage.Bad → ⊥) →
      (st : State) (k : ℕ) → IsAtWork first full begun st k → Reaches s k st (at_work st k next.store left (record x { frames = next.frames; stage = stage_of g; waiting = waiting }))
  work_finished new left v next waiting g f w n st k h = finished s st k first full begun h core fuel x (u st k h) new left v (stopped st k new left (stop.Returned v) h f) next waiting g w (sound_stage g n)

  pub work_finished_badly : (new : Core) (left : ℕ) (v : Option Value) (next : Core) (waiting : List ℕ) (g : OneStage) (y : Thread) (more : Store) → Stops s core fuel new left (stop.Returned v) → Finishes s new x.waiting v next waiting g → g ≡ stage.Bad →
      RunsTo s first full begun more left y None
  work_finished_badly new left v next waiting g y more f w e st k h = finished_badly s st k first full begun h core fuel x (u st k h) new left v (stopped st k new left (stop.Returned v) h f) next waiting g w e
