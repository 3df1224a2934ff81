-- Where the frames of a thread stop.
use Rattle.std.proofs.Common.{◌≡◌, ◌≢◌, refl, sym, ◌∙◌, ap, subst, ℕ, ◌-◌, true, false, Bool, List, [], ◌∷◌, Option, Some, None, set-set, arith}
use Rattle.jx_base.specs.declared.act.Act.{Act}
use Rattle.jx_base.specs.declared.act.Act.TheVariants as act
use Rattle.jx_base.specs.declared.act.Reason.TheVariants as reason
use Rattle.jx_base.specs.declared.class_file.Instr.{Instr}
use Rattle.jx_base.specs.declared.frame.Frame.{Frame}
use Rattle.jx_base.specs.declared.program.System.{System}
use Rattle.jx_base.specs.declared.value.Value.{Value}
use Rattle.machine_model.specs.MachineThreads.{after_begin, after_finish, after_raise, after_throw, start_arguments, with_frames, with_less_fuel, with_stage, with_store, with_thread}
use Rattle.machine_model.specs.Running.{Ask, Step, ends_by_bad_code, framed_step, step}
use Rattle.machine_model.specs.State.{Core, Going, Stage, State, Thread, Threw, frame_of, frames_at_handler, is_overflow}
use Rattle.machine_steps.specs.Stepping.{ComesOut, Finds, IsAt, SteppedAs, spent}
use Rattle.machine_steps.specs.declared.stepping.Stepped.{Stepped}
use Rattle.machine_steps.specs.declared.stepping.Stepped.TheVariants as stepped
use Rattle.domain_machine.specs.declared.running.Stop.{Stop}
use Rattle.domain_machine.specs.declared.running.Stop.TheVariants as stop
use Rattle.domain_machine.specs.Works.{HasReturned, HasSpent, IsGoingOn, Reaches, Stops, StopsAs, WillAsk, come_to}
use Rattle.domain_machine.proofs.Reaching.{bad_there_asks, reach_here, reach_on, reach_step, will_ask_on}
use Rattle.domain_machine.proofs.Goings.{again, come_same, come_twice, going_step}

-- ---- the end of a method

-- how a method begins doesn't depend on the thread's frames and stage
pub begin_any : (s : System) (st : State) (k : ℕ) (x : Thread) (fs : List Frame) (g : Stage) (m : ℕ) (arguments : List Value) →
    after_begin s st k (record x { frames = fs; stage = g }) m arguments ≡ after_begin s st k x m arguments
unfolding after_begin with_stage with_frames after_raise after_throw frames_at_handler with_thread with_store
begin_any s st k x fs g m arguments = by (is_overflow s m []) (frame_of s m arguments) refl refl
  where
    by : (b : Bool) (o : Option Frame) → is_overflow s m [] ≡ b → frame_of s m arguments ≡ o →
        after_begin s st k (record x { frames = fs; stage = g }) m arguments ≡ after_begin s st k x m arguments
    by true o e q = rw (e, after_begin) refl
    by false None e q = rw (e, q, after_begin) refl
    by false (Some f) e q = rw (e, q, after_begin) refl

-- nor does what follows the last return
pub finish_any : (s : System) (st : State) (k : ℕ) (x : Thread) (fs : List Frame) (g : Stage) (v : Option Value) →
    after_finish s st k (record x { frames = fs; stage = g }) v ≡ after_finish s st k x v
unfolding after_finish with_stage
finish_any s st k x fs g v = by x.waiting refl
  where
    by : (ms : List ℕ) → x.waiting ≡ ms → after_finish s st k (record x { frames = fs; stage = g }) v ≡ after_finish s st k x v
    by [] e = rw e refl
    by (m ∷ more) e = rw e (begin_any s st k (record x { waiting = more }) fs g m (start_arguments s m))

-- ---- a step of the thread, some instructions later

module _ (s : System) (st : State) (k : ℕ) (x : Thread) (first : Core) (full : ℕ) (h : IsGoingOn first full st k x)
    (core new : Core) (fuel : ℕ) (r : Reaches s k st (come_to st k x core fuel Going)) where
  -- the state then, and the thread
  abbrev pub M : State
  M = come_to st k x core fuel Going

  abbrev pub Y : Thread
  Y = record x { frames = core.frames; stage = Going }

  there : IsGoingOn core fuel M k Y
  there = again st k x first full core fuel h

  pub outcome : (answer : Stepped) → SteppedAs s core new answer → fuel ≢ 0 → ComesOut s M k Y core new answer (step s M k)
  unfolding with_thread
  outcome answer g f =
      let m = there in
      subst (ComesOut s M k Y core new answer) (sym (going_step s core fuel M k Y m))
      (g M k Y (record { there = m.there; store = m.store; frames = m.frames; stage = m.stage; fuel = f }))

  -- the state one instruction later, with another thread of that number
  pub spent_put : (y : Thread) → with_thread (spent M new) k y ≡ with_thread (record st { fuel = fuel - 1; store = new.store }) k y
  unfolding with_thread with_store with_less_fuel
  spent_put y = rw (set-set st.threads k Y y) refl

  pub goes_on : SteppedAs s core new stepped.Going → fuel ≢ 0 → Reaches s k st (come_to st k x new (fuel - 1) Going)
  goes_on g f = reach_step s k st M (come_to st k x new (fuel - 1) Going) r (outcome stepped.Going g f ∙ ap Step (spent_put (record x { frames = new.frames; stage = Going })))

  pub returned : (v : Option Value) → SteppedAs s core new (stepped.Returned v) → fuel ≢ 0 → HasReturned s st k x new (fuel - 1) v
  unfolding with_thread with_store with_less_fuel
  returned v g f =
      let o = outcome (stepped.Returned v) g f in record {
        before = spent M new;
        like = record { thread = Y; is = refl };
        reaches = subst (Reaches s k st) (finish_any s (spent M new) k x core.frames Going v) (reach_step s k st M (after_finish s (spent M new) k Y v) r o.0);
        frames = o.1;
      }

  pub threw : (object : ℕ) → SteppedAs s core new (stepped.Threw object) → fuel ≢ 0 → StopsAs s st k x new (fuel - 1) (stop.Threw object)
  unfolding with_stage
  threw object g f =
      let o = outcome (stepped.Threw object) g f in
      let q : with_stage (spent M new) k Y (Threw object) ≡ come_to st k x new (fuel - 1) (Threw object) = rw o.1 (spent_put (record x { frames = []; stage = Threw object })) in
      (reach_step s k st M (come_to st k x new (fuel - 1) (Threw object)) r (o.0 ∙ ap Step q), o.1)

  pub asks : (a : Act) → SteppedAs s core new (stepped.Asks a) → fuel ≢ 0 → StopsAs s st k x new fuel (stop.Asks a)
  asks a g f =
      let o = outcome (stepped.Asks a) g f in
      subst (λ (c : Core). StopsAs s st k x c fuel (stop.Asks a)) (sym o.1) (r, o.0)

  pub met_bad_code : SteppedAs s core new stepped.BadCode → fuel ≢ 0 → WillAsk s k st (act.End reason.BadCode)
  met_bad_code g f = (M, (r, outcome stepped.BadCode g f))

  pub overfull : SteppedAs s core new stepped.Overfull → fuel ≢ 0 → WillAsk s k st (act.End reason.BadCode)
  overfull g f =
      let o = outcome stepped.Overfull g f in
      (o.0, (reach_step s k st M o.0 r o.1.0, bad_there_asks s o.0 k o.1.1))

-- ---- without fuel

-- past its code a thread meets bad code, at any fuel
pub past_code : (s : System) (st : State) (k : ℕ) (x : Thread) (core : Core) → IsGoingOn core 0 st k x → Finds s core None → WillAsk s k st (act.End reason.BadCode)
unfolding framed_step ends_by_bad_code
past_code s st k x core h n = (st, (reach_here s k st, going_step s core 0 st k x h ∙ by x.frames refl))
  where
    by : (fs : List Frame) → x.frames ≡ fs → framed_step s st k x fs ≡ Ask (act.End reason.BadCode)
    by [] e = refl
    by (f ∷ fs) e = rw (n f fs (sym h.frames ∙ e), framed_step) refl

-- where there is an instruction the domain ends by fuel
pub no_fuel : (s : System) (st : State) (k : ℕ) (x : Thread) (core : Core) (i : Instr) → IsGoingOn core 0 st k x → IsAt s core i → step s st k ≡ Ask (act.End reason.Fuel)
unfolding framed_step
no_fuel s st k x core i h a =
    going_step s core 0 st k x h ∙ ap (framed_step s st k x) (h.frames ∙ a.running) ∙ rw (a.read, h.fuel, framed_step) refl

pub fuel_gone : (s : System) (st : State) (k : ℕ) (x : Thread) (core : Core) (i : Instr) → IsGoingOn core 0 st k x → IsAt s core i → StopsAs s st k x core 0 (stop.Asks (act.End reason.Fuel))
fuel_gone s st k x core i h a =
    let q = come_same st k x core 0 h in
    (subst (Reaches s k st) (sym q) (reach_here s k st), ap (λ (z : State). step s z k) q ∙ no_fuel s st k x core i h a)

put_again : (st : State) (k : ℕ) (core : Core) (x y : Thread) → with_thread (record (with_thread (record st { fuel = 0; store = core.store }) k x) { fuel = 0; store = core.store }) k y ≡ with_thread (record st { fuel = 0; store = core.store }) k y
unfolding with_thread
put_again st k core x y = rw (set-set st.threads k x y) refl

-- where the frames stop some instructions later they stop
pub stops_later : (s : System) (st : State) (k : ℕ) (x : Thread) (first : Core) (full : ℕ) → IsGoingOn first full st k x → (core : Core) → Reaches s k st (come_to st k x core 0 Going) → (answer : Stop) → Stops s core 0 core 0 answer →
    StopsAs s st k x core 0 answer
stops_later s st k x first full h core r answer f = by answer (f N k Y (again st k x first full core 0 h))
  where
    N : State
    N = come_to st k x core 0 Going

    Y : Thread
    Y = record x { frames = core.frames; stage = Going }

    by : (answer : Stop) → StopsAs s N k Y core 0 answer → StopsAs s st k x core 0 answer
    by (stop.Asks a) w = (reach_on s k st N (come_to st k x core 0 Going) r (subst (Reaches s k N) (come_twice st k x core 0 core 0 Going) w.0), ap (λ (z : State). step s z k) (sym (come_twice st k x core 0 core 0 Going)) ∙ w.1)
    by (stop.Threw o) w = (reach_on s k st N (come_to st k x core 0 (Threw o)) r (subst (Reaches s k N) (come_twice st k x core 0 core 0 (Threw o)) w.0), w.1)
    by stop.Bad w = will_ask_on s k st N (act.End reason.BadCode) r w
    by (stop.Returned v) w = record {
      before = w.before;
      like = record { thread = w.like.thread; is = w.like.is ∙ put_again st k core Y w.like.thread };
      reaches = reach_on s k st N (after_finish s w.before k x v) r (subst (Reaches s k N) (finish_any s w.before k x core.frames Going v) w.reaches);
      frames = w.frames;
    }

-- what spent nothing has frames left
pub none_spent : (answer : Stop) (old new : ℕ) → HasSpent answer 0 0 → HasSpent answer old new
none_spent (stop.Asks a) old new h = tt
none_spent stop.Bad old new h = tt
none_spent (stop.Returned v) old new h = absurd (omega (arith, h))
none_spent (stop.Threw r) old new h = absurd (omega (arith, h))
