-- A thread that goes on in its frames.
use Rattle.std.proofs.Common.{◌≡◌, refl, sym, ◌∙◌, ap, subst, ℕ, set-set}
use Rattle.std.specs.Prelude.{All, length, slice_set, ◌≤◌}
use Rattle.jx_base.specs.declared.program.System.{System}
use Rattle.jx_base.specs.Histories.{Past}
use Rattle.interp_core.specs.Cores.{IsRunnable}
use Rattle.machine_laws.proofs.Cores.{standing_cores}
use Rattle.machine_laws.specs.Law.{CanBeStepped}
use Rattle.machine_laws.specs.Standing.{Stands}
use Rattle.machine_laws.specs.Values.{cell_limit}
use Rattle.machine_model.specs.Conditions.{IsCoreOf, IsInstrOf}
use Rattle.machine_model.specs.MachineThreads.{core_of, thread_at, with_thread}
use Rattle.machine_model.specs.Running.{framed_step, stage_step, step}
use Rattle.machine_model.specs.State.{Core, Going, Stage, State, Store, Thread}
use Rattle.machine_replies.specs.Leaving.{CanRun}
use Rattle.machine_steps.specs.Stepping.{AreInstrsOf}
use Rattle.domain_machine.specs.Works.{IsGoingOn, IsLiving, Reaches, come_to}
use Rattle.domain_machine.proofs.Reaching.{set_there, stands_later, thread_put}

-- ---- the state that it comes to

module _ (st : State) (k : ℕ) (x : Thread) (core : Core) (fuel : ℕ) where
  pub come_same : IsGoingOn core fuel st k x → come_to st k x core fuel Going ≡ st
  unfolding with_thread thread_at
  come_same h =
      let y : record x { frames = core.frames; stage = Going } ≡ x = rw (sym h.frames, sym h.stage) refl in
      let q : slice_set st.threads k (record x { frames = core.frames; stage = Going }) ≡ st.threads = ap (slice_set st.threads k) y ∙ set_there st.threads k x h.there in
      rw (q, sym h.fuel, sym h.store) refl

  -- where it goes on it is again
  pub again : (new : Core) (left : ℕ) → IsGoingOn core fuel st k x → IsGoingOn new left (come_to st k x new left Going) k (record x { frames = new.frames; stage = Going })
  unfolding with_thread thread_at
  again new left h = record {
    running = h.running;
    there = thread_put st k x (record x { frames = new.frames; stage = Going }) h.there;
    store = refl;
    frames = refl;
    stage = refl;
    fuel = refl;
  }

  pub come_twice : (new : Core) (left : ℕ) (g : Stage) → come_to (come_to st k x core fuel Going) k (record x { frames = core.frames; stage = Going }) new left g ≡ come_to st k x new left g
  unfolding with_thread
  come_twice new left g = rw (set-set st.threads k (record x { frames = core.frames; stage = Going }) (record x { frames = new.frames; stage = g })) refl

-- ---- its step

pub going_step : (s : System) (core : Core) (fuel : ℕ) (st : State) (k : ℕ) (x : Thread) → IsGoingOn core fuel st k x → step s st k ≡ framed_step s st k x x.frames
unfolding step stage_step
going_step s core fuel st k x h = rw (h.there, step) (ap (λ (g : Stage). stage_step s st k x g) h.stage)

-- it is one that steps take
pub can_step : (s : System) (core : Core) (fuel : ℕ) → CanRun s → IsLiving s core fuel → IsRunnable s core × AreInstrsOf s core
unfolding core_of
can_step s core fuel r h =
    let at = h.at in
    let stands = subst (λ (own : Past). Stands s h.template own h.state) (sym h.life.own_are) h.stands in
    let c : CanBeStepped s h.state h.thread = standing_cores s h.past r.sound h.life.admitted h.domain h.template h.number h.state h.thread h.known stands at.there at.stage in
    let q : core_of h.state h.thread ≡ core = rw (at.frames, at.store) refl in (
      record {
        core = subst (IsCoreOf s) q c.core;
        small = subst (λ (store : Store). All (λ o. length o.cells ≤ cell_limit) store.objects) at.store c.small;
        codes = r.codes;
        numbers = r.numbers;
      },
      λ f callers i e w. subst (λ (core : Core). IsInstrOf s core f callers i.instr) q (c.instruction f callers i (at.frames ∙ e) w),
    )

-- some instructions later it is there, too
pub living_on : (s : System) (core new : Core) (fuel left : ℕ) → IsLiving s core fuel → ((st : State) (k : ℕ) (x : Thread) → IsGoingOn core fuel st k x → Reaches s k st (come_to st k x new left Going)) → IsLiving s new left
living_on s core new fuel left h f = record {
  template = h.template;
  own = h.own;
  past = h.past;
  domain = h.domain;
  state = come_to h.state h.number h.thread new left Going;
  number = h.number;
  thread = record h.thread { frames = new.frames; stage = Going };
  known = h.known;
  life = h.life;
  stands = stands_later s h.template h.own h.state (come_to h.state h.number h.thread new left Going) h.number h.stands h.at.running (f h.state h.number h.thread h.at);
  at = again h.state h.number h.thread core fuel new left h.at;
}
