use Rattle.std.proofs.Common.{◌-◌, refl, arith}
use Rattle.std.specs.Prelude.{IfOk, Result, Ok, Err}
use Rattle.std.specs.Vec.{with_item}
use Rattle.jx_base.specs.Histories.{own_entries}
use Rattle.domain_machine.specs.Machines.{HasRun}
use Rattle.domain_machine.specs.declared.next.Next.{Next}
use Rattle.run_alone.proofs.TurnActs.{actor_in, from_one, life_of, place, says_next}
use Rattle.run_alone.specs.Workers.{SaysNext, past_in}
use Rattle.run_alone.proofs.worker.Worker.next_of.Goals as goal

pub overflow_sub-domain : goal.overflow_sub-domain
overflow_sub-domain c = from_one c.args.system.now c.args.self.now c.requires.worker c.args.domain.0 c.requires.live

pub index_mut-requires : goal.index_mut-requires
index_mut-requires c = let below = place c.args.system.now c.args.self.now c.requires.worker c.args.domain.0 c.requires.live in omega (arith, below, c.args.self.now.actors.ok.0)

pub run_actor-requires : goal.run_actor-requires
run_actor-requires c =
    let s = c.args.system.now in let w = c.args.self.now in let d = c.args.domain.0 in let y = c.index_mut.result.now in
    let m = actor_in s w c.requires.worker d c.requires.live y c.index_mut.ensures.value in
    (y.template, (own_entries (past_in w) d, past_in w, (d, (m.machine, life_of s w c.requires.worker d c.requires.live))))

pub returns : goal.returns
returns c = by c.run_actor.result c.run_actor.ensures.next
  where
    by : {E : Type 0} (r : Result Next E) → IfOk r (HasRun c.args.system.now c.index_mut.result.now.machine c.run_actor.new.actor.machine) →
        IfOk r (SaysNext c.args.system.now c.args.self.now (record { nucleus = c.args.self.now.nucleus; actors = with_item c.args.self.now.actors (c.args.domain.0 - 1) c.run_actor.new.actor }) c.args.domain.0)
    by (Ok n) h =
        says_next c.args.system.now c.args.self.now c.requires.worker c.args.domain.0 c.requires.live c.index_mut.result.now c.run_actor.new.actor
        (record { nucleus = c.args.self.now.nucleus; actors = with_item c.args.self.now.actors (c.args.domain.0 - 1) c.run_actor.new.actor }) n
        (actor_in c.args.system.now c.args.self.now c.requires.worker c.args.domain.0 c.requires.live c.index_mut.result.now c.index_mut.ensures.value) c.run_actor.ensures.template h refl refl
    by (Err e) h = tt
