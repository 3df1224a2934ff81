use Rattle.std.proofs.Common.{◌-◌, refl, subst, sym, arith}
use Rattle.std.specs.Prelude.{IfOk, Result, Ok, Err}
use Rattle.std.specs.Vec.{with_item}
use Rattle.domain_machine.specs.Machines.{HasTaken, IsEntryOf}
use Rattle.table_threads.specs.CallChanges.{entry}
use Rattle.run_alone.proofs.LastEntries.{newest_is}
use Rattle.run_alone.proofs.Entered.{is_replied}
use Rattle.run_alone.proofs.KindsOfActs.{makes_none}
use Rattle.run_alone.proofs.TurnActs.{able, actor_in, asked, entry_of, from_one, may_come, not_zeros, permitted, place, turn_gone_on}
use Rattle.run_alone.specs.Workers.{HasGoneOn, past_in}
use Rattle.run_alone.proofs.worker.Worker.enter.Goals as goal

pub step-requires-clause-act : goal.step-requires-clause-act
step-requires-clause-act c = may_come c.args.system.now c.args.self.now c.requires.worker c.args.domain.0 c.args.act c.requires.turn c.requires.supported

pub unreachable-requires : goal.unreachable-requires
unreachable-requires c =
    let s = c.args.system.now in let w = c.args.self.now in let h = c.requires.worker in let d = c.args.domain.0 in let a = c.args.act in let t = c.requires.turn in
    let p = permitted s w h d a t in
    is_replied s w.nucleus c.step.new.self d p.0 a c.step.result h.worker.nucleus (asked s w h d a t) p.1 c.in_default.not-OutOfMemory (λ r. makes_none a r (not_zeros s w h d a t) c.requires.supported) c.in_default.not-Replied c.step.ensures

pub overflow_sub-place : goal.overflow_sub-place
overflow_sub-place c =
    let s = c.args.system.now in let w = c.args.self.now in let h = c.requires.worker in let d = c.args.domain.0 in
    from_one s w h d (able s w h d c.args.act c.requires.turn)

pub index_mut-requires : goal.index_mut-requires
index_mut-requires c =
    let s = c.args.system.now in let w = c.args.self.now in let h = c.requires.worker in let d = c.args.domain.0 in
    let below = place s w h d (able s w h d c.args.act c.requires.turn) in omega (arith, below, w.actors.ok.0)

pub take_entry-requires : goal.take_entry-requires
take_entry-requires c =
    let s = c.args.system.now in let w = c.args.self.now in let h = c.requires.worker in let d = c.args.domain.0 in let a = c.args.act in let t = c.requires.turn in
    let y = c.index_mut.result.now in let e = entry d c.in-Replied.field-0.0 a c.in-Replied.field-1 in
    let m = actor_in s w h d (able s w h d a t) y c.index_mut.ensures.value in
    subst (IsEntryOf s y.machine) (newest_is c.step.new.self.kept.past (past_in w) e c.last.result.now c.in-Replied.ensures.0.past c.last.ensures)
    (entry_of s w h d a t e refl refl y m c.in-Replied.ensures.0.next)

pub returns : goal.returns
returns c = by c.take_entry.result c.take_entry.ensures.taken
  where
    by : {E : Type 0} (r : Result (Unit {0}) E) → IfOk r (λ _. HasTaken c.args.system.now c.index_mut.result.now.machine c.take_entry.new.actor.machine c.last.result.now) →
        IfOk r (λ _. HasGoneOn c.args.system.now c.args.self.now (record { nucleus = c.step.new.self; actors = with_item c.args.self.now.actors (c.args.domain.0 - 1) c.take_entry.new.actor }))
    by (Ok n) k =
        let s = c.args.system.now in let w = c.args.self.now in let h = c.requires.worker in let d = c.args.domain.0 in let a = c.args.act in let t = c.requires.turn in
        let y = c.index_mut.result.now in let x = c.take_entry.new.actor in let e = entry d c.in-Replied.field-0.0 a c.in-Replied.field-1 in
        let m = actor_in s w h d (able s w h d a t) y c.index_mut.ensures.value in
        let i = newest_is c.step.new.self.kept.past (past_in w) e c.last.result.now c.in-Replied.ensures.0.past c.last.ensures in
        turn_gone_on s w h d a t e refl refl y m (record { nucleus = c.step.new.self; actors = with_item w.actors (d - 1) x }) x c.requires.supported c.in-Replied.ensures.0 c.in-Replied.ensures.1
        c.take_entry.ensures.template (subst (HasTaken s y.machine x.machine) (sym i) k) refl
    by (Err e) k = tt
