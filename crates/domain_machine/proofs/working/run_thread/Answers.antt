use Rattle.std.proofs.Common.{ap, refl, subst, sym}
use Rattle.interp_core.specs.Cores.{core_state, store_of}
use Rattle.machine_replies.specs.Leaving.{stage_of}
use Rattle.domain_machine.specs.Works.{Reaches, Stops, at_work, working}
use Rattle.domain_machine.proofs.AtWork.{can_end, ends_at, living, no_frames, work_again, work_asks, work_bad, work_finished, work_finished_badly, work_same, work_threw, working_on}
use Rattle.domain_machine.proofs.Reaching.{reach_here}
use Rattle.domain_machine.proofs.working.run_thread.Goals as goal

pub loop-thread-init : goal.loop-thread-init
loop-thread-init c st k h =
    let s = c.args.system.now in
    subst (Reaches s k st) (sym (work_same st k (store_of c.args.core.now) c.args.fuel.now (working c.args.core.now c.args.thread.now) h)) (reach_here s k st)

pub run_frames-requires-clause-core : goal.run_frames-requires-clause-core
run_frames-requires-clause-core c =
    let s = c.args.system.now in let mid = c.loop-thread.core in
    living s (store_of c.args.core.now) c.args.fuel.now (working c.args.core.now c.args.thread.now) (core_state mid) c.loop-thread.fuel (working mid c.loop-thread.thread) refl (ap stage_of c.in-Going.is) c.loop-thread.invariant c.requires.thread

pub returns-in-Asks : goal.returns-in-Asks
returns-in-Asks c =
    let s = c.args.system.now in let mid = c.loop-thread.core in let new = c.run_frames.new.core in let left = c.run_frames.new.fuel in
    work_asks s (store_of c.args.core.now) c.args.fuel.now (working c.args.core.now c.args.thread.now) (core_state mid) c.loop-thread.fuel (working mid c.loop-thread.thread) refl (ap stage_of c.in-Going.is) c.loop-thread.invariant
    (core_state new) left c.in-Asks.act (working new c.loop-thread.thread) refl (subst (Stops s (core_state mid) c.loop-thread.fuel (core_state new) left) c.in-Asks.is c.in_ok-act.ensures.stops)

pub returns-in-Bad : goal.returns-in-Bad
returns-in-Bad c =
    let s = c.args.system.now in let mid = c.loop-thread.core in let new = c.run_frames.new.core in let left = c.run_frames.new.fuel in
    work_bad s (store_of c.args.core.now) c.args.fuel.now (working c.args.core.now c.args.thread.now) (core_state mid) c.loop-thread.fuel (working mid c.loop-thread.thread) refl (ap stage_of c.in-Going.is) c.loop-thread.invariant
    (core_state new) left (working new c.loop-thread.thread) (store_of new) (subst (Stops s (core_state mid) c.loop-thread.fuel (core_state new) left) c.in-Bad.is c.in_ok-act.ensures.stops)

pub loop-thread-preserved-in-Threw : goal.loop-thread-preserved-in-Threw
loop-thread-preserved-in-Threw c =
    let s = c.args.system.now in let mid = c.loop-thread.core in let new = c.run_frames.new.core in let left = c.run_frames.new.fuel in
    work_threw s (store_of c.args.core.now) c.args.fuel.now (working c.args.core.now c.args.thread.now) (core_state mid) c.loop-thread.fuel (working mid c.loop-thread.thread) refl (ap stage_of c.in-Going.is) c.loop-thread.invariant
    (core_state new) left c.in-Threw.object (subst (Stops s (core_state mid) c.loop-thread.fuel (core_state new) left) c.in-Threw.is c.in_ok-act.ensures.stops)

pub finish-requires : goal.finish-requires
finish-requires c =
    let s = c.args.system.now in let mid = c.loop-thread.core in let new = c.run_frames.new.core in let left = c.run_frames.new.fuel in
    no_frames s (store_of c.args.core.now) c.args.fuel.now (working c.args.core.now c.args.thread.now) (core_state mid) c.loop-thread.fuel (working mid c.loop-thread.thread) refl (ap stage_of c.in-Going.is) c.loop-thread.invariant
    (core_state new) left c.in-Returned.value c.requires.thread (subst (Stops s (core_state mid) c.loop-thread.fuel (core_state new) left) c.in-Returned.is c.in_ok-act.ensures.stops)

pub returns-in-Bad-stage : goal.returns-in-Bad-stage
returns-in-Bad-stage c =
    let s = c.args.system.now in let mid = c.loop-thread.core in let new = c.run_frames.new.core in let left = c.run_frames.new.fuel in
    work_finished_badly s (store_of c.args.core.now) c.args.fuel.now (working c.args.core.now c.args.thread.now) (core_state mid) c.loop-thread.fuel (working mid c.loop-thread.thread) refl (ap stage_of c.in-Going.is) c.loop-thread.invariant
    (core_state new) left c.in-Returned.value (core_state c.finish.new.core) _ c.in_ok-thread-in-Returned.field-0 (working mid c.loop-thread.thread) (store_of new)
    (subst (Stops s (core_state mid) c.loop-thread.fuel (core_state new) left) c.in-Returned.is c.in_ok-act.ensures.stops) c.in_ok-thread-in-Returned.ensures c.in-Bad-stage.is

pub loop-thread-preserved : goal.loop-thread-preserved
loop-thread-preserved c =
    let s = c.args.system.now in let mid = c.loop-thread.core in let new = c.run_frames.new.core in let left = c.run_frames.new.fuel in
    work_finished s (store_of c.args.core.now) c.args.fuel.now (working c.args.core.now c.args.thread.now) (core_state mid) c.loop-thread.fuel (working mid c.loop-thread.thread) refl (ap stage_of c.in-Going.is) c.loop-thread.invariant
    (core_state new) left c.in-Returned.value (core_state c.finish.new.core) _ c.in_ok-thread-in-Returned.field-0
    (subst (Stops s (core_state mid) c.loop-thread.fuel (core_state new) left) c.in-Returned.is c.in_ok-act.ensures.stops) c.in_ok-thread-in-Returned.ensures c.in_default-stage.not-Bad

pub ending_act-requires : goal.ending_act-requires
ending_act-requires c =
    let s = c.args.system.now in let mid = c.loop-thread.core in
    can_end s (store_of mid) c.loop-thread.fuel (working mid c.loop-thread.thread) c.requires.system
    (working_on s (store_of c.args.core.now) (store_of mid) c.args.fuel.now c.loop-thread.fuel (working c.args.core.now c.args.thread.now) (working mid c.loop-thread.thread) c.requires.thread c.loop-thread.invariant)

pub returns : goal.returns
returns c st k h =
    let s = c.args.system.now in let mid = c.loop-thread.core in
    let x = working mid c.loop-thread.thread in
    let there = work_again st k (store_of c.args.core.now) (store_of mid) c.args.fuel.now c.loop-thread.fuel (working c.args.core.now c.args.thread.now) x h in
    (c.loop-thread.invariant st k h, ends_at s (at_work st k (store_of mid) c.loop-thread.fuel x) k (store_of mid) c.loop-thread.fuel x c.loop-thread.thread.stage c.in_ok-ending_act.field-0 there refl c.in_default.not-Going c.in_ok-ending_act.ensures)
