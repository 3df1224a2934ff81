use Rattle.std.proofs.Common.{◌≡◌, ◌≢◌, ℕ, arith, inl, inr, subst, sym}
use Rattle.interp_core.specs.Cores.{core_state}
use Rattle.machine_model.specs.State.{Going}
use Rattle.machine_steps.specs.Stepping.{SteppedAs}
use Rattle.domain_machine.specs.Works.{IsLiving, Reaches, StopsAs, come_to}
use Rattle.domain_machine.proofs.Goings.{can_step, come_same, living_on}
use Rattle.domain_machine.proofs.Reaching.{reach_here}
use Rattle.domain_machine.proofs.Stopping.{asks, goes_on, met_bad_code, overfull, none_spent, returned, stops_later, threw}
use Rattle.domain_machine.proofs.running.run_frames.Goals as goal

pub loop-fuel-init : goal.loop-fuel-init
loop-fuel-init c =
    let s = c.args.system.now in let core = core_state c.args.core.now in
    ((λ st k x h. subst (Reaches s k st) (sym (come_same st k x core c.args.fuel.now h)) (reach_here s k st)), omega arith)

pub step_frames-requires-clause-core : goal.step_frames-requires-clause-core
step_frames-requires-clause-core c =
    let s = c.args.system.now in let old = core_state c.args.core.now in let now = core_state c.loop-fuel.core in
    (can_step s now c.loop-fuel.fuel c.requires.system (living_on s old now c.args.fuel.now c.loop-fuel.fuel c.requires.core c.loop-fuel.invariant.0)).0

pub step_frames-requires-clause-instructions : goal.step_frames-requires-clause-instructions
step_frames-requires-clause-instructions c =
    let s = c.args.system.now in let old = core_state c.args.core.now in let now = core_state c.loop-fuel.core in
    (can_step s now c.loop-fuel.fuel c.requires.system (living_on s old now c.args.fuel.now c.loop-fuel.fuel c.requires.core c.loop-fuel.invariant.0)).1

pub loop-fuel-preserved : goal.loop-fuel-preserved
loop-fuel-preserved c =
    let s = c.args.system.now in let old = core_state c.args.core.now in let now = core_state c.loop-fuel.core in let new = core_state c.step_frames.new.core in
    let some : c.loop-fuel.fuel ≢ 0 = omega (arith, c.loop-fuel-test.true) in
    let g = subst (SteppedAs s now new) c.in-Going.is c.in_ok-step_frames.ensures in
    ((λ st k x h. goes_on s st k x old c.args.fuel.now h now new c.loop-fuel.fuel (c.loop-fuel.invariant.0 st k x h) g some), omega (arith, c.loop-fuel.invariant.1))

pub returns-in-Returned-clause-stops : goal.returns-in-Returned-clause-stops
returns-in-Returned-clause-stops c st k x h =
    let s = c.args.system.now in let old = core_state c.args.core.now in let now = core_state c.loop-fuel.core in let new = core_state c.step_frames.new.core in
    let some : c.loop-fuel.fuel ≢ 0 = omega (arith, c.loop-fuel-test.true) in
    returned s st k x old c.args.fuel.now h now new c.loop-fuel.fuel (c.loop-fuel.invariant.0 st k x h) c.in-Returned.value (subst (SteppedAs s now new) c.in-Returned.is c.in_ok-step_frames.ensures) some

pub returns-in-Returned-clause-spent : goal.returns-in-Returned-clause-spent
returns-in-Returned-clause-spent c = omega (arith, c.loop-fuel.invariant.1, c.loop-fuel-test.true)

pub returns-in-Threw-clause-stops : goal.returns-in-Threw-clause-stops
returns-in-Threw-clause-stops c st k x h =
    let s = c.args.system.now in let old = core_state c.args.core.now in let now = core_state c.loop-fuel.core in let new = core_state c.step_frames.new.core in
    let some : c.loop-fuel.fuel ≢ 0 = omega (arith, c.loop-fuel-test.true) in
    threw s st k x old c.args.fuel.now h now new c.loop-fuel.fuel (c.loop-fuel.invariant.0 st k x h) c.in-Threw.object (subst (SteppedAs s now new) c.in-Threw.is c.in_ok-step_frames.ensures) some

pub returns-in-Threw-clause-spent : goal.returns-in-Threw-clause-spent
returns-in-Threw-clause-spent c = omega (arith, c.loop-fuel.invariant.1, c.loop-fuel-test.true)

pub returns-in-Asks-clause-stops : goal.returns-in-Asks-clause-stops
returns-in-Asks-clause-stops c st k x h =
    let s = c.args.system.now in let old = core_state c.args.core.now in let now = core_state c.loop-fuel.core in let new = core_state c.step_frames.new.core in
    let some : c.loop-fuel.fuel ≢ 0 = omega (arith, c.loop-fuel-test.true) in
    asks s st k x old c.args.fuel.now h now new c.loop-fuel.fuel (c.loop-fuel.invariant.0 st k x h) c.in-Asks.act (subst (SteppedAs s now new) c.in-Asks.is c.in_ok-step_frames.ensures) some

pub returns-in-Overfull-clause-stops : goal.returns-in-Overfull-clause-stops
returns-in-Overfull-clause-stops c st k x h =
    let s = c.args.system.now in let old = core_state c.args.core.now in let now = core_state c.loop-fuel.core in let new = core_state c.step_frames.new.core in
    let some : c.loop-fuel.fuel ≢ 0 = omega (arith, c.loop-fuel-test.true) in
    let r = c.loop-fuel.invariant.0 st k x h in
    elim c.in-Overfull.is [
      | inl e ↦ overfull s st k x old c.args.fuel.now h now new c.loop-fuel.fuel r (subst (SteppedAs s now new) e c.in_ok-step_frames.ensures) some
      | inr e ↦ met_bad_code s st k x old c.args.fuel.now h now new c.loop-fuel.fuel r (subst (SteppedAs s now new) e c.in_ok-step_frames.ensures) some
    ]

pub stop_without_fuel-requires-clause-core : goal.stop_without_fuel-requires-clause-core
stop_without_fuel-requires-clause-core c =
    let s = c.args.system.now in let old = core_state c.args.core.now in let now = core_state c.loop-fuel.core in
    let none : c.loop-fuel.fuel ≡ 0 = omega (arith, c.loop-fuel-test.false) in
    subst (IsLiving s now) none (living_on s old now c.args.fuel.now c.loop-fuel.fuel c.requires.core c.loop-fuel.invariant.0)

pub returns-clause-stops : goal.returns-clause-stops
returns-clause-stops c st k x h =
    let s = c.args.system.now in let old = core_state c.args.core.now in let now = core_state c.loop-fuel.core in
    let none : c.loop-fuel.fuel ≡ 0 = omega (arith, c.loop-fuel-test.false) in
    subst (λ (n : ℕ). StopsAs s st k x now n c.stop_without_fuel.result) (sym none)
    (stops_later s st k x old c.args.fuel.now h now (subst (λ (n : ℕ). Reaches s k st (come_to st k x now n Going)) none (c.loop-fuel.invariant.0 st k x h)) c.stop_without_fuel.result c.stop_without_fuel.ensures.stops)

pub returns-clause-spent : goal.returns-clause-spent
returns-clause-spent c = none_spent c.stop_without_fuel.result c.args.fuel.now c.loop-fuel.fuel c.stop_without_fuel.ensures.spent
