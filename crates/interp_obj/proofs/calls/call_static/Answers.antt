use Rattle.std.proofs.Common.{◌≡◌, ◌∙◌, ◌<◌, ap, sym, subst, true, ℕ, List, length, reverse, take}
use Rattle.std.specs.Prelude.{IfOk}
use Rattle.jx_base.specs.declared.value.Value.{Value}
use Rattle.machine_model.specs.ObjectRows.{ObjectOutcome, all_fit}
use Rattle.program_model.specs.Types.{parameter_types}
use Rattle.interp_core.specs.Cores.{core_state, running_stack}
use Rattle.interp_core.specs.Steps.{Gives}
use Rattle.interp_obj.specs.Calls.{AreOnTop, taken}
use Rattle.interp_obj.proofs.Held.{arguments_held}
use Rattle.interp_obj.proofs.Invocations.{all_taken, none_fit, static_bad, static_runs, too_few}
use Rattle.interp_obj.proofs.calls.call_static.Goals as goal

pub returns-in_default : goal.returns-in_default
returns-in_default c =
    let s = c.args.system.now in let core = core_state c.args.core.now in let stack = running_stack core in let y = c.args.selector.now in
    let count = c.parameter_count-count.result in
    let types = parameter_types y.descriptor in
    let n : count ≡ length types = c.parameter_count-count.ensures ∙ ap (λ (d : List ℕ). length (parameter_types d)) c.as_slice-descriptor.ensures in
    let few : length stack < count = subst (AreOnTop stack count) c.in_default.is c.in_ok-arguments.ensures in
    static_bad s core c.args.place y (too_few s core types stack (subst (λ (k : ℕ). length stack < k) n few))

pub returns-then-not-all_fit : goal.returns-then-not-all_fit
returns-then-not-all_fit c =
    let s = c.args.system.now in let core = core_state c.args.core.now in let stack = running_stack core in let y = c.args.selector.now in
    let count = c.parameter_count-count.result in
    let types = parameter_types y.descriptor in
    let n : count ≡ length types = c.parameter_count-count.ensures ∙ ap (λ (d : List ℕ). length (parameter_types d)) c.as_slice-descriptor.ensures in
    let values = c.as_slice.result.now in
    let on = subst (AreOnTop stack count) c.in-Some.is c.in_ok-arguments.ensures in
    let above = c.as_slice.ensures.value ∙ on.0 ∙ ap (λ (k : ℕ). reverse (take k stack)) n in
    let fit = ap (λ (d : List ℕ). all_fit s true core.store values (parameter_types d)) (sym c.as_slice-descriptor.ensures) ∙ sym c.all_fit.ensures ∙ c.if-not-all_fit.true in
    static_bad s core c.args.place y (none_fit s core types stack values above fit)

pub run_method-requires-clause-arguments : goal.run_method-requires-clause-arguments
run_method-requires-clause-arguments c =
    let core = core_state c.args.core.now in
    let count = c.parameter_count-count.result in
    let on = subst (AreOnTop (running_stack core) count) c.in-Some.is c.in_ok-arguments.ensures in
    arguments_held core count c.as_slice-2.result.now c.requires.core.core.references (c.as_slice-2.ensures.value ∙ on.0)

pub returns : goal.returns
returns c =
    let s = c.args.system.now in let core = core_state c.args.core.now in let stack = running_stack core in let y = c.args.selector.now in
    let count = c.parameter_count-count.result in
    let types = parameter_types y.descriptor in
    let n : count ≡ length types = c.parameter_count-count.ensures ∙ ap (λ (d : List ℕ). length (parameter_types d)) c.as_slice-descriptor.ensures in
    let values = c.as_slice-2.result.now in
    let on = subst (AreOnTop stack count) c.in-Some.is c.in_ok-arguments.ensures in
    let above = c.as_slice-2.ensures.value ∙ on.0 ∙ ap (λ (k : ℕ). reverse (take k stack)) n in
    let fit =
    ap (λ (d : List ℕ). all_fit s true core.store values (parameter_types d)) (sym c.as_slice-descriptor.ensures)
    ∙ ap (λ (vs : List Value). all_fit s true core.store vs (parameter_types c.as_slice-descriptor.result.now)) (c.as_slice-2.ensures.value ∙ sym c.as_slice.ensures.value)
    ∙ sym c.all_fit.ensures ∙ c.if-not-all_fit.false in
    let row = static_runs s core c.args.place y (taken values stack) (all_taken s core types stack values above fit) in
    subst (λ (r : ObjectOutcome). IfOk c.run_method.result (λ x. Gives x core (core_state c.run_method.new.core) r)) (sym row) c.run_method.ensures
