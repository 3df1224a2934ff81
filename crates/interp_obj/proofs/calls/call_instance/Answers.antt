use Rattle.std.proofs.Common.{◌≡◌, ◌∙◌, ◌<◌, ◌+◌, ◌-◌, ap, sym, subst, arith, pos, true, ℕ, List, get_or, drop, length, take}
use Rattle.std.specs.Prelude.{IfOk}
use Rattle.jx_base.specs.declared.value.Value.{Value}
use Rattle.jx_base.specs.declared.value.Value.TheVariants as value
use Rattle.machine_model.specs.ObjectRows.{ObjectOutcome, all_fit, invoke_on}
use Rattle.program_model.specs.Types.{parameter_types}
use Rattle.interp_core.specs.Cores.{core_state, running_stack}
use Rattle.interp_core.specs.Steps.{Gives}
use Rattle.interp_obj.specs.Calls.{AreOnTop, taken}
use Rattle.interp_obj.proofs.Fitting.{types_within}
use Rattle.interp_obj.proofs.Held.{arguments_held}
use Rattle.interp_obj.proofs.Invocations.{first_and_rest, instance_bad, instance_runs, is_below_arguments, no_object, none_fit}
use Rattle.interp_obj.proofs.calls.call_instance.Goals as goal

pub overflow_add-count : goal.overflow_add-count
overflow_add-count c = record { fits = omega (arith, c.parameter_count-count.ensures, types_within c.as_slice-descriptor.result.now) }

pub returns-in_default : goal.returns-in_default
returns-in_default c =
    let s = c.args.system.now in let core = core_state c.args.core.now in let stack = running_stack core in let y = c.args.selector.now in
    let count = c.parameter_count-count.result in
    let types = parameter_types y.descriptor in
    let n : count ≡ length types = c.parameter_count-count.ensures ∙ ap (λ (d : List ℕ). length (parameter_types d)) c.as_slice-descriptor.ensures in
    let few : length stack < count + 1 = subst (AreOnTop stack (count + 1)) c.in_default.is c.in_ok-values.ensures in
    no_object s core c.args.kind c.args.place c.args.method.now y (omega (arith, few, n))

pub returns-then-not-all_fit : goal.returns-then-not-all_fit
returns-then-not-all_fit c =
    let s = c.args.system.now in let core = core_state c.args.core.now in let stack = running_stack core in let y = c.args.selector.now in
    let count = c.parameter_count-count.result in
    let types = parameter_types y.descriptor in
    let n : count ≡ length types = c.parameter_count-count.ensures ∙ ap (λ (d : List ℕ). length (parameter_types d)) c.as_slice-descriptor.ensures in
    let values = c.as_slice.result.now in
    let others = take (length values - 1) (drop 1 values) in
    let on = subst (AreOnTop stack (count + 1)) c.in-Some.is c.in_ok-values.ensures in
    let parts = first_and_rest values (value.Int (pos 0)) c.in-len1-up.len_at_least in
    let below = is_below_arguments (length types) (count + 1) stack values others (get_or values 0 (value.Int (pos 0))) (omega (arith, n)) (c.as_slice.ensures.value ∙ on.0) on.1 parts in
    let fit = ap (λ (d : List ℕ). all_fit s true core.store others (parameter_types d)) (sym c.as_slice-descriptor.ensures) ∙ sym c.all_fit.ensures ∙ c.if-not-all_fit.true in
    instance_bad s core c.args.kind c.args.place c.args.method.now y (none_fit s core types stack others below.above fit)

pub call_on-requires-clause-call : goal.call_on-requires-clause-call
call_on-requires-clause-call c =
    let s = c.args.system.now in let core = core_state c.args.core.now in let stack = running_stack core in let y = c.args.selector.now in
    let count = c.parameter_count-count.result in
    let values = c.as_slice.result.now in
    let others = take (length values - 1) (drop 1 values) in
    let on = subst (AreOnTop stack (count + 1)) c.in-Some.is c.in_ok-values.ensures in
    let parts = first_and_rest values (value.Int (pos 0)) c.in-len1-up.len_at_least in
    record {
      others = others;
      parts = c.as_slice-2.ensures.value ∙ sym c.as_slice.ensures.value ∙ parts;
      selector = y;
      has = c.requires.selector;
      fit = ap (λ (d : List ℕ). all_fit s true core.store others (parameter_types d)) (sym c.as_slice-descriptor.ensures) ∙ sym c.all_fit.ensures ∙ c.if-not-all_fit.false;
      held = arguments_held core (count + 1) c.as_slice-2.result.now c.requires.core.core.references (c.as_slice-2.ensures.value ∙ on.0);
    }

pub returns : goal.returns
returns c =
    let s = c.args.system.now in let core = core_state c.args.core.now in let stack = running_stack core in let y = c.args.selector.now in
    let count = c.parameter_count-count.result in
    let types = parameter_types y.descriptor in
    let n : count ≡ length types = c.parameter_count-count.ensures ∙ ap (λ (d : List ℕ). length (parameter_types d)) c.as_slice-descriptor.ensures in
    let values = c.as_slice.result.now in
    let o = get_or values 0 (value.Int (pos 0)) in
    let others = take (length values - 1) (drop 1 values) in
    let on = subst (AreOnTop stack (count + 1)) c.in-Some.is c.in_ok-values.ensures in
    let parts = first_and_rest values (value.Int (pos 0)) c.in-len1-up.len_at_least in
    let below = is_below_arguments (length types) (count + 1) stack values others o (omega (arith, n)) (c.as_slice.ensures.value ∙ on.0) on.1 parts in
    let fit = ap (λ (d : List ℕ). all_fit s true core.store others (parameter_types d)) (sym c.as_slice-descriptor.ensures) ∙ sym c.all_fit.ensures ∙ c.if-not-all_fit.false in
    let row = instance_runs s core c.args.kind c.args.place c.args.method.now y o others below fit
    ∙ ap (λ (vs : List Value). invoke_on s core c.args.kind c.args.place c.args.method.now o (taken vs stack)) (sym (c.as_slice-2.ensures.value ∙ sym c.as_slice.ensures.value ∙ parts)) in
    subst (λ (r : ObjectOutcome). IfOk c.call_on.result (λ x. Gives x core (core_state c.call_on.new.core) r)) (sym row) c.call_on.ensures
