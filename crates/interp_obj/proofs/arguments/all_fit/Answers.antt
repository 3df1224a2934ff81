use Rattle.std.proofs.Common.{◌∙◌, ap, sym, arith, pos, ℕ, ◌+◌, List, Bor}
use Rattle.interp_core.specs.Cores.{store_of}
use Rattle.jx_base.specs.declared.value.Value.TheVariants as value
use Rattle.machine_model.specs.ObjectRows.{all_fit}
use Rattle.program_model.specs.Lookup.{Shape, shape_fits}
use Rattle.interp_obj.proofs.Fitting.{value_left, one_unfit, one_fit, rest_is, types_of, parameters_in}
use Rattle.interp_obj.proofs.arguments.all_fit.Goals as goal

pub loop-value-init : goal.loop-value-init
loop-value-init c =
    ap (all_fit c.args.system.now c.args.loose (store_of c.args.core.now) c.args.values.now)
    (types_of c.args.descriptor.now c.of-parameters.result c.of-parameters.ensures)

pub returns-in_default : goal.returns-in_default
returns-in_default c =
    value_left c.args.system.now (store_of c.args.core.now) c.args.loose c.args.values.now c.loop-value.parameters.parameters c.loop-value.value-index c.loop-value-test.true
    c.in_default.ensures.none_left ∙ sym c.loop-value.invariant

pub returns-then-not-shape_fits : goal.returns-then-not-shape_fits
returns-then-not-shape_fits c =
    one_unfit c.args.system.now (store_of c.args.core.now) c.args.loose c.args.values.now c.loop-value.parameters.parameters c.in-Some.kind.now c.next.new.self.parameters
    c.loop-value.value-index (value.Int (pos 0)) c.loop-value-test.true (parameters_in c.in-Some.kind.now c.loop-value.parameters c.next.new.self c.in-Some.ensures.taken)
    (ap (λ (x : Shape). shape_fits c.args.system.now c.args.loose x c.in-Some.kind.now) (sym c.shape_of.ensures) ∙ sym c.shape_fits.ensures ∙ c.if-not-shape_fits.true) ∙ sym c.loop-value.invariant

pub loop-value-preserved : goal.loop-value-preserved
loop-value-preserved c =
    c.loop-value.invariant ∙
    one_fit c.args.system.now (store_of c.args.core.now) c.args.loose c.args.values.now c.loop-value.parameters.parameters c.in-Some.kind.now c.next.new.self.parameters
    c.loop-value.value-index (c.loop-value.value-index + 1) (value.Int (pos 0)) (omega arith) c.loop-value-test.true
    (parameters_in c.in-Some.kind.now c.loop-value.parameters c.next.new.self c.in-Some.ensures.taken)
    (ap (λ (x : Shape). shape_fits c.args.system.now c.args.loose x c.in-Some.kind.now) (sym c.shape_of.ensures) ∙ sym c.shape_fits.ensures ∙ c.if-not-shape_fits.false)

pub returns : goal.returns
returns c =
    rest_is c.args.system.now (store_of c.args.core.now) c.args.loose (λ (k : Bor (List ℕ)). k.now) c.next-2.result c.is_none.result c.loop-value.parameters c.next-2.new.self
    c.args.values.now c.loop-value.value-index c.is_none.ensures c.next-2.ensures.taken c.next-2.ensures.none_left c.loop-value-test.false ∙ sym c.loop-value.invariant
