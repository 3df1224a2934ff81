use Rattle.std.proofs.Common.{◌∙◌, ap, sym, subst, true}
use Rattle.program_model.specs.Lookup.{Shape, shape_fits}
use Rattle.interp_core.specs.Cores.{core_state, running_stack}
use Rattle.interp_core.specs.Steps.{Gives}
use Rattle.interp_obj.proofs.Returned.{no_type, no_value, other_kind, value_fit, value_unfit}
use Rattle.interp_obj.proofs.returns.return_value.Goals as goal

pub returns-in_default : goal.returns-in_default
returns-in_default c =
    let core = core_state c.args.core.now in
    no_value c.args.system.now core c.args.kind (running_stack core) (sym c.in_default.ensures)

pub returns-in_default-as_kind : goal.returns-in_default-as_kind
returns-in_default-as_kind c =
    let core = core_state c.args.core.now in
    other_kind c.args.system.now core c.args.kind (running_stack core) c.in-Some.top (sym c.in-Some.ensures) (sym c.in_default-as_kind.ensures)

pub returns-in_default-result_of : goal.returns-in_default-result_of
returns-in_default-result_of c =
    let core = core_state c.args.core.now in
    no_type c.args.system.now core c.args.kind (running_stack core) c.in-Some.top c.in-Some-as_kind.value (sym c.in-Some.ensures) (sym c.in-Some-as_kind.ensures)
    (sym c.in_default-result_of.ensures)

pub returns-then-shape_fits : goal.returns-then-shape_fits
returns-then-shape_fits c =
    let s = c.args.system.now in
    let core = core_state c.args.core.now in
    let type = c.in-Some-result_of.result.now in
    let row = value_fit s core c.args.kind (running_stack core) c.in-Some.top c.in-Some-as_kind.value type (sym c.in-Some.ensures) (sym c.in-Some-as_kind.ensures)
    (sym c.in-Some-result_of.ensures) (ap (λ (x : Shape). shape_fits s true x type) (sym c.shape_of.ensures) ∙ sym c.shape_fits.ensures ∙ c.if-shape_fits.true) in
    subst (Gives c.return_to_caller.result core (core_state c.return_to_caller.new.core)) (sym row) c.return_to_caller.ensures

pub returns-else-shape_fits : goal.returns-else-shape_fits
returns-else-shape_fits c =
    let s = c.args.system.now in
    let core = core_state c.args.core.now in
    let type = c.in-Some-result_of.result.now in
    value_unfit s core c.args.kind (running_stack core) c.in-Some.top c.in-Some-as_kind.value type (sym c.in-Some.ensures) (sym c.in-Some-as_kind.ensures)
    (sym c.in-Some-result_of.ensures) (ap (λ (x : Shape). shape_fits s true x type) (sym c.shape_of.ensures) ∙ sym c.shape_fits.ensures ∙ c.if-shape_fits.false)
