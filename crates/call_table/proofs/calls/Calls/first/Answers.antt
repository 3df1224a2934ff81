use Rattle.std.proofs.Common.{◌∙◌, Some, None, ap, arith}
use Rattle.std.specs.Option.{option_map}
use Rattle.jx_base.specs.declared.ids.CallId.{CallId}
use Rattle.call_table.proofs.FirstCalls.{first_is, queued_first}
use Rattle.call_table.proofs.calls.Calls.first.Goals as goal

pub returns-in_err-first : goal.returns-in_err-first
returns-in_err-first c =
    ap (option_map (λ (k : CallId). k.0)) c.from_residual.ensures
    ∙ first_is c.self.inside c.args.self.now c.args.service.0 None c.self.view_is c.self.invariant c.in_err-first.ensures

pub overflow_add-result : goal.overflow_add-result
overflow_add-result c =
    let there = queued_first c.self.inside c.args.service.0 c.in_ok-first.field-0 c.self.invariant c.in_ok-first.ensures in
    record { fits = omega (arith, there.within, c.self.invariant.count, c.self.invariant.small) }

pub returns : goal.returns
returns c = first_is c.self.inside c.args.self.now c.args.service.0 (Some c.in_ok-first.field-0) c.self.view_is c.self.invariant c.in_ok-first.ensures
