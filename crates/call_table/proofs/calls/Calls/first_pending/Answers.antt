use Rattle.std.proofs.Common.{◌≡◌, ◌∙◌, false, sym, subst, Option, arith}
use Rattle.std.specs.Prelude.{IfNone}
use Rattle.std.specs.List.{list_any}
use Rattle.std.specs.Option.{option_or}
use Rattle.jx_base.specs.declared.ids.CallId.{CallId}
use Rattle.jx_base.proofs.BasicLaws.{ap2}
use Rattle.call_table.specs.CallLists.{CallsState, is_pending_for}
use Rattle.call_table.proofs.EndedCalls.{found_number}
use Rattle.call_table.proofs.FirstCalls.{none_pending, pending_first}
use Rattle.call_table.proofs.calls.Calls.first_pending.Goals as goal

pub returns-in_err-place-clause-none : goal.returns-in_err-place-clause-none
returns-in_err-place-clause-none c =
    let none = none_pending c.self.inside c.args.service.0 c.self.invariant (c.in_err-place.ensures ∙ ap2 option_or c.first.ensures c.first-running.ensures) in
    let shown = subst (λ (y : CallsState). list_any (is_pending_for c.args.service.0) y.calls ≡ false) c.self.view_is none in
    subst (λ (o : Option CallId). IfNone o (list_any (is_pending_for c.args.service.0) c.args.self.now.calls ≡ false)) (sym c.from_residual.ensures) shown

pub overflow_add-result : goal.overflow_add-result
overflow_add-result c =
    let there = pending_first c.self.inside c.args.service.0 c.in_ok-place.place c.self.invariant (c.in_ok-place.ensures ∙ ap2 option_or c.first.ensures c.first-running.ensures) in
    record { fits = omega (arith, there.within, c.self.invariant.count, c.self.invariant.small) }

pub returns-clause-found : goal.returns-clause-found
returns-clause-found c =
    let there = pending_first c.self.inside c.args.service.0 c.in_ok-place.place c.self.invariant (c.in_ok-place.ensures ∙ ap2 option_or c.first.ensures c.first-running.ensures) in
    found_number c.self.inside c.args.self.now c.args.service.0 c.in_ok-place.place c.self.view_is there
