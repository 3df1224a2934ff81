use Rattle.std.proofs.Common.{◌∙◌, ◌<◌, ◌≤◌, sym, ap, List, slice_get, arith}
use Rattle.call_table.specs.declared.calls.Call.{Call}
use Rattle.jx_base.specs.Basics.{numbered}
use Rattle.call_table.specs.CallLists.{CallsState}
use Rattle.table_threads.proofs.Numbered.{copied_there, numbered_place, numbered_zero}
use Rattle.call_table.proofs.calls.Calls.call.Goals as goal

pub returns-in_err-place : goal.returns-in_err-place
returns-in_err-place c =
    let zero : c.args.call.0 < 1 = omega (arith, c.in_err-place.ensures) in
    c.from_residual.ensures ∙ sym (numbered_zero c.args.self.now.calls c.args.call.0 zero)

pub returns : goal.returns
returns c =
    let one : 1 ≤ c.args.call.0 = c.in_ok-place.ensures.0 in
    c.copied.ensures
    ∙ copied_there c.deref.result.now c.in_ok-place.place c.get.result c.get.ensures.lookup.0 c.get.ensures.lookup.1
    ∙ ap (λ (cs : List Call). slice_get cs c.in_ok-place.place) c.deref.ensures.value
    ∙ ap (slice_get c.self.inside.calls.items) c.in_ok-place.ensures.1
    ∙ sym (numbered_place c.self.inside.calls.items c.args.call.0 one)
    ∙ ap (λ (x : CallsState). numbered x.calls c.args.call.0) c.self.view_is
