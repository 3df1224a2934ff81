use Rattle.std.proofs.Common.{◌≡◌, ◌∙◌, ◌<◌, ◌≤◌, Some, slice_get, length, List, refl, sym, ap, arith}
use Rattle.std.proofs.lemmas.Bool.Decides.{nat_tests}
use Rattle.std.proofs.lemmas.Option.{slice_get_read}
use Rattle.call_table.specs.declared.links.Ends.{Ends}
use Rattle.call_table.proofs.OpenedQueues.{first_past, first_there}
use Rattle.call_table.proofs.queues.Queues.first.Goals as goal

pub returns : goal.returns
returns c =
    let ends : List Ends = c.self.inside.ends.items in
    let q = c.args.queue in
    let e : Ends = c.in_ok-get.field-0.now in
    let shown : List Ends = c.deref.result.now in
    let l : q < length shown = grind (arith, nat_tests, c.in_ok-get.ensures.lookup.0) in
    let at : slice_get ends q ≡ Some e = ap (λ (es : List Ends). slice_get es q) (sym c.deref.ensures.value) ∙ slice_get_read shown (length shown) q e refl l c.in_ok-get.ensures.lookup.1 in
    first_there c.self.inside c.args.self.now q e c.self.view_is c.self.invariant at

pub returns-in_err-get : goal.returns-in_err-get
returns-in_err-get c =
    let l : length c.deref.result.now ≤ c.args.queue = grind (arith, nat_tests, c.in_err-get.ensures.lookup.0) in
    c.from_residual.ensures ∙ first_past c.self.inside c.args.self.now c.args.queue c.self.view_is (omega (arith, l, ap length c.deref.ensures.value))
