use Rattle.std.proofs.lemmas.Result.{err_from_is_err_and}
use Rattle.jx_top.specs.Systems.{IsPlanOf, IsPlanRefused}
use Rattle.jx_top.proofs.SearchSteps.{fetch_stops, plan_held, text_refused}
use Rattle.jx_top.proofs.finding.described_plan.Goals as goal

pub returns-in_err-bytes-clause-plan : goal.returns-in_err-bytes-clause-plan
returns-in_err-bytes-clause-plan g c =
    let p = err_from_is_err_and c.from_residual.result c.from_residual.ensures.1 in
    let file = c.args.file.now in
    rw (p.1, p.2)
    (fetch_stops (g.L.Shelf.state c.args.shelf.now).told (λ files plan. IsPlanOf files file plan) (λ files o. IsPlanRefused files file o) file _
    (λ files o h. text_refused files file o c.requires h) c.in_err-bytes.ensures.bytes c.in_err-bytes.ensures.ends)

pub returns-clause-plan : goal.returns-clause-plan
returns-clause-plan g c =
    let holds = rw c.deref.ensures.value at c.plan_of_bytes.ensures.plan in
    plan_held (g.L.Shelf.state c.args.shelf.now).told c.args.file.now _ _ c.requires c.in_ok-bytes.ensures.bytes holds
