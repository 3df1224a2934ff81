use Rattle.std.proofs.Common.{◌∙◌, ap, sym, Option}
use Rattle.jx_base.specs.declared.ids.ServiceId.{ServiceId}
use Rattle.jx_base.proofs.BasicLaws.{ap2}
use Rattle.jx_model.specs.Threads.{serving_state}
use Rattle.nucleus_tables.proofs.ThreadsMoved.{goes_as}
use Rattle.table_threads.specs.ThreadChanges.{runs_as}
use Rattle.nucleus_tables.proofs.tables.Tables.resumed.Goals as goal

pub returns-in-None-default : goal.returns-in-None-default
returns-in-None-default c =
    ap (λ (v : Option ServiceId). runs_as v c.serves.result) (sym c.in-None-default.is-0)
    ∙ goes_as c.args.self.now c.args.domain.0 c.args.thread.0 c.args.thread c.service.result c.serves.result c.requires c.service.ensures c.serves.ensures

pub returns-in-Some-Some : goal.returns-in-Some-Some
unfolding serving_state
returns-in-Some-Some c =
    ap2 runs_as (sym c.in-Some-Some.is-0) (sym c.in-Some-Some.is-1)
    ∙ goes_as c.args.self.now c.args.domain.0 c.args.thread.0 c.args.thread c.service.result c.serves.result c.requires c.service.ensures c.serves.ensures

pub returns-in-Some-None : goal.returns-in-Some-None
unfolding serving_state
returns-in-Some-None c =
    ap2 runs_as (sym c.in-Some-None.is-0) (sym c.in-Some-None.is-1)
    ∙ goes_as c.args.self.now c.args.domain.0 c.args.thread.0 c.args.thread c.service.result c.serves.result c.requires c.service.ensures c.serves.ensures
