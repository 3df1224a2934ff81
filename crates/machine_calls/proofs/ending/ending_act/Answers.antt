use Rattle.std.proofs.lemmas.Result.{IfOk-weaker}
use Rattle.interp_core.specs.Cores.{store_of}
use Rattle.machine_calls.proofs.Packing.{returned_ends, thrown_ends}
use Rattle.machine_calls.proofs.ending.ending_act.Goals as goal

pub returns-in-Returned-Some : goal.returns-in-Returned-Some
returns-in-Returned-Some c =
    let w = c.in-Returned-Some in
    rw w.is-0 (IfOk-weaker c.return_act.result _ _ (λ a h. returned_ends (store_of c.args.core.now) c.args.call w.call w.value a w.is-1 h) c.return_act.ensures)

pub returns-in-Threw-Some : goal.returns-in-Threw-Some
returns-in-Threw-Some c =
    let w = c.in-Threw-Some in
    rw w.is-0 (IfOk-weaker c.throw_act.result _ _ (λ a h. thrown_ends (store_of c.args.core.now) c.args.call w.call w.object a w.is-1 h) c.throw_act.ensures)
