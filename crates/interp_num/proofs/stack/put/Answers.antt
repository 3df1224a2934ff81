-- With room for its slots a value may be put on the top.
use Rattle.std.proofs.Common.{arith, ap, sym, ◌∙◌, ◌∷◌}
use Rattle.jx_base.specs.Stacks.{StackState}
use Rattle.machine_model.specs.NumericRows.{Stack}
use Rattle.machine_model.specs.NumericRows.{NumericOutcome as outcome}
use Rattle.interp_num.proofs.stack.put.Goals as goal
use Rattle.interp_num.proofs.Depths.{depth_cons, leaves_within}

pub returns-clause-row : goal.returns-clause-row
returns-clause-row c most h =
    let s = c.args.frame.now.stack.values in
    let put = ap (λ (x : StackState). x.values) c.push.ensures in
    leaves_within most c.args.frame.now.locals (c.args.value ∷ s) (omega (arith, depth_cons c.args.value s))
    ∙ ap (λ (x : Stack). outcome.Next c.args.frame.now.locals x) (sym put)
