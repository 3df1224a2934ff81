use Rattle.std.proofs.Common.{◌<◌, sym, subst, Bool}
use Rattle.run_alone.proofs.Measures.{left_falls, left_of}
use Rattle.run_alone.proofs.WholeRuns.{has_supported, is_single}
use Rattle.run_alone.specs.Workers.{HasCome}
use Rattle.run_alone.proofs.run.run_alone.Goals as goal

pub loop-going-smaller : goal.loop-going-smaller
loop-going-smaller c =
    let s = c.args.system.now in let old = c.loop-going.worker in let new = c.act.new.self in
    subst (λ (b : Bool). left_of s new c.in_ok-going.going < left_of s old b) (sym c.loop-going-test.true) (left_falls s old new c.in_ok-going.going c.in_ok-going.ensures.acted)

pub returns-clause-history : goal.returns-clause-history
returns-clause-history c =
    is_single c.args.system.now c.loop-going.worker c.close.result (subst (HasCome c.args.system.now c.loop-going.worker) c.loop-going-test.false c.loop-going.invariant) c.close.ensures

pub returns-clause-supported : goal.returns-clause-supported
returns-clause-supported c =
    has_supported c.args.system.now c.loop-going.worker c.close.result (subst (HasCome c.args.system.now c.loop-going.worker) c.loop-going-test.false c.loop-going.invariant) c.close.ensures
