-- The values that are still to be put have room.
use Rattle.std.proofs.Common.{arith, ap, length}
use Rattle.std.proofs.lemmas.List.{length-append, length-take-le}
use Rattle.interp_num.proofs.depth.put_run.Goals as goal

pub push-requires : goal.push-requires
push-requires c =
    let sizes = simp length-append at (ap length c.loop-count.invariant.1) in
    omega (arith, sizes, length-take-le c.loop-count.count c.args.run.now c.loop-count.invariant.0, c.loop-count.invariant.2)
