use Rattle.std.proofs.Common.{◌-◌, sym, arith, length}
use Rattle.interp_core.specs.Cores.{core_state, running_stack}
use Rattle.interp_obj.proofs.Fitting.{all_there, one_more, reaches}
use Rattle.interp_obj.proofs.arguments.top_values.Goals as goal

pub loop-above-preserved : goal.loop-above-preserved
loop-above-preserved c =
    let stack = running_stack (core_state c.args.core.now) in
    let above = c.loop-above.above in
    let there = sym c.in-Some.ensures in (
      one_more above (above - 1) c.args.count stack c.in-Some.value c.loop-above.values.items c.push.new.self.items (omega (arith, c.loop-above-test.true)) c.loop-above.invariant.1.0 there
          c.loop-above.invariant.0 c.in_ok-push.ensures.items,
      (
        omega (arith, c.loop-above.invariant.1.0),
        λ l. all_there above (above - 1) c.args.count (length stack) (omega (arith, c.loop-above-test.true)) c.loop-above.invariant.1.0
            c.loop-above.invariant.1.1 (reaches stack (above - 1) c.in-Some.value there),
      ),
    )
