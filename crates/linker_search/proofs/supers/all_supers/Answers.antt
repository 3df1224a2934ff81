use Rattle.std.proofs.Common.{ap, length, arith}
use Rattle.linker_search.proofs.Walks.{lists_of_all}
use Rattle.linker_search.proofs.supers.all_supers.Goals as goal

pub returns : goal.returns
returns c =
    lists_of_all c.args.system.now c.loop-class.supers.items
    (omega (arith, c.loop-class.invariant.0, c.loop-class-test.false, c.loop-class.auto.class-end, ap length c.as_slice-count.ensures))
    (λ d le. c.loop-class.invariant.1 d (omega (arith, le, c.loop-class.invariant.0)))
