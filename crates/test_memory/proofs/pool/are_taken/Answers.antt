use Rattle.std.proofs.Common.{◌∙◌, sym, arith}
use Rattle.test_memory.proofs.Apart.{taken_if}
use Rattle.test_memory.proofs.pool.are_taken.Goals as goal

pub returns : goal.returns
returns c = λ t.
    taken_if c.args.pool.now c.holes.result.now c.args.at c.args.n c.holes.ensures.free (sym c.all_apart.ensures ∙ t) (omega arith)
