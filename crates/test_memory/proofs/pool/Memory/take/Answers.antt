use Rattle.std.proofs.Common.{◌∙◌}
use Rattle.test_memory.proofs.Apart.{size_taken}
use Rattle.test_memory.proofs.pool.Memory.take.Goals as goal

pub invariant_of-self : goal.invariant_of-self
invariant_of-self c =
    record {
      size = size_taken c.take.result c.args.n c.args.self.now.pool c.take.new.self c.take.ensures.taken c.take.ensures.unchanged ∙ c.args.self.now.size;
    }
