use Rattle.std.proofs.Common.{◌∙◌, ap, length, false}
use Rattle.test_memory.proofs.Apart.{same_size}
use Rattle.test_memory.proofs.pool.Memory.give.Goals as goal

pub invariant_of-self : goal.invariant_of-self
invariant_of-self c =
    record { size = ap length c.give.ensures ∙ same_size c.args.self.now.pool c.args.at c.args.n false ∙ c.args.self.now.size }
