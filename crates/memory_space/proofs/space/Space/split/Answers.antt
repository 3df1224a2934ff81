use Rattle.memory_space.proofs.Made.{space_split}
use Rattle.memory_space.proofs.space.Space.split.Goals as goal

pub invariant_of-self : goal.invariant_of-self
invariant_of-self c = space_split c.self.inside c.split.new.self c.args.domain.0 c.args.object _ c.split.result c.self.invariant c.split.ensures.reply c.split.ensures.after
