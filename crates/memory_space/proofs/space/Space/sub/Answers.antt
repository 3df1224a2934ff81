use Rattle.memory_space.proofs.Made.{space_sub}
use Rattle.memory_space.proofs.space.Space.sub.Goals as goal

pub invariant_of-self : goal.invariant_of-self
invariant_of-self c = space_sub c.self.inside c.sub.new.self c.args.domain.0 c.args.object _ _ c.sub.result c.self.invariant c.sub.ensures.reply c.sub.ensures.after
