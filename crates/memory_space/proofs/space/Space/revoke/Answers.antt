use Rattle.memory_space.proofs.Made.{space_revoke}
use Rattle.memory_space.proofs.space.Space.revoke.Goals as goal

pub invariant_of-self : goal.invariant_of-self
invariant_of-self c = space_revoke c.self.inside c.revoke.new.self c.args.domain.0 c.args.object c.revoke.result c.self.invariant c.revoke.ensures.reply c.revoke.ensures.after
