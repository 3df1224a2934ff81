use Rattle.memory_space.proofs.Made.{space_held}
use Rattle.memory_space.proofs.space.Space.hold.Goals as goal

pub invariant_of-self : goal.invariant_of-self
invariant_of-self c = space_held c.self.inside c.args.self.now c.hold.new.self c.args.domain.0 c.args.object.0 c.self.invariant c.self.view_is c.requires.kept c.hold.ensures
