use Rattle.memory_space.proofs.Made.{space_carried}
use Rattle.memory_space.proofs.space.Space.ride.Goals as goal

pub invariant_of-self : goal.invariant_of-self
invariant_of-self c = space_carried c.self.inside c.args.self.now c.ride.new.self c.args.object.0 c.self.invariant c.self.view_is c.requires.kept c.ride.ensures
