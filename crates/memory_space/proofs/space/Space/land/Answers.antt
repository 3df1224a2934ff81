use Rattle.memory_space.proofs.Made.{space_landed}
use Rattle.memory_space.proofs.space.Space.land.Goals as goal

pub invariant_of-self : goal.invariant_of-self
invariant_of-self c = space_landed c.self.inside c.args.self.now c.land.new.self c.args.object.0 c.self.invariant c.self.view_is c.requires c.land.ensures
