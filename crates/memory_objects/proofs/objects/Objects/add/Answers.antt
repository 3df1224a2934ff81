use Rattle.memory_objects.proofs.Invariant.{pushed}
use Rattle.memory_objects.proofs.objects.Objects.add.Goals as goal

pub invariant_of-self : goal.invariant_of-self
invariant_of-self c =
    pushed c.self.inside c.args.self.now c.push_reserved.new.self c.push_reserved-2.new.self c.args.part c.held_by.result c.self.view_is c.self.invariant c.requires.joins c.requires.room
    c.push_reserved.ensures.items c.push_reserved.ensures.capacity c.push_reserved-2.ensures.items c.push_reserved-2.ensures.capacity
