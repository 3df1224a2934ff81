use Rattle.memory_objects.proofs.MadeParts.{none_made}
use Rattle.jx_model.specs.MemoryObjects.{new_parts}
use Rattle.memory_objects.proofs.objects.Objects.sub.Goals as goal

pub returns-in-Err-clause-after : goal.returns-in-Err-clause-after
unfolding new_parts
returns-in-Err-clause-after c = none_made c.args.self.now c.args.domain.0
