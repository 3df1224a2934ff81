use Rattle.std.proofs.Common.{refl}
use Rattle.jx_model.specs.MemoryObjects.{new_parts}
use Rattle.memory_objects.proofs.objects.Objects.revoke.Goals as goal

pub returns-in-Err-clause-after : goal.returns-in-Err-clause-after
unfolding new_parts
returns-in-Err-clause-after c = refl
