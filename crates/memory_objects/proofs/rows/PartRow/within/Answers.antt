use Rattle.std.proofs.Common.{refl}
use Rattle.jx_model.specs.MemoryObjects.{part_within}
use Rattle.memory_objects.proofs.rows.PartRow.within.Goals as goal

pub returns : goal.returns
unfolding part_within
returns c = refl
