use Rattle.machine_start.proofs.FirstHeap.{named_small}
use Rattle.machine_start.proofs.cores.string_array.Goals as goal

pub class_at_place-requires : goal.class_at_place-requires
class_at_place-requires c = named_small c.args.system.now _ c.class_named.result c.class_named.ensures c.requires
