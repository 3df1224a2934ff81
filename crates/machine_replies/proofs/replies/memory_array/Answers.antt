use Rattle.interp_access.proofs.ArrayNames.{named_small}
use Rattle.machine_replies.proofs.replies.memory_array.Goals as goal

pub class_at_place-requires : goal.class_at_place-requires
class_at_place-requires c = named_small c.args.system.now _ c.class_named.result c.class_named.ensures c.requires
