use Rattle.interp_access.proofs.ArrayNames.{named_small}
use Rattle.interp_access.proofs.array_names.array_class.Goals as goal

pub class_at_place-requires : goal.class_at_place-requires
class_at_place-requires c = named_small c.args.system.now _ c.array_place.result c.array_place.ensures c.requires
