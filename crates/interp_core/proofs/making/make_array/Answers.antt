use Rattle.interp_core.proofs.Filling.{makes_array}
use Rattle.interp_core.specs.Cores.{store_of}
use Rattle.interp_core.proofs.making.make_array.Goals as goal

pub returns-clause-made : goal.returns-clause-made
returns-clause-made c = makes_array c.make_object.result (store_of c.args.core.now) (store_of c.make_object.new.core) c.args.class.0 c.args.count c.args.element c.make_object.ensures.made
