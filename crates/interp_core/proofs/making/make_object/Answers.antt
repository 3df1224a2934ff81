use Rattle.interp_core.proofs.Filling.{made}
use Rattle.interp_core.specs.Cores.{store_of}
use Rattle.interp_core.specs.Making.{contents_cells}
use Rattle.interp_core.proofs.making.make_object.Goals as goal

pub returns-clause-made : goal.returns-clause-made
returns-clause-made c = made (store_of c.args.core.now) c.make_in.new.heap c.args.class (contents_cells c.args.contents) c.make_in.result c.make_in.ensures.place c.make_in.ensures.after
