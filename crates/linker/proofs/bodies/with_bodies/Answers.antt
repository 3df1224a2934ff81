use Rattle.std.proofs.Common.{sym, subst}
use Rattle.linker.proofs.ReadMethods.{AreReadMethods, are_read}
use Rattle.linker.proofs.bodies.with_bodies.Goals as goal

pub bodies_of_methods-requires : goal.bodies_of_methods-requires
bodies_of_methods-requires c = subst AreReadMethods (sym c.as_slice.ensures) (are_read c.args.file c.requires)
