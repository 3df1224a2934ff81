use Rattle.std.proofs.Common.{sym, subst}
use Rattle.memory_objects.specs.ObjectLists.{ObjectsState}
use Rattle.memory_space.specs.Backing.{IsBacked, shapes_of}
use Rattle.memory_space.proofs.Made.{backed_ended}
use Rattle.memory_space.proofs.space.Space.end_domain.Goals as goal

pub invariant_of-self : goal.invariant_of-self
invariant_of-self c =
    let x = c.self.inside in
    record {
      granules = c.self.invariant.granules;
      backed = subst (λ (z : ObjectsState). IsBacked z (shapes_of x.extents.items) x.pool) (sym c.end_domain.ensures) (backed_ended x.objects (shapes_of x.extents.items) x.pool c.args.domain.0 c.self.invariant.backed);
    }
