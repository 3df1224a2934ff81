use Rattle.std.proofs.Common.{◌∙◌, sym, ap, subst, false}
use Rattle.memory_objects.proofs.MadeParts.{released_by}
use Rattle.memory_objects.specs.ObjectLists.{ObjectsState, released_in}
use Rattle.memory_space.specs.Backing.{IsBacked, shapes_of}
use Rattle.memory_space.specs.SpaceLists.{SpaceState, objects_in}
use Rattle.memory_space.proofs.Made.{backed_released}
use Rattle.memory_space.proofs.space.Space.release.Goals as goal

pub returns-then-not-holds-clause-reply : goal.returns-then-not-holds-clause-reply
returns-then-not-holds-clause-reply c =
    released_by c.self.inside.objects c.args.domain.0 c.args.object.0 false (sym c.if-not-holds.true ∙ c.holds.ensures.held)
    ∙ ap (λ (z : SpaceState). released_in (objects_in z) c.args.domain.0 c.args.object.0) c.self.view_is

pub invariant_of-self : goal.invariant_of-self
invariant_of-self c =
    let x = c.self.inside in
    record {
      granules = c.self.invariant.granules;
      backed = subst (λ (z : ObjectsState). IsBacked z (shapes_of x.extents.items) x.pool) (sym c.release-reply.ensures.after) (backed_released x.objects (shapes_of x.extents.items) x.pool c.args.domain.0 c.args.object.0 c.self.invariant.backed);
    }
