use Rattle.std.proofs.Common.{◌∙◌, sym, ap, subst, false, length, Bool, List}
use Rattle.memory_space.specs.Backing.{IsBacked, shapes_of}
use Rattle.memory_space.specs.ExtentLists.{IsClear}
use Rattle.memory_space.specs.SpaceLists.{SpaceState}
use Rattle.memory_space.proofs.Backed.{backed_given, length_run}
use Rattle.memory_space.proofs.space.Space.give.Goals as goal

pub invariant_of-self : goal.invariant_of-self
invariant_of-self c =
    let x = c.self.inside in
    let clear : IsClear x.extents.items (c.args.at, c.args.granules) = subst (λ (z : SpaceState). IsClear z.extents (c.args.at, c.args.granules)) (sym c.self.view_is) c.requires.clear in
    record {
      granules = c.self.invariant.granules ∙ sym (ap (λ (bs : List Bool). length bs) c.give.ensures ∙ length_run x.pool c.args.at c.args.granules false);
      backed = subst (λ (bs : List Bool). IsBacked x.objects (shapes_of x.extents.items) bs) (sym c.give.ensures) (backed_given x.objects x.extents.items x.pool c.args.at c.args.granules clear c.self.invariant.backed);
    }
