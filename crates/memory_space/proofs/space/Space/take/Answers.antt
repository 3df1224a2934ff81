use Rattle.std.proofs.Common.{◌≡◌, ◌∙◌, sym, ap, subst, refl, true, length, Bool, List, ℕ, Option, Some, None}
use Rattle.std.specs.Prelude.{IfSome}
use Rattle.extent_pool.specs.Taken.{with_run}
use Rattle.memory_space.specs.declared.space.Space.TheInside.{Inside}
use Rattle.memory_space.specs.Backing.{IsBacked, IsSpace, shapes_of}
use Rattle.memory_space.proofs.Backed.{backed_taken, length_run}
use Rattle.memory_space.proofs.space.Space.take.Goals as goal

taken : (x : Inside) (r : Option ℕ) (new : List Bool) (n : ℕ) → IsSpace x → IfSome r (λ at. new ≡ with_run x.pool at n true) → (r ≡ None → new ≡ x.pool) → IsSpace (record x { pool = new })
taken x None new n inv h k =
    record {
      granules = inv.granules ∙ sym (ap (λ (bs : List Bool). length bs) (k refl));
      backed = subst (λ (bs : List Bool). IsBacked x.objects (shapes_of x.extents.items) bs) (sym (k refl)) inv.backed;
    }
taken x (Some at) new n inv h k =
    record {
      granules = inv.granules ∙ sym (ap (λ (bs : List Bool). length bs) h ∙ length_run x.pool at n true);
      backed = subst (λ (bs : List Bool). IsBacked x.objects (shapes_of x.extents.items) bs) (sym h) (backed_taken x.objects (shapes_of x.extents.items) x.pool at n inv.backed);
    }

pub invariant_of-self : goal.invariant_of-self
invariant_of-self c = taken c.self.inside c.take.result c.take.new.self c.args.granules c.self.invariant c.take.ensures.taken c.take.ensures.unchanged
