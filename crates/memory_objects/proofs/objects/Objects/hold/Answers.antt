use Rattle.std.proofs.Common.{◌-◌, refl, true}
use Rattle.memory_objects.specs.ObjectLists.{with_holder}
use Rattle.memory_objects.proofs.Invariant.{row_written}
use Rattle.memory_objects.proofs.objects.Objects.hold.Goals as goal

pub invariant_of-self : goal.invariant_of-self
invariant_of-self c =
    row_written c.self.inside c.as_mut_slice.result.now c.set_holder.new.records (c.args.object.0 - 1) (with_holder c.args.domain.0 true) c.self.invariant (λ r. refl) c.as_mut_slice.ensures.value c.set_holder.auto.records c.set_holder.ensures
