use Rattle.std.proofs.Common.{◌-◌, refl}
use Rattle.memory_objects.specs.ObjectLists.{with_riding}
use Rattle.memory_objects.proofs.Invariant.{row_written}
use Rattle.memory_objects.proofs.objects.Objects.land.Goals as goal

pub invariant_of-self : goal.invariant_of-self
invariant_of-self c =
    row_written c.self.inside c.as_mut_slice.result.now c.remove_rider.new.records (c.args.object.0 - 1) (with_riding (λ n. n - 1)) c.self.invariant (λ r. refl) c.as_mut_slice.ensures.value c.remove_rider.auto.records c.remove_rider.ensures
