use Rattle.std.proofs.Common.{◌∙◌, sym, ap, false, length, Bool, List}
use Rattle.std.proofs.lemmas.List.{length-replicate}
use Rattle.memory_space.specs.ExtentLists.{ExtentsState}
use Rattle.memory_space.proofs.Backed.{backed_first}
use Rattle.memory_space.proofs.space.Space.open.Goals as goal

pub invariant_of-result : goal.invariant_of-result
invariant_of-result c =
    let n = c.args.system.now.plan.granules in
    record {
      granules =
          ap (λ (z : ExtentsState). z.granules) c.in_ok-open-2.ensures
          ∙ sym (ap (λ (bs : List Bool). length bs) c.in_ok-open-3.ensures ∙ length-replicate n false);
      backed = backed_first c.in_ok-open.field-0 c.in_ok-open-2.field-0 c.in_ok-open-3.field-0 n c.in_ok-open.ensures c.in_ok-open-2.ensures;
    }
