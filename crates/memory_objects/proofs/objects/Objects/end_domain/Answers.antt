use Rattle.std.proofs.Common.{refl, map, false, List}
use Rattle.jx_model.specs.Tables.{ObjectRecord}
use Rattle.memory_objects.specs.ObjectLists.{with_holder}
use Rattle.memory_objects.specs.Rows.{parts_of, records_of}
use Rattle.memory_objects.proofs.Invariant.{rows_written}
use Rattle.memory_objects.proofs.Nodes.{same_map, tree_same}
use Rattle.memory_objects.proofs.objects.Objects.end_domain.Goals as goal

pub invariant_of-self : goal.invariant_of-self
invariant_of-self c =
    let x = c.self.inside in
    let f : ObjectRecord → ObjectRecord = with_holder c.args.domain.0 false in
    let olds : List ObjectRecord = records_of x.records.items in
    rows_written x c.as_mut_slice.result.now c.drop_all.new.records (map f) c.self.invariant c.as_mut_slice.ensures.value c.drop_all.auto.records c.drop_all.ensures
    (tree_same (parts_of x.parts.items) olds (map f olds) (same_map f olds (λ r. refl)) c.self.invariant.tree)
