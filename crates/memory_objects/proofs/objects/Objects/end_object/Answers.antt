use Rattle.std.proofs.Common.{sym, subst, List}
use Rattle.jx_model.specs.MemoryObjects.{Part}
use Rattle.memory_objects.specs.declared.rows.HoldRow.{HoldRow}
use Rattle.memory_objects.specs.declared.rows.PartRow.{PartRow}
use Rattle.memory_objects.specs.ObjectLists.{ObjectsState, CanJoin, revoked_in}
use Rattle.memory_objects.specs.Rows.{IsTree, parts_of, records_of}
use Rattle.memory_objects.proofs.Invariant.{ended_seen, rows_written}
use Rattle.memory_objects.proofs.Joins.{join_revoked}
use Rattle.memory_objects.proofs.Nodes.{tree_revoked}
use Rattle.memory_objects.proofs.RowLists.{first_number}
use Rattle.memory_objects.proofs.objects.Objects.end_object.Goals as goal

pub end_derived-requires-clause-object : goal.end_derived-requires-clause-object
end_derived-requires-clause-object c = first_number c.args.self.now.parts c.args.object.0 c.requires

pub end_derived-requires-clause-tree : goal.end_derived-requires-clause-tree
end_derived-requires-clause-tree c =
    let x = c.self.inside in
    subst (λ (rows : List HoldRow). IsTree (parts_of c.as_slice.result.now) (records_of rows)) (sym c.as_mut_slice.ensures.value)
    (subst (λ (rows : List PartRow). IsTree (parts_of rows) (records_of x.records.items)) (sym c.as_slice.ensures.value) c.self.invariant.tree)

pub invariant_of-self : goal.invariant_of-self
invariant_of-self c =
    let x = c.self.inside in
    let parts : List Part = parts_of c.as_slice.result.now in
    rows_written x c.as_mut_slice.result.now c.end_derived.new.records (revoked_in parts c.args.object.0) c.self.invariant c.as_mut_slice.ensures.value c.end_derived.auto.records c.end_derived.ensures
    (subst (λ (rows : List PartRow). IsTree (parts_of x.parts.items) (revoked_in (parts_of rows) c.args.object.0 (records_of x.records.items))) (sym c.as_slice.ensures.value)
    (tree_revoked (parts_of x.parts.items) c.args.object.0 (records_of x.records.items) c.self.invariant.tree))

pub returns-clause-joins : goal.returns-clause-joins
returns-clause-joins c = λ o p join.
    let x = c.self.inside in
    let y = c.args.self.now in
    let m = c.args.object.0 in
    let tree : IsTree y.parts y.records = subst (λ (z : ObjectsState). IsTree z.parts z.records) c.self.view_is c.self.invariant.tree in
    subst (λ (z : ObjectsState). CanJoin z o)
    (sym (ended_seen x y m c.as_slice.result.now c.as_mut_slice.result.now c.end_derived.new.records c.self.view_is c.as_slice.ensures.value c.as_mut_slice.ensures.value c.end_derived.auto.records c.end_derived.ensures))
    (join_revoked y m o tree p join)
