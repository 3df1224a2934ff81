-- The invariant of a table of memory objects, as its records change.
use Rattle.std.proofs.Common.{◌≡◌, sym, ◌∙◌, ap, subst, ℕ, ◌+◌, ◌<◌, List, [], ◌∷◌, ◌++◌, length, arith, Vec, Global}
use Rattle.std.specs.Prelude.{vec_capacity}
use Rattle.std.specs.Vec.{with_items}
use Rattle.std.proofs.lemmas.List.{length-append, length-map, map-append, with_items_is}
use Rattle.jx_base.proofs.BasicLaws.{ap2}
use Rattle.jx_model.specs.MemoryObjects.{Part}
use Rattle.jx_model.specs.Tables.{ObjectRecord}
use Rattle.table_threads.specs.Changes.{changed_at}
use Rattle.memory_objects.specs.declared.objects.Objects.TheInside.{Inside}
use Rattle.memory_objects.specs.declared.rows.HoldRow.{HoldRow}
use Rattle.memory_objects.specs.declared.rows.PartRow.{PartRow}
use Rattle.memory_objects.specs.Inner.{IsObjects, objects_state}
use Rattle.memory_objects.specs.ObjectLists.{ObjectsState, CanJoin, revoked_in}
use Rattle.memory_objects.specs.Rows.{IsTree, part_of, parts_of, record_of, records_of}
use Rattle.memory_objects.proofs.Nodes.{same_changed, tree_more, tree_same}

-- as many rows written over, of which the tree is one
pub rows_written : (x : Inside) (slice new : List HoldRow) (f : List ObjectRecord → List ObjectRecord) → IsObjects x → slice ≡ x.records.items → length new ≡ length slice →
    records_of new ≡ f (records_of slice) → IsTree (parts_of x.parts.items) (f (records_of x.records.items)) → IsObjects (record x { records = with_items x.records new })
rows_written x slice new f inv s count e tree =
    let same : length new ≡ length x.records.items = count ∙ ap length s in
    let items : (with_items x.records new).items ≡ new = with_items_is x.records new (same ∙ sym x.records.ok.0) in
    record {
      count = ap length items ∙ same ∙ inv.count;
      few = inv.few;
      extents = inv.extents;
      part_room = inv.part_room;
      record_room = inv.record_room;
      extent_room = inv.extent_room;
      tree = subst (IsTree (parts_of x.parts.items)) (sym (ap records_of items ∙ e ∙ ap (λ (rows : List HoldRow). f (records_of rows)) s)) tree;
    }

-- one row written over, of an object that stays valid or not
pub row_written : (x : Inside) (slice new : List HoldRow) (i : ℕ) (f : ObjectRecord → ObjectRecord) → IsObjects x → ((r : ObjectRecord) → (f r).valid ≡ r.valid) →
    slice ≡ x.records.items → length new ≡ length slice → records_of new ≡ changed_at i f (records_of slice) → IsObjects (record x { records = with_items x.records new })
row_written x slice new i f inv valid s count e =
    let olds : List ObjectRecord = records_of x.records.items in
    rows_written x slice new (changed_at i f) inv s count e (tree_same (parts_of x.parts.items) olds (changed_at i f olds) (same_changed f i olds valid) inv.tree)

-- one object more
pub pushed : (x : Inside) (y : ObjectsState) (parts : Vec PartRow Global) (records : Vec HoldRow Global) (part : PartRow) (row : HoldRow) →
    objects_state x ≡ y → IsObjects x → CanJoin y (part_of part) → length y.parts < 65536 →
    parts.items ≡ x.parts.items ++ part ∷ [] → vec_capacity parts ≡ vec_capacity x.parts →
    records.items ≡ x.records.items ++ row ∷ [] → vec_capacity records ≡ vec_capacity x.records →
    IsObjects (record { parts = parts; records = records; extents = x.extents })
pushed x y parts records part row view inv join room p pc r rc =
    let n : length parts.items ≡ length x.parts.items + 1 = ap length p ∙ length-append x.parts.items (part ∷ []) in
    let k : length records.items ≡ length x.records.items + 1 = ap length r ∙ length-append x.records.items (row ∷ []) in
    let same : length y.parts ≡ length x.parts.items = sym (ap (λ (z : ObjectsState). length z.parts) view) ∙ length-map x.parts.items part_of in
    let count : length (records_of x.records.items) ≡ length (parts_of x.parts.items) = length-map x.records.items record_of ∙ inv.count ∙ sym (length-map x.parts.items part_of) in
    let joins : CanJoin (objects_state x) (part_of part) = subst (λ (z : ObjectsState). CanJoin z (part_of part)) (sym view) join in
    record {
      count = omega (arith, n, k, inv.count);
      few = omega (arith, n, same, room);
      extents = omega (arith, n, inv.extents);
      part_room = omega (arith, pc, inv.part_room);
      record_room = omega (arith, rc, inv.record_room);
      extent_room = inv.extent_room;
      tree = subst (λ (ps : List Part). IsTree ps (records_of records.items)) (sym (ap parts_of p ∙ map-append part_of x.parts.items (part ∷ [])))
          (subst (IsTree (parts_of x.parts.items ++ part_of part ∷ [])) (sym (ap records_of r ∙ map-append record_of x.records.items (row ∷ [])))
          (tree_more (objects_state x) (part_of part) (record_of row ∷ []) count joins inv.tree));
    }

-- what is seen once an object and what derives from it have ended
pub ended_seen : (x : Inside) (y : ObjectsState) (m : ℕ) (parts : List PartRow) (slice new : List HoldRow) → objects_state x ≡ y → parts ≡ x.parts.items → slice ≡ x.records.items → length new ≡ length slice →
    records_of new ≡ revoked_in (parts_of parts) m (records_of slice) → objects_state (record x { records = with_items x.records new }) ≡ record y { records = revoked_in y.parts m y.records }
ended_seen x y m parts slice new view p s count e =
    let items : (with_items x.records new).items ≡ new = with_items_is x.records new (count ∙ ap length s ∙ sym x.records.ok.0) in
    ap (λ (rs : List ObjectRecord). let z : ObjectsState = record { parts = parts_of x.parts.items; records = rs; extents = x.extents.items } in z)
    (ap records_of items ∙ e ∙ ap2 (λ (ps : List PartRow) (rows : List HoldRow). revoked_in (parts_of ps) m (records_of rows)) p s)
    ∙ ap (λ (z : ObjectsState). let w : ObjectsState = record z { records = revoked_in z.parts m z.records } in w) view
