use Rattle.std.proofs.Common.{◌≡◌, ◌∙◌, sym, ap, subst, true, List, arith}
use Rattle.jx_base.specs.Basics.{numbered}
use Rattle.memory_objects.specs.declared.rows.HoldRow.{HoldRow}
use Rattle.memory_objects.specs.ObjectLists.{ObjectsState, CanJoin, valid_in}
use Rattle.memory_objects.specs.Rows.{part_of, records_of}
use Rattle.memory_objects.proofs.HeldParts.{held_is, part_place, part_read}
use Rattle.memory_objects.specs.Inner.{objects_state}
use Rattle.memory_objects.proofs.Joins.{join_held}
use Rattle.memory_objects.proofs.objects.Objects.held_part.Goals as goal

pub overflow_sub-object : goal.overflow_sub-object
overflow_sub-object c =
    let m = c.args.object.0 in
    let valid : valid_in (records_of c.self.inside.records.items) m ≡ true = ap (λ (rows : List HoldRow). valid_in (records_of rows) m) (sym c.as_slice.ensures.value) ∙ sym c.if-not-is_valid.ensures in
    (part_place c.self.inside m c.self.invariant valid).first

pub index-requires : goal.index-requires
index-requires c =
    let m = c.args.object.0 in
    let valid : valid_in (records_of c.self.inside.records.items) m ≡ true = ap (λ (rows : List HoldRow). valid_in (records_of rows) m) (sym c.as_slice.ensures.value) ∙ sym c.if-not-is_valid.ensures in
    let place = part_place c.self.inside m c.self.invariant valid in
    omega (arith, place.below, c.self.inside.parts.ok.0)

pub returns-clause-part : goal.returns-clause-part
returns-clause-part c =
    let m = c.args.object.0 in
    let y = c.args.self.now in
    let valid : valid_in (records_of c.self.inside.records.items) m ≡ true = ap (λ (rows : List HoldRow). valid_in (records_of rows) m) (sym c.as_slice.ensures.value) ∙ sym c.if-not-is_valid.ensures in
    let place = part_place c.self.inside m c.self.invariant valid in
    held_is y c.args.domain.0 m (part_of c.index.result.now) (sym c.if-not-holds.ensures.held)
    (ap (λ (z : ObjectsState). valid_in z.records m) (sym c.self.view_is) ∙ valid)
    (ap (λ (z : ObjectsState). numbered z.parts m) (sym c.self.view_is) ∙ part_read c.self.inside m c.index.result.now place c.index.ensures)

pub returns-clause-joins : goal.returns-clause-joins
returns-clause-joins c =
    let m = c.args.object.0 in
    let valid : valid_in (records_of c.self.inside.records.items) m ≡ true = ap (λ (rows : List HoldRow). valid_in (records_of rows) m) (sym c.as_slice.ensures.value) ∙ sym c.if-not-is_valid.ensures in
    let place = part_place c.self.inside m c.self.invariant valid in
    subst (λ (z : ObjectsState). CanJoin z (part_of c.index.result.now)) c.self.view_is
    (join_held (objects_state c.self.inside) m (part_of c.index.result.now) c.self.invariant.tree (part_read c.self.inside m c.index.result.now place c.index.ensures) valid)
