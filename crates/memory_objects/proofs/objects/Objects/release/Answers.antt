use Rattle.std.proofs.Common.{◌-◌, refl, sym, subst, false, true, List}
use Rattle.std.specs.Prelude.{IsSome}
use Rattle.jx_base.specs.Basics.{numbered}
use Rattle.jx_model.specs.Tables.{ObjectRecord}
use Rattle.table_reads.specs.TableReads.{flag_at}
use Rattle.memory_objects.specs.declared.rows.HoldRow.{HoldRow}
use Rattle.memory_objects.specs.Rows.{records_of}
use Rattle.memory_objects.proofs.HeldParts.{test_some}
use Rattle.memory_objects.proofs.MadeParts.{released_by}
use Rattle.memory_objects.specs.ObjectLists.{ObjectsState, with_holder}
use Rattle.memory_objects.proofs.Invariant.{row_written}
use Rattle.memory_objects.proofs.objects.Objects.release.Goals as goal

pub invariant_of-self : goal.invariant_of-self
invariant_of-self c =
    row_written c.self.inside c.as_mut_slice.result.now c.set_holder.new.records (c.args.object.0 - 1) (with_holder c.args.domain.0 false) c.self.invariant (λ r. refl) c.as_mut_slice.ensures.value c.set_holder.auto.records c.set_holder.ensures

pub returns-then-not-holds-clause-reply : goal.returns-then-not-holds-clause-reply
returns-then-not-holds-clause-reply c = released_by c.args.self.now c.args.domain.0 c.args.object.0 false c.if-not-holds.ensures.held

pub set_holder-requires-clause-object : goal.set_holder-requires-clause-object
set_holder-requires-clause-object c =
    let m = c.args.object.0 in
    subst (λ (rows : List HoldRow). IsSome (numbered (records_of rows) m)) (sym c.as_mut_slice.ensures.value)
    (subst (λ (z : ObjectsState). IsSome (numbered z.records m)) (sym c.self.view_is)
    (test_some (λ (r : ObjectRecord). flag_at r.holders c.args.domain.0) c.args.self.now.records m (sym c.if-not-holds.ensures.held)))

pub returns-clause-reply : goal.returns-clause-reply
returns-clause-reply c = released_by c.args.self.now c.args.domain.0 c.args.object.0 true c.if-not-holds.ensures.held
