use Rattle.std.proofs.Common.{◌∙◌, sym, arith}
use Rattle.std.specs.Prelude.{flat_map}
use Rattle.std.proofs.lemmas.List.{at_drop_all}
use Rattle.jx_base.specs.Basics.{all_added}
use Rattle.system_text.specs.Description.{classes_in}
use Rattle.system_text.specs.Scan.{tables_at, texts_at, with_all_new}
use Rattle.system_text.proofs.Distinct.{names_later}
use Rattle.system_text.proofs.plans.class_names.Goals as goal

pub loop-table-preserved : goal.loop-table-preserved
loop-table-preserved c =
    rw (c.in_ok-insert_all.ensures, c.as_slice.ensures.value, c.in_ok-classes.ensures)
    (names_later c.args.domains.now c.loop-table.table-index c.table-item.result (texts_at c.loop-table.names.keys) (omega arith) c.table-item.is ∙ c.loop-table.invariant)

pub returns : goal.returns
unfolding all_added
returns c =
    sym (at_drop_all (λ ts. with_all_new (texts_at c.loop-table.names.keys) (flat_map classes_in (tables_at ts))) c.args.domains.now c.loop-table.table-index (omega arith)) ∙ c.loop-table.invariant
