use Rattle.std.proofs.Common.{arith}
use Rattle.std.proofs.lemmas.Result.{err_from_is_err_and}
use Rattle.audit_model.specs.AuditText.{console_line}
use Rattle.page_text.proofs.Writing.{item_goes_on, item_stops, items_end}
use Rattle.audit_text.proofs.console.write_console.Goals as goal

pub returns-in_err-write_printed : goal.returns-in_err-write_printed
returns-in_err-write_printed g c =
    let p = err_from_is_err_and c.from_residual.result c.from_residual.ensures.1 in
    rw p.1 (item_stops console_line c.args.entries.now c.loop-entry.entry-index c.entry-item.result c.entry-item.is (omega arith) c.loop-entry.invariant c.in_err-write_printed.ensures)

pub loop-entry-preserved : goal.loop-entry-preserved
loop-entry-preserved g c =
    item_goes_on console_line c.args.entries.now c.loop-entry.entry-index c.entry-item.result c.entry-item.is (omega arith) c.loop-entry.invariant c.in_ok-write_printed.ensures

pub returns : goal.returns
returns g c = items_end console_line c.args.entries.now c.loop-entry.entry-index (omega arith) c.loop-entry.invariant
