use Rattle.std.proofs.Common.{arith}
use Rattle.std.proofs.lemmas.Result.{err_from_is_err_and}
use Rattle.audit_text.specs.CallTables.{entry_call_line}
use Rattle.page_text.proofs.Writing.{item_goes_on, item_stops, items_end}
use Rattle.audit_text.proofs.CallLines.{call_lines}
use Rattle.audit_text.proofs.calls.write_calls.Goals as goal

pub returns-in_err-write_call : goal.returns-in_err-write_call
returns-in_err-write_call g c =
    let p = err_from_is_err_and c.from_residual.result c.from_residual.ensures.1 in
    rw (p.1, ← call_lines c.args.system.now c.args.entries.now c.note_all.new.self c.requires.admitted c.note_all.ensures)
    (item_stops (entry_call_line c.note_all.new.self) c.args.entries.now c.loop-entry.entry-index c.entry-item.result c.entry-item.is (omega arith) c.loop-entry.invariant c.in_err-write_call.ensures)

pub loop-entry-preserved : goal.loop-entry-preserved
loop-entry-preserved g c =
    item_goes_on (entry_call_line c.note_all.new.self) c.args.entries.now c.loop-entry.entry-index c.entry-item.result c.entry-item.is (omega arith) c.loop-entry.invariant c.in_ok-write_call.ensures

pub returns : goal.returns
returns g c =
    rw (← call_lines c.args.system.now c.args.entries.now c.note_all.new.self c.requires.admitted c.note_all.ensures)
    (items_end (entry_call_line c.note_all.new.self) c.args.entries.now c.loop-entry.entry-index (omega arith) c.loop-entry.invariant)
