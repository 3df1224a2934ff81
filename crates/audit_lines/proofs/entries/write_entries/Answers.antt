use Rattle.std.proofs.Common.{◌+◌, arith, ap}
use Rattle.std.proofs.lemmas.List.{drop_all}
use Rattle.std.proofs.lemmas.Result.{err_from_is_err_and}
use Rattle.audit_model.specs.AuditText.{entry_lines}
use Rattle.page_text.proofs.Writing.{completes_more, completes_stop, completes_end}
use Rattle.audit_lines.proofs.EntryLines.{entry_lines-more}
use Rattle.audit_lines.proofs.entries.write_entries.Goals as goal

pub returns-in_err-write_entry : goal.returns-in_err-write_entry
returns-in_err-write_entry g c =
    let p = err_from_is_err_and c.from_residual.result c.from_residual.ensures.1 in
    rw p.1 (completes_stop _ _ _ _ (entry_lines-more c.args.system.now (c.loop-entry.n + 1) c.loop-entry.entry-index c.args.entries.now c.entry-item.result c.entry-item.is (omega arith)) c.loop-entry.invariant.lines c.in_err-write_entry.ensures)

pub loop-entry-preserved : goal.loop-entry-preserved
loop-entry-preserved g c = record {
  number = omega arith;
  lines = completes_more _ _ _ _ (entry_lines-more c.args.system.now (c.loop-entry.n + 1) c.loop-entry.entry-index c.args.entries.now c.entry-item.result c.entry-item.is (omega arith)) c.loop-entry.invariant.lines c.in_ok-write_entry.ensures;
}

pub returns : goal.returns
unfolding entry_lines
returns g c = completes_end _ _ (ap (entry_lines c.args.system.now (c.loop-entry.n + 1)) (drop_all c.loop-entry.entry-index c.args.entries.now (omega arith))) c.loop-entry.invariant.lines
