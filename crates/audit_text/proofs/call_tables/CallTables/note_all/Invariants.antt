use Rattle.std.proofs.Common.{◌≤◌, reverse, take}
use Rattle.audit_text.specs.CallTables.{HasCallTables}
use Rattle.audit_text.proofs.call_tables.CallTables.note_all.Given as goal

abbrev pub invariant-loop-entry : goal.invariant-loop-entry
invariant-loop-entry l = record {
  few : l.self.owners.made ≤ l.entry-index;
  tables : HasCallTables l.self (reverse (take l.entry-index l.entries));
}
