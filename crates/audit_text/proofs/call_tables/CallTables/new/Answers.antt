use Rattle.audit_text.proofs.CallSteps.{no_tables}
use Rattle.audit_text.proofs.call_tables.CallTables.new.Goals as goal

pub returns : goal.returns
returns c = no_tables
