use Rattle.test_models.proofs.FirstSystem.{first_linked, first_single, first_ends, first_audit_is}
use Rattle.test_models.proofs.laws.first_system_prints.Goals as goal

pub returns-clause-linked : goal.returns-clause-linked
returns-clause-linked c = first_linked

pub returns-clause-history : goal.returns-clause-history
returns-clause-history c = first_single

pub returns-clause-quiet : goal.returns-clause-quiet
returns-clause-quiet c = first_ends

pub returns-clause-audit : goal.returns-clause-audit
returns-clause-audit c = first_audit_is
