use Rattle.class_reader.proofs.ClassLaws.{found, fault_found, only, only_fault}
use Rattle.class_reader.proofs.class.read_class.Goals as goal

pub returns-clause-found : goal.returns-clause-found
returns-clause-found c = found c.args.bytes.now c.class_at.result c.class_at.ensures

pub returns-clause-fault : goal.returns-clause-fault
returns-clause-fault c = fault_found c.args.bytes.now c.class_at.result c.class_at.ensures

pub returns-clause-only : goal.returns-clause-only
returns-clause-only c = only c.args.bytes.now c.class_at.result c.class_at.ensures

pub returns-clause-only_fault : goal.returns-clause-only_fault
returns-clause-only_fault c = only_fault c.args.bytes.now c.class_at.result c.class_at.ensures
