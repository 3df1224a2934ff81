use Rattle.std.proofs.Common.{ℕ, List, Result, Ok, Err, subst, Vec, Global}
use Rattle.std.specs.Prelude.{IfOk, IfErr}
use Rattle.jx_base.specs.declared.class_file.Instr.{Instr}
use Rattle.jx_base.specs.declared.class_file.Range.{Range}
use Rattle.jx_base.specs.declared.fault.CodeFault.{CodeFault}
use Rattle.class_grammar.specs.CodeGrammar.{IsCode, code_fault}
use Rattle.jx_base.specs.declared.error.Error.{Error}
use Rattle.jx_base.specs.declared.error.Error.TheVariants as error
use Rattle.code_reader.specs.CodeReading.{code_reading, FindsFault}
use Rattle.jx_base.specs.Answers.{Gives}
use Rattle.code_reader.proofs.ReadingLaws.{code_found, code_only, fault_found, fault_only}
use Rattle.code_reader.proofs.read.read_code.Goals as goal

abbrev Answer : Type 0
Answer = Result (Vec Instr Global) (Error CodeFault)

abbrev GivesItems : Answer → Result (List Instr) CodeFault → Type 0
GivesItems answer reading = Gives (λ (v : Vec Instr Global). v.items) answer reading

is_code : (code : List ℕ) (table : List Range) (answer : Answer) → GivesItems answer (code_reading code table) → IfOk answer (λ v. IsCode code table v.items)
is_code code table (Ok v) gives = code_found code table v.items gives
is_code code table (Err e) gives = tt

is_fault : (code : List ℕ) (table : List Range) (answer : Answer) → GivesItems answer (code_reading code table) → IfErr answer (FindsFault code table)
is_fault code table (Ok v) gives = tt
is_fault code table (Err (error.Bad f)) gives = fault_found code table f gives
is_fault code table (Err error.OutOfMemory) gives = tt

pub returns-clause-found : goal.returns-clause-found
returns-clause-found c = is_code c.args.code.now c.args.table.now _ c.checked_code.ensures

pub returns-clause-fault : goal.returns-clause-fault
returns-clause-fault c = is_fault c.args.code.now c.args.table.now _ c.checked_code.ensures

pub returns-clause-only : goal.returns-clause-only
returns-clause-only c = λ instrs h. subst (GivesItems _) (code_only c.args.code.now c.args.table.now instrs h) c.checked_code.ensures

pub returns-clause-only_fault : goal.returns-clause-only_fault
returns-clause-only_fault c = λ pc kind h. subst (GivesItems _) (fault_only c.args.code.now c.args.table.now (code_fault pc kind) h) c.checked_code.ensures
