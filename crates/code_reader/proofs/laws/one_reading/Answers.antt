use Rattle.std.proofs.Common.{[], length, arith}
use Rattle.code_reader.proofs.Places.{rises_from, in_order, within}
use Rattle.code_reader.proofs.ReadingLaws.{code_only, fault_only, read_alone}
use Rattle.code_reader.proofs.laws.one_reading.Goals as goal

pub returns-clause-one_code : goal.returns-clause-one_code
returns-clause-one_code c = λ code table a b x y. let e = code_only code table a x in let f = code_only code table b y in cc

pub returns-clause-one_fault : goal.returns-clause-one_fault
returns-clause-one_fault c = λ code table f g x y. let p = fault_only code table f x in let q = fault_only code table g y in cc

pub returns-clause-never_both : goal.returns-clause-never_both
returns-clause-never_both c = λ code table instrs f x y. let p = code_only code table instrs x in let q = fault_only code table f y in cc

pub returns-clause-read_alone : goal.returns-clause-read_alone
returns-clause-read_alone c = read_alone

pub returns-clause-in_order : goal.returns-clause-in_order
returns-clause-in_order c = λ code table instrs h k below. in_order 0 (length code) instrs (rises_from 0 (length code) code instrs [] (omega arith) (omega arith) h.spelled) k below

pub returns-clause-within_code : goal.returns-clause-within_code
returns-clause-within_code c = λ code table instrs h k d below. within 0 (length code) instrs (rises_from 0 (length code) code instrs [] (omega arith) (omega arith) h.spelled) k d below
