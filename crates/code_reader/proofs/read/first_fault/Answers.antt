use Rattle.code_reader.proofs.Placing.{astray_found, range_found, none_found}
use Rattle.code_reader.proofs.read.first_fault.Goals as goal

pub returns-in-Some : goal.returns-in-Some
returns-in-Some c = astray_found c.args.starts.now c.args.instrs.now c.requires c.args.size c.args.table.now c.in-Some.pc c.in-Some.ensures

pub returns-in_err-pc : goal.returns-in_err-pc
returns-in_err-pc c = rw c.from_residual.ensures (none_found c.args.starts.now c.args.instrs.now c.requires c.args.size c.args.table.now c.in_default.ensures c.in_err-pc.ensures)

pub returns : goal.returns
returns c = range_found c.args.starts.now c.args.instrs.now c.requires c.args.size c.args.table.now c.in_ok-pc.pc c.in_default.ensures c.in_ok-pc.ensures
