use Rattle.std.proofs.Common.{◌≡◌, drop}
use Rattle.std.specs.Prelude.{find}
use Rattle.code_reader.specs.CodeReading.{is_marked, leads_astray}
use Rattle.code_reader.proofs.targets.first_astray.Given as goal

abbrev pub invariant-loop-instr : goal.invariant-loop-instr
invariant-loop-instr l = find (leads_astray (is_marked l.starts)) (drop l.instr-index l.instrs) ≡ find (leads_astray (is_marked l.starts)) l.instrs
