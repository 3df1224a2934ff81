use Rattle.asm_lines.specs.Lines.{meanings}
use Rattle.asm_laws.proofs.Meanings.{meanings_ranged}
use Rattle.asm_laws.proofs.Whole.{class_file}
use Rattle.asm_laws.proofs.Others.{no_other}
use Rattle.asm_laws.proofs.laws.assembled_classes.Goals as goal

pub returns : goal.returns
returns c = record {
  class_file = λ text bytes assembled taken. class_file (meanings text) bytes (meanings_ranged text) assembled taken;
  no_other = λ text bytes assembled not_taken. no_other (meanings text) bytes (meanings_ranged text) assembled not_taken;
}
