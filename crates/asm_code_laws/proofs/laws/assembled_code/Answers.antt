use Rattle.asm_code_laws.proofs.Bodies.{body_written}
use Rattle.asm_code_laws.proofs.Places.{code_as_written}
use Rattle.asm_code_laws.proofs.laws.assembled_code.Goals as goal

pub returns : goal.returns
returns c = record {
  read_as_written = λ text bytes after assembled has. (body_written text bytes after assembled has).spelled;
  code_as_written = code_as_written;
}
