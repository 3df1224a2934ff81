-- Class files that were read with the code of their methods.
use Rattle.std.specs.Prelude.{ℕ, ◌<◌, List, IfSome}
use Rattle.std.specs.List.{AllByRecursion}
use Rattle.jx_base.specs.declared.class_file.ClassFile.{ClassFile}
use Rattle.jx_base.specs.declared.class_file.Code.{Code}
use Rattle.jx_base.specs.declared.class_file.Instr.{Instr}
use Rattle.class_grammar.specs.ClassGrammar.{IsClassFile}
use Rattle.class_grammar.specs.CodeGrammar.{IsCode}

-- numbers below 256
abbrev pub AreBytes : List ℕ → Type 0
AreBytes xs = AllByRecursion (λ b. b < 256) xs

-- the code is some instructions
abbrev pub IsReadCode : Code → Type 0
IsReadCode c = (instrs : List Instr) × IsCode c.code c.table instrs

-- the file is that of some bytes, and the code of each method is read
pub record IsReadFile (f : ClassFile) : Type 0 where
  pub bytes : List ℕ
  pub are_bytes : AreBytes bytes
  pub file : IsClassFile bytes f
  pub codes : AllByRecursion (λ m. IfSome m.code IsReadCode) f.methods
