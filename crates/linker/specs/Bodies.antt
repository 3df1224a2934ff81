-- The instructions of code that is read.
use Rattle.std.specs.Prelude.{◌≡◌, List, IfSome}
use Rattle.class_grammar.specs.ClassGrammar.{IsShortCode}
use Rattle.class_grammar.specs.ReadFiles.{IsReadCode}
use Rattle.jx_base.specs.declared.class_file.Code.{Code}
use Rattle.jx_base.specs.declared.class_file.Instr.{Instr}
use Rattle.jx_base.specs.declared.class_file.Member.{Member}
use Rattle.program_model.specs.Instructions.{instructions_of}

-- the code is read, and these are its instructions
pub record IsBody (code : Code) (body : List Instr) : Type 0 where
  pub read : IsReadCode code
  pub instructions : body ≡ instructions_of code.code

-- the code of a method, if it has any, is short and read
pub record IsReadMethod (method : Member) : Type 0 where
  pub short : IsShortCode method.code
  pub read : IfSome method.code IsReadCode
