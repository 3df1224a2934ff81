-- Code of bytes.
use Rattle.std.specs.Prelude.{◌≡◌, ℕ, List, Some, IfSome}
use Rattle.std.specs.List.{AllByRecursion}
use Rattle.class_grammar.specs.ReadFiles.{AreBytes}
use Rattle.jx_base.specs.declared.class_file.ClassFile.{ClassFile}
use Rattle.jx_base.specs.declared.class_file.Code.{Code}
use Rattle.jx_base.specs.declared.program.System.{System}
use Rattle.machine_model.specs.State.{code_of}

-- the code of each method is of bytes
abbrev pub HasByteCodes : System → Type 0
HasByteCodes s = (m : ℕ) (c : Code) → code_of s m ≡ Some c → AreBytes c.code

-- so is the code of each method of the files
abbrev pub HaveByteCodes : List ClassFile → Type 0
HaveByteCodes files = AllByRecursion (λ f. AllByRecursion (λ m. IfSome m.code (λ c. AreBytes c.code)) f.methods) files
