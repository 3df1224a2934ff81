-- When the bytes of a file are a class whose code is read, and what is wrong with those that are none.
use Rattle.std.specs.Prelude.{◌≡◌, ℕ, ◌+◌, ◌⊎◌, List, [], ◌∷◌, ◌++◌, map, Option, Some, None, IfSome, Result, Ok, Err, Vec}
use Rattle.std.specs.List.{AllByRecursion}
use Rattle.std.specs.declared.alloc.Global.{Global}
use Rattle.jx_base.specs.declared.class_file.Instr.{Instr}
use Rattle.jx_base.specs.declared.class_file.ClassFile.{ClassFile}
use Rattle.jx_base.specs.declared.class_file.Code.{Code}
use Rattle.jx_base.specs.declared.class_file.Member.{Member}
use Rattle.jx_base.specs.declared.fault.ClassKind.{ClassKind}
use Rattle.jx_base.specs.declared.fault.CodeKind.{CodeKind}
use Rattle.class_grammar.specs.ClassGrammar.{IsClassFile, IsClassFault}
use Rattle.class_grammar.specs.CodeGrammar.{IsCodeFault}
use Rattle.class_grammar.specs.ReadFiles.{IsReadCode}
use Rattle.linker.specs.Bodies.{IsBody}
use Rattle.linker_names.specs.Bodies.{instructions_of_member}
use Rattle.jx_top.specs.declared.class_error.ClassError.{ClassError}
use Rattle.jx_top.specs.declared.class_error.ClassError.TheVariants as error
use Rattle.jx_top.specs.declared.defect.Defect.{Defect}
use Rattle.jx_top.specs.declared.defect.DefectKind.TheVariants as defect

-- the code of each method is read
abbrev pub HaveReadCode : List Member → Type 0
HaveReadCode methods = AllByRecursion (λ m. IfSome m.code IsReadCode) methods

-- the bytes are the class file, and the code of each method is read
pub record IsReadClass (bytes : List ℕ) (file : ClassFile) : Type 0 where
  pub class : IsClassFile bytes file
  pub codes : HaveReadCode file.methods

-- what is wrong with the code, at the place of its instruction in the file
pub record IsBadCode (code : Code) (d : Defect) : Type 0 where
  pub pc : ℕ
  pub kind : CodeKind
  pub fault : IsCodeFault code.code code.table pc kind
  pub defect_is : d ≡ record { at = code.at + pc; kind = defect.Code kind }

-- the code of the first method whose code is not read is bad so
pub record HasFirstBadCode (methods : List Member) (d : Defect) : Type 0 where
  pub before : List Member
  pub method : Member
  pub after : List Member
  pub parts : methods ≡ before ++ method ∷ after
  pub read : HaveReadCode before
  pub code : Code
  pub is_code : method.code ≡ Some code
  pub bad : IsBadCode code d

-- the bytes are no class file, and what is wrong with them
pub record IsBadFile (bytes : List ℕ) (d : Defect) : Type 0 where
  pub at : ℕ
  pub kind : ClassKind
  pub fault : IsClassFault bytes at kind
  pub defect_is : d ≡ record { at = at; kind = defect.File kind }

-- the bytes are a class file with bad code
pub record IsFileWithBadCode (bytes : List ℕ) (d : Defect) : Type 0 where
  pub file : ClassFile
  pub class : IsClassFile bytes file
  pub code : HasFirstBadCode file.methods d

-- the bytes are no class that is read, and what is wrong with them
abbrev pub IsBadClass : List ℕ → Defect → Type 0
IsBadClass bytes d = IsBadFile bytes d ⊎ IsFileWithBadCode bytes d

-- what the reading of a class came to
abbrev pub ReadsClass : List ℕ → Result ClassFile ClassError → Type 0
ReadsClass bytes (Ok file) = IsReadClass bytes file
ReadsClass bytes (Err (error.Bad d)) = IsBadClass bytes d
ReadsClass bytes (Err error.OutOfMemory) = Unit {0}

-- the code of each method is read, and these are the instructions of each
pub record AreBodies (methods : List Member) (bodies : List (List Instr)) : Type 0 where
  pub read : HaveReadCode methods
  pub bodies_are : bodies ≡ map instructions_of_member methods

-- what the reading of the code of some methods came to
abbrev pub ReadsMethods : List Member → Result (Vec (List Instr) Global) ClassError → Type 0
ReadsMethods methods (Ok v) = AreBodies methods v.items
ReadsMethods methods (Err (error.Bad d)) = HasFirstBadCode methods d
ReadsMethods methods (Err error.OutOfMemory) = Unit {0}

-- what the reading of code came to
abbrev pub ReadsCode : Code → Result (List Instr) ClassError → Type 0
ReadsCode code (Ok body) = IsBody code body
ReadsCode code (Err (error.Bad d)) = IsBadCode code d
ReadsCode code (Err error.OutOfMemory) = Unit {0}

-- what the reading of the code of one method came to
abbrev pub ReadsMethod : Option Code → Result (List Instr) ClassError → Type 0
ReadsMethod None result = result ≡ Ok []
ReadsMethod (Some code) result = ReadsCode code result
