-- What becomes of an assembler text.
use Rattle.std.specs.Prelude.{ℕ, List, Result, Ok, Err, Vec}
use Rattle.std.specs.declared.alloc.Global.{Global}
use Rattle.jx_base.specs.Files.{Files}
use Rattle.class_asm.specs.Assembly.{IsAssembled, IsAsmFault}
use Rattle.class_asm.specs.declared.fault.AsmFault.{AsmFault}
use Rattle.jx_top.specs.GotFiles.{IsGot}
use Rattle.jx_top.specs.declared.status.Status.{Status}
use Rattle.jx_top.specs.declared.status.Status.TheVariants as status

-- the file is got, and its text says those bytes
pub record SaysBytes (files : Files) (file bytes : List ℕ) : Type 0 where
  pub text : List ℕ
  pub got : IsGot files file text
  pub assembled : IsAssembled text bytes

-- the file is got, and its text says bytes
abbrev pub HasGoodText : Files → List ℕ → Type 0
HasGoodText files file = (bytes : List ℕ) × SaysBytes files file bytes

-- the file is got, and its text has that first fault
pub record HasBadText (files : Files) (file : List ℕ) (f : AsmFault) : Type 0 where
  pub text : List ℕ
  pub got : IsGot files file text
  pub fault : IsAsmFault text f

-- the bytes that the text says, or why there are none
abbrev pub AssemblesText : List ℕ → Result (Vec ℕ Global) Status → Type 0
AssemblesText text (Ok v) = IsAssembled text v.items
AssemblesText text (Err (status.BadAsm f)) = IsAsmFault text f
AssemblesText text (Err status.OutOfMemory) = Unit {0}
AssemblesText text (Err _) = ⊥
