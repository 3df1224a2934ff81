-- Which bytes a text says, and the first fault of a text that says none.
use Rattle.std.specs.Prelude.{◌≡◌, ℕ, suc, List, [], take, Option, Some, None, Result, Ok, Err}
use Rattle.asm_lines.specs.Lines.{meanings}
use Rattle.asm_lines.specs.declared.line.AsmKind.{AsmKind}
use Rattle.asm_lines.specs.declared.line.AsmKind.TheVariants as kind
use Rattle.asm_lines.specs.declared.line.Line.{Line}
use Rattle.asm_bodies.specs.Bodies.{first_far}
use Rattle.asm_bytes.specs.Files.{file_bytes}
use Rattle.asm_checks.specs.Faults.{first_fault}
use Rattle.jx_base.specs.declared.error.Error.{Error}
use Rattle.jx_base.specs.declared.error.Error.TheVariants as error
use Rattle.class_asm.specs.declared.fault.AsmFault.{AsmFault}

-- a fault at the line behind so many
unfoldable pub asm_fault : ℕ → AsmKind → AsmFault
asm_fault before kind = record { line = suc before; kind = kind }

-- a fault, or that of a line in front of it which is too far from a label
unfoldable pub far_or : Option ℕ → AsmFault → AsmFault
far_or None fault = fault
far_or (Some before) fault = asm_fault before kind.Label

-- the bytes of lines, or the fault of one that is too far from a label
unfoldable pub bytes_or_far : Option ℕ → List ℕ → Result (List ℕ) AsmFault
bytes_or_far None bytes = Ok bytes
bytes_or_far (Some before) bytes = Err (asm_fault before kind.Label)

-- what lines say whose first fault where they stand is that one, if there is one; only labels in front of it are looked at for their distance
unfoldable pub assembly_with : List Line → Option (ℕ × AsmKind) → Result (List ℕ) AsmFault
assembly_with lines None = bytes_or_far (first_far lines) (file_bytes lines)
assembly_with lines (Some found) = Err (far_or (first_far (take found.0 lines)) (asm_fault found.0 found.1))

-- the bytes that lines say, or their first fault
unfoldable pub assembly : List Line → Result (List ℕ) AsmFault
assembly lines = assembly_with lines (first_fault [] lines)

-- the text says those bytes
abbrev pub IsAssembled : List ℕ → List ℕ → Type 0
IsAssembled text bytes = assembly (meanings text) ≡ Ok bytes

-- the text says none, and this is its first fault
abbrev pub IsAsmFault : List ℕ → AsmFault → Type 0
IsAsmFault text f = assembly (meanings text) ≡ Err f

-- what is refused has that first fault, unless memory ran out
abbrev pub FindsFault : List ℕ → Error AsmFault → Type 0
FindsFault text (error.Bad f) = IsAsmFault text f
FindsFault text error.OutOfMemory = Unit {0}
