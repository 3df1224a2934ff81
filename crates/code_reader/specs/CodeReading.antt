-- Reading a method's code from left to right, and then its targets and its exception table.
use Rattle.std.specs.Prelude.{◌≡◌, ℕ, ℤ, pos, negsuc, Bool, false, ◌&&◌, ◌||◌, not, nat_lt, ◌==◌, List, length, Option, Some, None, Result, Ok, Err, slice_index_or}
use Rattle.std.specs.List.{list_all}
use Rattle.class_grammar.specs.CodeGrammar.{code_fault, IsCodeFault, first_astray, first_bad_range, instructions_reading, starts_at, targets_of}
use Rattle.jx_base.specs.declared.class_file.Instr.{Instr}
use Rattle.jx_base.specs.declared.class_file.Range.{Range}
use Rattle.jx_base.specs.declared.fault.CodeFault.{CodeFault}
use Rattle.jx_base.specs.declared.fault.CodeKind.TheVariants as kind
use Rattle.jx_base.specs.declared.error.Error.{Error}
use Rattle.jx_base.specs.declared.error.Error.TheVariants as error

-- ---- starts of instructions, marked by place

-- an instruction starts at that place
unfoldable pub is_marked : List Bool → ℤ → Bool
is_marked starts (pos n) = slice_index_or starts n false
is_marked starts (negsuc n) = false

-- the marks stand where the instructions start
abbrev pub Marks : List Bool → List Instr → Type 0
Marks starts instrs = (place : ℤ) → is_marked starts place ≡ starts_at instrs place

-- some target of the instruction isn't a start
unfoldable pub leads_astray : (ℤ → Bool) → Instr → Bool
leads_astray is_start i = not (list_all is_start (targets_of i))

-- the range has its bounds and its handler at starts, or its end at the end of the code
unfoldable pub is_good_range : ℕ → (ℤ → Bool) → Range → Bool
is_good_range size is_start r =
    is_start (pos r.start) && is_start (pos r.handler) && (is_start (pos r.end) || (r.end == size)) && nat_lt r.start r.end

-- ---- reading

-- these instructions, where none leads astray
abbrev pub unless_astray : Option Instr → Result (List Instr) CodeFault → Result (List Instr) CodeFault
unless_astray None next = next
unless_astray (Some i) next = Err (code_fault i.pc kind.Target)

-- these instructions, where no range is bad
abbrev pub unless_bad_range : Option Range → List Instr → Result (List Instr) CodeFault
unless_bad_range None instrs = Ok instrs
unless_bad_range (Some r) instrs = Err (code_fault r.start kind.BadRange)

-- these instructions, where their targets and the exception table have no fault
abbrev pub placed : ℕ → List Range → List Instr → Result (List Instr) CodeFault
placed size table instrs = unless_astray (first_astray instrs) (unless_bad_range (first_bad_range size instrs table) instrs)

abbrev pub checked : ℕ → List Range → Result (List Instr) CodeFault → Result (List Instr) CodeFault
checked size table (Ok instrs) = placed size table instrs
checked size table (Err f) = Err f

-- the instructions of the code, or its first fault
unfoldable pub code_reading : List ℕ → List Range → Result (List Instr) CodeFault
code_reading code table = checked (length code) table (instructions_reading (length code) (length code) code)

-- the fault of the targets and the exception table, if they have one
abbrev pub IsFoundBy : ℕ → List Range → List Instr → Option CodeFault → Type 0
IsFoundBy size table instrs None = placed size table instrs ≡ Ok instrs
IsFoundBy size table instrs (Some f) = placed size table instrs ≡ Err f

-- the fault that was found is the code's first, unless memory ran out
abbrev pub FindsFault : List ℕ → List Range → Error CodeFault → Type 0
FindsFault code table (error.Bad f) = IsCodeFault code table f.pc f.kind
FindsFault code table error.OutOfMemory = Unit {0}
