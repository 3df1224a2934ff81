-- A method's code: which bytes are which instructions, and the first fault of those that are none.
use Rattle.std.specs.Prelude.{◌≡◌, ◌≢◌, ℕ, zero, suc, ◌+◌, ◌-◌, ◌%◌, ℤ, pos, ◌+ℤ◌, ◌-ℤ◌, int_lt, int_le, unsigned_abs, Bool, true, false, ◌&&◌, ◌||◌, not, List, [], ◌∷◌, ◌++◌, length, Option, Some, None, Result, Ok, Err, ◌==◌, nat_le, nat_lt, find}
use Rattle.std.specs.Int.{Width, w8, w16, w32, cast_signed, int_wrap}
use Rattle.std.specs.List.{list_any, list_all}
use Rattle.std.specs.Ordering.{int_eq}
use Rattle.class_grammar.specs.Opcodes.{form_at, wide_form_at}
use Rattle.class_grammar.specs.Parts.{Part, ◌>>=◌, ◌>>◌, onward, repeated, done, refused, demand, bytes_of, number}
use Rattle.jx_base.specs.declared.class_file.Instr.{Instr}
use Rattle.jx_base.specs.declared.class_file.Range.{Range}
use Rattle.jx_base.specs.declared.fault.CodeFault.{CodeFault}
use Rattle.jx_base.specs.declared.fault.CodeKind.{CodeKind}
use Rattle.jx_base.specs.declared.fault.CodeKind.TheVariants as kind
use Rattle.jx_base.specs.declared.row.Form.{Form}
use Rattle.jx_base.specs.declared.row.Form.TheVariants as form

-- the fault of an instruction, or of a range that starts there
abbrev pub code_fault : ℕ → CodeKind → CodeFault
code_fault pc kind = record { pc = pc; kind = kind }

-- the fault of an instruction that runs past the end
abbrev pub past_end : ℕ → CodeFault
past_end pc = code_fault pc kind.Truncated

-- ---- operands, of the instruction at pc

abbrev pub Operands : Type 1
Operands = Part (List ℤ) CodeFault

unfoldable pub unsigned_operand : Width → ℕ → Operands
unsigned_operand w pc = number (past_end pc) w >>= λ n. done (pos n ∷ [])

unfoldable pub signed_operand : Width → ℕ → Operands
signed_operand w pc = number (past_end pc) w >>= λ n. done (cast_signed w n ∷ [])

-- a target counts from the instruction
unfoldable pub target_operand : Width → ℕ → Operands
target_operand w pc =
    number (past_end pc) w >>= λ n. done (int_wrap w32 (pos pc +ℤ cast_signed w n) ∷ [])

-- an index; two bytes behind it are passed over
unfoldable pub interface_operands : ℕ → Operands
interface_operands pc = do
  i ← number (past_end pc) w16
  bytes ← bytes_of (past_end pc) 2
  done (pos i ∷ [])

-- the type of an array's elements: 4 to 11, but for float and double
unfoldable pub array_type_operand : ℕ → Operands
array_type_operand pc = do
  n ← number (past_end pc) w8
  demand (nat_le 4 n && nat_le n 11) (code_fault pc kind.Opcode)
  demand (not (n == 6) && not (n == 7)) (code_fault pc kind.LeftOut)
  done (pos n ∷ [])

-- an index, and at least one dimension
unfoldable pub dimensions_operands : ℕ → Operands
dimensions_operands pc = do
  i ← number (past_end pc) w16
  n ← number (past_end pc) w8
  demand (nat_lt 0 n) (code_fault pc kind.Opcode)
  done (pos i ∷ pos n ∷ [])

-- a local, and what is added to it, both of that width
unfoldable pub increment_operands : Width → ℕ → Operands
increment_operands w pc = do
  n ← number (past_end pc) w
  by ← number (past_end pc) w
  done (pos n ∷ cast_signed w by ∷ [])

-- the bytes up to the next multiple of 4
unfoldable pub padding_length : ℕ → ℕ
padding_length pc = 3 - pc % 4

-- the default, the least and the greatest key, and a target for each key from the one to the other
unfoldable pub table_operands : ℕ → Operands
table_operands pc = do
  padding ← bytes_of (past_end pc) (padding_length pc)
  default ← target_operand w32 pc
  low ← number (past_end pc) w32
  high ← number (past_end pc) w32
  demand (int_le (cast_signed w32 low) (cast_signed w32 high)) (code_fault pc kind.BadRange)
  targets ← repeated (unsigned_abs (cast_signed w32 high -ℤ cast_signed w32 low) + 1)
      (target_operand w32 pc)
  done (default ++ (cast_signed w32 low ∷ cast_signed w32 high ∷ targets))

-- a key, and its target
unfoldable pub key_operands : ℕ → Operands
key_operands pc = do
  key ← signed_operand w32 pc
  target ← target_operand w32 pc
  done (key ++ target)

-- the keys among keys and targets rise
unfoldable pub keys_rise : List ℤ → Bool
keys_rise [] = true
keys_rise (key ∷ []) = true
keys_rise (key ∷ target ∷ []) = true
keys_rise (key ∷ target ∷ next ∷ rest) = int_lt key next && keys_rise (next ∷ rest)

-- the default, the count of keys, and each key with its target
unfoldable pub lookup_operands : ℕ → Operands
lookup_operands pc = do
  padding ← bytes_of (past_end pc) (padding_length pc)
  default ← target_operand w32 pc
  count ← number (past_end pc) w32
  demand (int_le (pos 0) (cast_signed w32 count)) (code_fault pc kind.BadRange)
  pairs ← repeated (unsigned_abs (cast_signed w32 count)) (key_operands pc)
  demand (keys_rise pairs) (code_fault pc kind.BadRange)
  done (default ++ (cast_signed w32 count ∷ pairs))

-- the operands of each form; the kind is that of an opcode which the table does not have
unfoldable pub operands_part : CodeKind → ℕ → Form → Operands
operands_part missing pc form.Plain = done []
operands_part missing pc form.SignedByte = signed_operand w8 pc
operands_part missing pc form.SignedShort = signed_operand w16 pc
operands_part missing pc form.Byte = unsigned_operand w8 pc
operands_part missing pc form.Index = unsigned_operand w16 pc
operands_part missing pc form.Interface = interface_operands pc
operands_part missing pc form.ArrayType = array_type_operand pc
operands_part missing pc form.Dimensions = dimensions_operands pc
operands_part missing pc form.Increment = increment_operands w8 pc
operands_part missing pc form.WideIncrement = increment_operands w16 pc
operands_part missing pc form.Branch = target_operand w16 pc
operands_part missing pc form.FarBranch = target_operand w32 pc
operands_part missing pc form.TableSwitch = table_operands pc
operands_part missing pc form.LookupSwitch = lookup_operands pc
operands_part missing pc form.Wide = refused (code_fault pc missing)
operands_part missing pc form.LeftOut = refused (code_fault pc kind.LeftOut)
operands_part missing pc form.Unassigned = refused (code_fault pc missing)

-- ---- instructions

-- what stands behind wide: an opcode, and its wider operands
unfoldable pub wide_part : ℕ → Part Instr CodeFault
wide_part pc = do
  opcode ← number (past_end pc) w8
  operands ← operands_part kind.BadWide pc (wide_form_at opcode)
  done (record { pc = pc; opcode = opcode; wide = true; operands = operands })

-- what stands behind an opcode
unfoldable pub behind_opcode : ℕ → ℕ → Form → Part Instr CodeFault
behind_opcode pc opcode form.Wide = wide_part pc
behind_opcode pc opcode f = do
  operands ← operands_part kind.Opcode pc f
  done (record { pc = pc; opcode = opcode; wide = false; operands = operands })

-- the instruction at pc
unfoldable pub instruction_part : ℕ → Part Instr CodeFault
instruction_part pc = number (past_end pc) w8 >>= λ opcode. behind_opcode pc opcode (form_at opcode)

-- The bytes begin with these instructions, one behind the other, and the rest stands behind them.
-- The bytes are the last ones of code of that size.
abbrev pub BeginsWith : ℕ → List ℕ → List Instr → List ℕ → Type 0
BeginsWith size bytes [] rest = rest ≡ bytes
BeginsWith size bytes (i ∷ instrs) rest =
    (middle : List ℕ) × (instruction_part (size - length bytes)).spells bytes i middle
    × BeginsWith size middle instrs rest

-- the code is these instructions
abbrev pub IsSpelledBy : List ℕ → List Instr → Type 0
IsSpelledBy code instrs = BeginsWith (length code) code instrs []

-- behind these instructions stands none, and its fault is f
abbrev pub FailsBehind : List ℕ → List Instr → CodeFault → Type 0
FailsBehind code instrs f =
    (rest : List ℕ) × BeginsWith (length code) code instrs rest × (rest ≢ [])
    × (instruction_part (length code - length rest)).fails rest f

-- ---- targets

-- the targets among the operands of tableswitch, and among keys and targets
unfoldable pub table_targets : List ℤ → List ℤ
table_targets (default ∷ low ∷ high ∷ targets) = default ∷ targets
table_targets _ = []

unfoldable pub key_targets : List ℤ → List ℤ
key_targets (key ∷ target ∷ rest) = target ∷ key_targets rest
key_targets _ = []

unfoldable pub lookup_targets : List ℤ → List ℤ
lookup_targets (default ∷ count ∷ pairs) = default ∷ key_targets pairs
lookup_targets _ = []

unfoldable pub targets_in : Form → List ℤ → List ℤ
targets_in form.Branch operands = operands
targets_in form.FarBranch operands = operands
targets_in form.TableSwitch operands = table_targets operands
targets_in form.LookupSwitch operands = lookup_targets operands
targets_in _ operands = []

-- where an instruction may branch to
unfoldable pub targets_of : Instr → List ℤ
targets_of i = targets_in (form_at i.opcode) i.operands

-- whether an instruction starts at a place
unfoldable pub starts_at : List Instr → ℤ → Bool
starts_at instrs place = list_any (λ (i : Instr). int_eq (pos i.pc) place) instrs

-- whether an instruction may branch to where none starts
unfoldable pub is_astray : List Instr → Instr → Bool
is_astray instrs i = not (list_all (starts_at instrs) (targets_of i))

-- whether a range is one of these instructions, whose code has that length, and its handler starts
-- one
unfoldable pub is_range_of : ℕ → List Instr → Range → Bool
is_range_of size instrs r =
    starts_at instrs (pos r.start) && starts_at instrs (pos r.handler)
    && (starts_at instrs (pos r.end) || (r.end == size)) && nat_lt r.start r.end

-- the first instruction that may branch astray, and the first range that is none of the code
unfoldable pub first_astray : List Instr → Option Instr
first_astray instrs = find (is_astray instrs) instrs

unfoldable pub first_bad_range : ℕ → List Instr → List Range → Option Range
first_bad_range size instrs table = find (λ r. not (is_range_of size instrs r)) table

-- ---- code

-- the code is these instructions, all targets are instructions, and so are all ranges of the
-- exception table
pub record IsCode (code : List ℕ) (table : List Range) (instrs : List Instr) : Type 0 where
  pub spelled : IsSpelledBy code instrs
  pub targets : first_astray instrs ≡ None
  pub ranges : first_bad_range (length code) instrs table ≡ None

-- the first fault: of the first bytes that are no instruction, else of the first instruction that
-- may branch astray, else of the first bad range
pub data IsFirstFault (code : List ℕ) (table : List Range) (f : CodeFault) : Type 0 where
  of_instruction : (instrs : List Instr) → FailsBehind code instrs f → IsFirstFault code table f
  of_target : (instrs : List Instr) (i : Instr) → IsSpelledBy code instrs
      → first_astray instrs ≡ Some i
      → f ≡ code_fault i.pc kind.Target → IsFirstFault code table f
  of_range : (instrs : List Instr) (r : Range) → IsSpelledBy code instrs
      → first_astray instrs ≡ None
      → first_bad_range (length code) instrs table ≡ Some r → f ≡ code_fault r.start kind.BadRange
      → IsFirstFault code table f

-- the code has that first fault
abbrev pub IsCodeFault : List ℕ → List Range → ℕ → CodeKind → Type 0
IsCodeFault code table pc kind = IsFirstFault code table (code_fault pc kind)

-- ---- reading

-- an instruction in front of those behind it
unfoldable pub in_front : Instr → Result (List Instr) CodeFault → Result (List Instr) CodeFault
in_front i (Ok instrs) = Ok (i ∷ instrs)
in_front i (Err f) = Err f

-- the instructions of the last bytes of code of that size; each takes up a byte, so that many steps
-- come to the end
unfoldable pub instructions_reading : ℕ → ℕ → List ℕ → Result (List Instr) CodeFault
instructions_reading size k [] = Ok []
instructions_reading size zero (b ∷ bytes) = Ok []
instructions_reading size (suc k) (b ∷ bytes) =
    onward ((instruction_part (size - length (b ∷ bytes))).reads (b ∷ bytes)) (λ i rest.
    in_front i (instructions_reading size k rest))

-- what a computed case opens
unfoldable pub opened_code_grammar : Unit {0}
unfolding unsigned_operand signed_operand target_operand interface_operands array_type_operand
    dimensions_operands increment_operands padding_length table_operands key_operands keys_rise
    lookup_operands operands_part wide_part behind_opcode instruction_part table_targets key_targets
    lookup_targets targets_in targets_of starts_at is_astray is_range_of first_astray
    first_bad_range in_front instructions_reading
opened_code_grammar = tt
