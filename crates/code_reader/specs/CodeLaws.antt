-- The laws of code: it is read in one way, and its instructions stand in order.
use Rattle.std.specs.Prelude.{◌≡◌, ℕ, ◌<◌, List, length, map, All, Ok}
use Rattle.std.specs.List.Sorted.{IsStrictlyIncreasing}
use Rattle.class_grammar.specs.CodeGrammar.{IsCode, IsFirstFault, instructions_reading}
use Rattle.jx_base.specs.declared.class_file.Instr.{Instr}
use Rattle.jx_base.specs.declared.class_file.Range.{Range}
use Rattle.jx_base.specs.declared.fault.CodeFault.{CodeFault}

-- code is one list of instructions at most
abbrev pub IsOneCode : Type 0
IsOneCode = (code : List ℕ) (table : List Range) (a b : List Instr) → IsCode code table a → IsCode code table b → a ≡ b

-- code has one first fault at most
abbrev pub IsOneFault : Type 0
IsOneFault = (code : List ℕ) (table : List Range) (f g : CodeFault) → IsFirstFault code table f → IsFirstFault code table g → f ≡ g

-- no code has instructions and a fault
abbrev pub IsEitherCodeOrFault : Type 0
IsEitherCodeOrFault = (code : List ℕ) (table : List Range) (instrs : List Instr) (f : CodeFault) → IsCode code table instrs → IsFirstFault code table f → ⊥

-- the instructions of code are those that reading gives
abbrev pub IsReadAlone : Type 0
IsReadAlone = (code : List ℕ) (table : List Range) (instrs : List Instr) → IsCode code table instrs → instructions_reading (length code) (length code) code ≡ Ok instrs

-- each instruction starts behind the one before it, within the code
abbrev pub IsInOrder : Type 0
IsInOrder = (code : List ℕ) (table : List Range) (instrs : List Instr) → IsCode code table instrs → IsStrictlyIncreasing (map (λ i. i.pc) instrs)

abbrev pub IsWithinCode : Type 0
IsWithinCode = (code : List ℕ) (table : List Range) (instrs : List Instr) → IsCode code table instrs → All (λ i. i.pc < length code) instrs
