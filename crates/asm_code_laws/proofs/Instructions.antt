-- An instruction of a text is spelled by its bytes.
use Rattle.std.proofs.Common.{◌≡◌, refl, sym, subst, ℕ, ◌<◌, ◌^◌, List, ◌∷◌, ◌++◌, Bool, true, false, Some, Option, arith, ℤ}
use Rattle.std.specs.Prelude.{flat_map}
use Rattle.std.specs.List.{AllByRecursion}
use Rattle.class_grammar.specs.CodeGrammar.{past_end, operands_part, behind_opcode, wide_part, instruction_part}
use Rattle.class_grammar.specs.Opcodes.{opcode, plain_opcode, left_out, unassigned, constants, loads, stores, stack_forms, arithmetic, conversions, comparisons, control, references, extended, opcodes, opcode_at, form_at, wide_form_at}
use Rattle.jx_base.specs.declared.class_file.Instr.{Instr}
use Rattle.jx_base.specs.declared.fault.CodeKind.TheVariants as kind
use Rattle.jx_base.specs.declared.row.Form.{Form}
use Rattle.jx_base.specs.declared.row.Form.TheVariants as form
use Rattle.asm_constants.specs.declared.content.Content.{Content}
use Rattle.asm_constants.specs.Pools.{index_of}
use Rattle.asm_lines.specs.declared.line.Operand.{Operand}
use Rattle.asm_lines.specs.Operands.{operands_of}
use Rattle.asm_bodies.specs.Bodies.{Mark}
use Rattle.asm_bytes.specs.Files.{operand_bytes, opcode_bytes, instruction_bytes}
use Rattle.asm_code_laws.specs.Written.{form_numbers, form_of, written_instr}
use Rattle.asm_code_laws.proofs.Numbers.{byte_spelled}
use Rattle.asm_laws.proofs.Readable.{IsSo}
use Rattle.asm_code_laws.proofs.Operands.{IsGood, IsRead, operands_so}
use Rattle.asm_lines.specs.declared.line.Instruction.{Instruction}
use Rattle.asm_code_laws.proofs.Said.{IsSaid}

wide_is : form_at 0xc4 ≡ form.Wide
unfolding opcode plain_opcode left_out unassigned constants loads stores stack_forms arithmetic conversions comparisons control references extended opcodes opcode_at form_at
wide_is = refl

-- an opcode whose operands are spelled
behind_spelled : (f : Form) (pc n : ℕ) (text rest : List ℕ) (numbers : List ℤ) → (operands_part kind.Opcode pc f).spells text numbers rest
    → (behind_opcode pc n f).spells text (record { pc = pc; opcode = n; wide = false; operands = numbers }) rest
unfolding behind_opcode operands_part
behind_spelled form.Wide pc n text rest numbers h = absurd h
behind_spelled form.LeftOut pc n text rest numbers h = absurd h
behind_spelled form.Unassigned pc n text rest numbers h = absurd h
behind_spelled f pc n text rest numbers h = (numbers, rest, h, (refl, refl))

opcode_spelled : (pc n : ℕ) (text rest : List ℕ) (numbers : List ℤ) → n < 256 → (operands_part kind.Opcode pc (form_at n)).spells text numbers rest
    → (instruction_part pc).spells (n ∷ text) (record { pc = pc; opcode = n; wide = false; operands = numbers }) rest
unfolding instruction_part
opcode_spelled pc n text rest numbers small h =
    (n, text, byte_spelled (past_end pc) n text small, behind_spelled (form_at n) pc n text rest numbers h)

wide_spelled : (pc n : ℕ) (text rest : List ℕ) (numbers : List ℤ) → n < 256 → (operands_part kind.BadWide pc (wide_form_at n)).spells text numbers rest
    → (instruction_part pc).spells (0xc4 ∷ n ∷ text) (record { pc = pc; opcode = n; wide = true; operands = numbers }) rest
unfolding instruction_part behind_opcode wide_part
wide_spelled pc n text rest numbers small h =
    let whole : Instr = record { pc = pc; opcode = n; wide = true; operands = numbers } in (
      0xc4,
      n ∷ text,
      byte_spelled (past_end pc) 0xc4 (n ∷ text) (omega arith),
      subst (λ f. (behind_opcode pc 0xc4 f).spells (n ∷ text) whole rest) (sym wide_is)
          (n, text, byte_spelled (past_end pc) n text small, (numbers, rest, h, (refl, refl))),
    )

pub from_so : {X : Type 0} (P : X → Type 0) (o : Option X) (x : X) → o ≡ Some x → IsSo P o → P x
from_so P o x e h = subst (IsSo P) e h

module _ (pool : List Content) (marks : List Mark) (small : (c : Content) → index_of pool c < 2 ^ 16) where
  -- an instruction is spelled by its bytes, where these say its operands
  abbrev IsSpelled : Instruction → Type 0
  IsSpelled i =
      (pc : ℕ) → pc < 65536 → AllByRecursion (IsGood pool marks pc) i.operands → (rest : List ℕ)
      → (instruction_part pc).spells (instruction_bytes pool marks pc i ++ rest) (written_instr pool marks pc i) rest

  with_parts : (n : ℕ) (wide : Bool) (all : List Operand) → IsSaid (record { opcode = n; wide = wide; operands = all }) → IsSpelled (record { opcode = n; wide = wide; operands = all })
  unfolding instruction_bytes opcode_bytes written_instr form_of
  with_parts n true all said pc p good rest =
      let r = from_so (IsRead pool marks small (wide_form_at n)) (operands_of (wide_form_at n) said.1 said.2) all said.3 (operands_so pool marks small (wide_form_at n) said.1 said.2) in
      wide_spelled pc n (flat_map (operand_bytes pool marks pc) all ++ rest) rest (form_numbers (wide_form_at n) pool marks all) said.0 (r kind.BadWide pc p good rest)
  with_parts n false all said pc p good rest =
      let r = from_so (IsRead pool marks small (form_at n)) (operands_of (form_at n) said.1 said.2) all said.3 (operands_so pool marks small (form_at n) said.1 said.2) in
      opcode_spelled pc n (flat_map (operand_bytes pool marks pc) all ++ rest) rest (form_numbers (form_at n) pool marks all) said.0 (r kind.Opcode pc p good rest)

  pub instruction_spelled : (i : Instruction) → IsSaid i → IsSpelled i
  instruction_spelled i said = with_parts i.opcode i.wide i.operands said
