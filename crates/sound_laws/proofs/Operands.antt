-- The first operand of an instruction of bytes lies in its range.
use Rattle.std.proofs.Common.{◌≡◌, ℕ, false, zero, suc, ◌<◌, List, [], ◌∷◌, ◌++◌, length, drop, Option, Some, None, refl, sym, ap, ◌∙◌, subst, arith}
use Rattle.std.specs.Prelude.{ℤ, pos, FitsSigned, slice_index_or}
use Rattle.std.specs.Int.{w8, w16, w32, cast_signed, from_be_bytes}
use Rattle.std.proofs.lemmas.Int.{SFits-int_wrap}
use borrow.Author.Gap.{read_sfits}
use mir.Facts.{sfits_widen}
use Rattle.class_grammar.specs.CodeGrammar.{unsigned_operand, signed_operand, target_operand, interface_operands, array_type_operand, dimensions_operands, increment_operands, table_operands, lookup_operands, operands_part, wide_part, behind_opcode, instruction_part}
use Rattle.class_grammar.specs.Opcodes.{form_at, wide_form_at, opened_opcodes}
use Rattle.class_grammar.specs.Parts.{number}
use Rattle.jx_base.specs.declared.class_file.Code.{Code}
use Rattle.jx_base.specs.declared.class_file.Instr.{Instr}
use Rattle.code_reader.specs.CodeReading.{code_reading}
use Rattle.code_reader.proofs.ReadingLaws.{code_found}
use Rattle.class_grammar.specs.ReadFiles.{IsReadCode}
use Rattle.jx_base.specs.declared.fault.CodeFault.{CodeFault}
use Rattle.jx_base.specs.declared.fault.CodeKind.{CodeKind}
use Rattle.jx_base.specs.declared.fault.CodeKind.TheVariants as kind
use Rattle.jx_base.specs.declared.frame.Frame.{Frame}
use Rattle.jx_base.specs.declared.program.System.{System}
use Rattle.jx_base.specs.declared.row.Form.{Form}
use Rattle.jx_base.specs.declared.row.Form.TheVariants as form
use Rattle.program_model.specs.Instructions.{Reading, instruction_at, operand, opened_instructions}
use Rattle.machine_model.specs.State.{code_of, code_bytes}
use Rattle.sound_laws.proofs.ByteCodes.{HasByteCodes}
use Rattle.class_grammar.specs.ReadFiles.{AreBytes}
use Rattle.sound_laws.proofs.Places.{spelled_at, none_of_none}

-- ---- code that is not of bytes

-- an instruction that is read where a byte is none: its operand is no int
strange_reading : instruction_at (21 ∷ 2147483648 ∷ []) 0 ≡ Some (record { instr = record { pc = 0; opcode = 21; wide = false; operands = pos 2147483648 ∷ [] }; next = 2 })
unfolding opened_instructions opened_opcodes
strange_reading = refl

-- no int is so great
strange_number : FitsSigned w32 (pos 2147483648) → ⊥
strange_number h = let small : 2147483648 < 2147483648 = h.sfits in omega (arith, small)

-- and yet code that has it is read: iload, and return
strange_code : IsReadCode (record { max_stack = 1; max_locals = 1; at = 0; code = 21 ∷ 2147483648 ∷ 177 ∷ []; table = [] })
unfolding opened_instructions opened_opcodes code_reading
strange_code = (_, code_found (21 ∷ 2147483648 ∷ 177 ∷ []) [] _ refl)

-- ---- bytes

-- what stands behind is of bytes
pub behind_bytes : (xs ys zs : List ℕ) → zs ≡ xs ++ ys → AreBytes zs → AreBytes ys
behind_bytes [] ys zs e h = subst AreBytes e h
behind_bytes (x ∷ xs) ys [] e h = absurd cc
behind_bytes (x ∷ xs) ys (z ∷ zs) e h = let same : zs ≡ xs ++ ys = cc in behind_bytes xs ys zs same h.1

-- so it is behind so many
dropped_bytes : (n : ℕ) (xs : List ℕ) → AreBytes xs → AreBytes (drop n xs)
dropped_bytes zero xs h = h
dropped_bytes (suc n) [] h = tt
dropped_bytes (suc n) (x ∷ xs) h = dropped_bytes n xs h.1

-- a byte
byte_small : (f : CodeFault) (text : List ℕ) (n : ℕ) (rest : List ℕ) → (number f w8).spells text n rest → AreBytes text → n < 65536
unfolding number
byte_small f text n rest h a = by h.0 h.1 text h.2 a h.3
  where
    by : (bytes : List ℕ) → length bytes ≡ 1 → (text : List ℕ) → text ≡ bytes ++ rest → AreBytes text → n ≡ from_be_bytes w8 bytes → n < 65536
    by [] l t e a q = absurd (omega (arith, l))
    by (b ∷ bytes) l [] e a q = absurd cc
    by (b ∷ bytes) l (x ∷ t) e a q = let same : x ≡ b = cc in let small : x < 256 = a.0 in omega (arith, q, same, small)

-- two bytes
short_small : (f : CodeFault) (text : List ℕ) (n : ℕ) (rest : List ℕ) → (number f w16).spells text n rest → AreBytes text → n < 65536
unfolding number
short_small f text n rest h a = by h.0 h.1 text h.2 a h.3
  where
    by : (bytes : List ℕ) → length bytes ≡ 2 → (text : List ℕ) → text ≡ bytes ++ rest → AreBytes text → n ≡ from_be_bytes w16 bytes → n < 65536
    by [] l t e a q = absurd (omega (arith, l))
    by (b ∷ []) l t e a q = absurd (omega (arith, l))
    by (b ∷ c ∷ bytes) l [] e a q = absurd cc
    by (b ∷ c ∷ bytes) l (x ∷ []) e a q = absurd cc
    by (b ∷ c ∷ bytes) l (x ∷ y ∷ t) e a q =
        let first : x ≡ b = cc in
        let second : y ≡ c = cc in
        let one : x < 256 = a.0 in
        let two : y < 256 = a.1.0 in
        omega (arith, q, first, second, one, two)

-- ---- operands

-- the first of these is an int
abbrev IsFirstIn : List ℤ → Type 0
IsFirstIn xs = FitsSigned w32 (slice_index_or xs 0 (pos 0))

-- a small number is
small_fits : (n : ℕ) → n < 65536 → FitsSigned w32 (pos n)
small_fits n h = record { sfits = omega (arith, h) }

-- the operands of each form begin so
operands_fit : (missing : CodeKind) (pc : ℕ) (f : Form) (text : List ℕ) (xs : List ℤ) (rest : List ℕ) → (operands_part missing pc f).spells text xs rest → AreBytes text → IsFirstIn xs
unfolding operands_part signed_operand unsigned_operand target_operand interface_operands array_type_operand dimensions_operands increment_operands table_operands lookup_operands
operands_fit missing pc form.Plain text xs rest h a = subst IsFirstIn (sym h.0) (small_fits 0 (omega arith))
operands_fit missing pc form.SignedByte text xs rest h a = subst IsFirstIn (sym h.3.0) (sfits_widen tt (read_sfits w8 h.0))
operands_fit missing pc form.SignedShort text xs rest h a = subst IsFirstIn (sym h.3.0) (sfits_widen tt (read_sfits w16 h.0))
operands_fit missing pc form.Byte text xs rest h a = subst IsFirstIn (sym h.3.0) (small_fits h.0 (byte_small _ text h.0 h.1 h.2 a))
operands_fit missing pc form.Index text xs rest h a = subst IsFirstIn (sym h.3.0) (small_fits h.0 (short_small _ text h.0 h.1 h.2 a))
operands_fit missing pc form.Interface text xs rest h a = subst IsFirstIn (sym h.3.3.0) (small_fits h.0 (short_small _ text h.0 h.1 h.2 a))
operands_fit missing pc form.ArrayType text xs rest h a = subst IsFirstIn (sym h.3.3.3.0) (small_fits h.0 (byte_small _ text h.0 h.1 h.2 a))
operands_fit missing pc form.Dimensions text xs rest h a = subst IsFirstIn (sym h.3.3.3.0) (small_fits h.0 (short_small _ text h.0 h.1 h.2 a))
operands_fit missing pc form.Increment text xs rest h a = subst IsFirstIn (sym h.3.3.0) (small_fits h.0 (byte_small _ text h.0 h.1 h.2 a))
operands_fit missing pc form.WideIncrement text xs rest h a = subst IsFirstIn (sym h.3.3.0) (small_fits h.0 (short_small _ text h.0 h.1 h.2 a))
operands_fit missing pc form.Branch text xs rest h a = subst IsFirstIn (sym h.3.0) (SFits-int_wrap w32 _)
operands_fit missing pc form.FarBranch text xs rest h a = subst IsFirstIn (sym h.3.0) (SFits-int_wrap w32 _)
operands_fit missing pc form.TableSwitch text xs rest h a =
    subst IsFirstIn (sym (h.3.3.3.3.3.3.0 ∙ ap (λ (ys : List ℤ). ys ++ (cast_signed w32 h.3.3.0 ∷ cast_signed w32 h.3.3.3.0 ∷ h.3.3.3.3.3.0)) h.3.2.3.0)) (SFits-int_wrap w32 _)
operands_fit missing pc form.LookupSwitch text xs rest h a =
    subst IsFirstIn (sym (h.3.3.3.3.3.3.0 ∙ ap (λ (ys : List ℤ). ys ++ (cast_signed w32 h.3.3.0 ∷ h.3.3.3.3.0)) h.3.2.3.0)) (SFits-int_wrap w32 _)
operands_fit missing pc form.Wide text xs rest h a = absurd h
operands_fit missing pc form.LeftOut text xs rest h a = absurd h
operands_fit missing pc form.Unassigned text xs rest h a = absurd h

-- behind a number stand bytes
behind_number : (f : CodeFault) (text : List ℕ) (n : ℕ) (rest : List ℕ) → (number f w8).spells text n rest → AreBytes text → AreBytes rest
unfolding number
behind_number f text n rest h a = behind_bytes h.0 rest text h.2 a

-- so do those of an instruction
behind_fits : (pc opcode : ℕ) (f : Form) (text : List ℕ) (i : Instr) (rest : List ℕ) → (behind_opcode pc opcode f).spells text i rest → AreBytes text → FitsSigned w32 (operand i 0)
unfolding behind_opcode wide_part operand
behind_fits pc opcode form.Wide text i rest h a =
    subst (λ (x : Instr). IsFirstIn x.operands) (sym h.3.3.0) (operands_fit kind.BadWide pc (wide_form_at h.0) h.1 h.3.0 h.3.1 h.3.2 (behind_number _ text h.0 h.1 h.2 a))
behind_fits pc opcode f text i rest h a =
    subst (λ (x : Instr). IsFirstIn x.operands) (sym h.3.0) (operands_fit kind.Opcode pc f text h.0 h.1 h.2 a)

-- the operand of an instruction that is read of bytes
pub operand_fits : (code : List ℕ) (pc : ℕ) (r : Reading) → AreBytes code → instruction_at code pc ≡ Some r → FitsSigned w32 (operand r.instr 0)
unfolding instruction_part
operand_fits code pc r a e =
    let x = spelled_at code pc r e in
    let h = x.1 in
    behind_fits pc h.0 (form_at h.0) h.1 r.instr x.0 h.3 (behind_number _ (drop pc code) h.0 h.1 h.2 (dropped_bytes pc code a))

-- the first operand of each instruction, where the system's code is of bytes
pub operands : (s : System) → HasByteCodes s → (f : Frame) (r : Reading) → instruction_at (code_bytes s f) f.pc ≡ Some r → FitsSigned w32 (operand r.instr 0)
unfolding code_bytes
operands s h f r e = by (code_of s f.method) refl e
  where
    by : (o : Option Code) → code_of s f.method ≡ o → instruction_at (elim o as (λ _. List ℕ) [ None ↦ [] | Some c ↦ c.code ]) f.pc ≡ Some r → FitsSigned w32 (operand r.instr 0)
    by None q i = absurd (none_of_none f.pc r i)
    by (Some c) q i = operand_fits c.code f.pc r (h f.method c q) i
