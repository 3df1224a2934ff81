-- The parts of instructions are lawful, and what stands behind a part is no longer than the text.
use Rattle.std.proofs.Common.{◌≡◌, ℕ, zero, suc, ◌<◌, ◌≤◌, Bool, List, [], length, ap, arith}
use Rattle.std.specs.Int.{Width, w8, w16, w32}
use Rattle.std.proofs.lemmas.List.{length-append}
use Rattle.jx_base.specs.declared.class_file.Instr.{Instr}
use Rattle.jx_base.specs.declared.fault.CodeKind.{CodeKind}
use Rattle.jx_base.specs.declared.fault.CodeKind.TheVariants as kind
use Rattle.jx_base.specs.declared.row.Form.{Form}
use Rattle.jx_base.specs.declared.row.Form.TheVariants as form
use Rattle.class_grammar.specs.Opcodes.{form_at, wide_form_at}
use Rattle.class_grammar.specs.Parts.{Part, ◌>>=◌, repeated, done, refused, demand, bytes_of, number}
use Rattle.class_grammar.specs.CodeGrammar.{unsigned_operand, signed_operand, target_operand, interface_operands, array_type_operand, dimensions_operands, increment_operands, table_operands, key_operands, lookup_operands, operands_part, wide_part, behind_opcode, instruction_part, padding_length}
use Rattle.class_grammar.proofs.PartLaws.{IsLawful, lawful-bind, lawful-repeated, lawful-done, lawful-refused, lawful-demand, lawful-bytes_of, lawful-number}

pub record IsSound {A F : Type 0} (p : Part A F) : Type 0 where
  pub lawful : IsLawful p
  pub shorter : (text : List ℕ) (x : A) (rest : List ℕ) → p.spells text x rest → length rest ≤ length text

-- ---- putting parts together

pub sound-bind : {A B F : Type 0} (p : Part A F) (q : A → Part B F) → IsSound p → ((x : A) → IsSound (q x)) → IsSound (p >>= q)
sound-bind p q hp hq = record {
  lawful = lawful-bind p q hp.lawful (λ x. (hq x).lawful);
  shorter = λ text y rest h. omega (arith, hp.shorter text h.0 h.1 h.2, (hq h.0).shorter h.1 y rest h.3);
}

pub sound-done : {A F : Type 0} (x : A) → IsSound (done {F = F} x)
sound-done x = record { lawful = lawful-done x; shorter = λ text y rest h. omega (arith, ap length h.1) }

sound-refused : {A F : Type 0} (f : F) → IsSound (refused {A = A} f)
sound-refused f = record { lawful = lawful-refused f; shorter = λ text y rest h. absurd h }

sound-demand : {F : Type 0} (test : Bool) (f : F) → IsSound (demand test f)
sound-demand test f = record { lawful = lawful-demand test f; shorter = λ text y rest h. omega (arith, ap length h.1) }

sound-bytes_of : {F : Type 0} (f : F) (n : ℕ) → IsSound (bytes_of f n)
unfolding bytes_of
sound-bytes_of f n = record { lawful = lawful-bytes_of f n; shorter = λ text bytes rest h. omega (arith, ap length h.1, length-append bytes rest) }

pub sound-number : {F : Type 0} (f : F) (w : Width) → IsSound (number f w)
unfolding number
sound-number f w = record { lawful = lawful-number f w; shorter = λ text n rest h. omega (arith, ap length h.2, length-append h.0 rest) }

shorter-repeated : {A F : Type 0} (n : ℕ) (p : Part (List A) F) → IsSound p → (text : List ℕ) (xs : List A) (rest : List ℕ) → (repeated n p).spells text xs rest → length rest ≤ length text
unfolding repeated
shorter-repeated zero p hp text xs rest h = omega (arith, ap length h.1)
shorter-repeated (suc n) p hp text zs rest h = omega (arith, hp.shorter text h.0 h.2 h.3, shorter-repeated n p hp h.2 h.1 rest h.4)

sound-repeated : {A F : Type 0} (n : ℕ) (p : Part (List A) F) → IsSound p → IsSound (repeated n p)
sound-repeated n p hp = record { lawful = lawful-repeated n p hp.lawful; shorter = shorter-repeated n p hp }

-- ---- operands

sound_unsigned : (w : Width) (pc : ℕ) → IsSound (unsigned_operand w pc)
unfolding unsigned_operand
sound_unsigned w pc = sound-bind _ _ (sound-number _ w) (λ n. sound-done _)

sound_signed : (w : Width) (pc : ℕ) → IsSound (signed_operand w pc)
unfolding signed_operand
sound_signed w pc = sound-bind _ _ (sound-number _ w) (λ n. sound-done _)

sound_target : (w : Width) (pc : ℕ) → IsSound (target_operand w pc)
unfolding target_operand
sound_target w pc = sound-bind _ _ (sound-number _ w) (λ n. sound-done _)

sound_interface : (pc : ℕ) → IsSound (interface_operands pc)
unfolding interface_operands
sound_interface pc = sound-bind _ _ (sound-number _ w16) (λ n. sound-bind _ _ (sound-bytes_of _ 2) (λ bytes. sound-done _))

sound_array_type : (pc : ℕ) → IsSound (array_type_operand pc)
unfolding array_type_operand
sound_array_type pc =
    sound-bind _ _ (sound-number _ w8) (λ n. sound-bind _ _ (sound-demand _ _) (λ x. sound-bind _ _ (sound-demand _ _) (λ y. sound-done _)))

sound_dimensions : (pc : ℕ) → IsSound (dimensions_operands pc)
unfolding dimensions_operands
sound_dimensions pc =
    sound-bind _ _ (sound-number _ w16) (λ i. sound-bind _ _ (sound-number _ w8) (λ n. sound-bind _ _ (sound-demand _ _) (λ x. sound-done _)))

sound_increment : (w : Width) (pc : ℕ) → IsSound (increment_operands w pc)
unfolding increment_operands
sound_increment w pc = sound-bind _ _ (sound-number _ w) (λ n. sound-bind _ _ (sound-number _ w) (λ by. sound-done _))

sound_table : (pc : ℕ) → IsSound (table_operands pc)
unfolding table_operands
sound_table pc =
    sound-bind _ _ (sound-bytes_of _ (padding_length pc)) (λ padding.
    sound-bind _ _ (sound_target w32 pc) (λ default.
    sound-bind _ _ (sound-number _ w32) (λ low.
    sound-bind _ _ (sound-number _ w32) (λ high.
    sound-bind _ _ (sound-demand _ _) (λ x.
    sound-bind _ _ (sound-repeated _ _ (sound_target w32 pc)) (λ targets. sound-done _))))))

sound_key : (pc : ℕ) → IsSound (key_operands pc)
unfolding key_operands
sound_key pc = sound-bind _ _ (sound_signed w32 pc) (λ key. sound-bind _ _ (sound_target w32 pc) (λ target. sound-done _))

sound_lookup : (pc : ℕ) → IsSound (lookup_operands pc)
unfolding lookup_operands
sound_lookup pc =
    sound-bind _ _ (sound-bytes_of _ (padding_length pc)) (λ padding.
    sound-bind _ _ (sound_target w32 pc) (λ default.
    sound-bind _ _ (sound-number _ w32) (λ count.
    sound-bind _ _ (sound-demand _ _) (λ x.
    sound-bind _ _ (sound-repeated _ _ (sound_key pc)) (λ pairs.
    sound-bind _ _ (sound-demand _ _) (λ y. sound-done _))))))

sound_operands : (missing : CodeKind) (pc : ℕ) (f : Form) → IsSound (operands_part missing pc f)
unfolding operands_part
sound_operands missing pc form.Plain = sound-done []
sound_operands missing pc form.SignedByte = sound_signed w8 pc
sound_operands missing pc form.SignedShort = sound_signed w16 pc
sound_operands missing pc form.Byte = sound_unsigned w8 pc
sound_operands missing pc form.Index = sound_unsigned w16 pc
sound_operands missing pc form.Interface = sound_interface pc
sound_operands missing pc form.ArrayType = sound_array_type pc
sound_operands missing pc form.Dimensions = sound_dimensions pc
sound_operands missing pc form.Increment = sound_increment w8 pc
sound_operands missing pc form.WideIncrement = sound_increment w16 pc
sound_operands missing pc form.Branch = sound_target w16 pc
sound_operands missing pc form.FarBranch = sound_target w32 pc
sound_operands missing pc form.TableSwitch = sound_table pc
sound_operands missing pc form.LookupSwitch = sound_lookup pc
sound_operands missing pc form.Wide = sound-refused _
sound_operands missing pc form.LeftOut = sound-refused _
sound_operands missing pc form.Unassigned = sound-refused _

-- ---- instructions

sound_wide : (pc : ℕ) → IsSound (wide_part pc)
unfolding wide_part
sound_wide pc = sound-bind _ _ (sound-number _ w8) (λ opcode. sound-bind _ _ (sound_operands kind.BadWide pc (wide_form_at opcode)) (λ operands. sound-done _))

sound_behind : (pc opcode : ℕ) (f : Form) → IsSound (behind_opcode pc opcode f)
unfolding behind_opcode
sound_behind pc opcode form.Wide = sound_wide pc
sound_behind pc opcode f = sound-bind _ _ (sound_operands kind.Opcode pc f) (λ operands. sound-done _)

pub sound_instruction : (pc : ℕ) → IsSound (instruction_part pc)
unfolding instruction_part
sound_instruction pc = sound-bind _ _ (sound-number _ w8) (λ opcode. sound_behind pc opcode (form_at opcode))

-- an instruction takes up its opcode at least
pub takes_a_byte : (pc : ℕ) (text : List ℕ) (i : Instr) (rest : List ℕ) → (instruction_part pc).spells text i rest → length rest < length text
unfolding instruction_part number
takes_a_byte pc text i rest h =
    let one : length h.2.0 ≡ 1 = h.2.1 in
    omega (arith, ap length h.2.2, length-append h.2.0 h.1, one, (sound_behind pc h.0 (form_at h.0)).shorter h.1 i rest h.3)

-- the places of instructions

pc_behind : (pc opcode : ℕ) (f : Form) (text : List ℕ) (i : Instr) (rest : List ℕ) → (behind_opcode pc opcode f).spells text i rest → i.pc ≡ pc
unfolding behind_opcode wide_part
pc_behind pc opcode form.Wide text i rest h = ap (λ (x : Instr). x.pc) h.3.3.0
pc_behind pc opcode f text i rest h = ap (λ (x : Instr). x.pc) h.3.0

pub starts_at_pc : (pc : ℕ) (text : List ℕ) (i : Instr) (rest : List ℕ) → (instruction_part pc).spells text i rest → i.pc ≡ pc
unfolding instruction_part
starts_at_pc pc text i rest h = pc_behind pc h.0 (form_at h.0) h.1 i rest h.3
