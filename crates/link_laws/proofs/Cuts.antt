-- The parts of instructions cut the front off a text.
use Rattle.std.proofs.Common.{◌≡◌, ℕ, zero, suc, List, [], ◌++◌, sym, ap, ◌∙◌, append_assoc}
use Rattle.std.specs.Int.{Width, w8, w16, w32}
use Rattle.std.specs.Prelude.{Bool}
use Rattle.jx_base.specs.declared.fault.CodeKind.{CodeKind}
use Rattle.jx_base.specs.declared.fault.CodeKind.TheVariants as kind
use Rattle.jx_base.specs.declared.row.Form.{Form}
use Rattle.jx_base.specs.declared.row.Form.TheVariants as form
use Rattle.class_grammar.specs.Opcodes.{form_at, wide_form_at}
use Rattle.class_grammar.specs.Parts.{Part, ◌>>=◌, repeated, done, refused, demand, bytes_of, number}
use Rattle.class_grammar.specs.CodeGrammar.{unsigned_operand, signed_operand, target_operand, interface_operands, array_type_operand, dimensions_operands, increment_operands, table_operands, key_operands, lookup_operands, operands_part, wide_part, behind_opcode, instruction_part, padding_length}

-- what a part leaves is the rest of the text
pub record IsCut {A F : Type 0} (p : Part A F) : Type 0 where
  pub front : (text : List ℕ) (x : A) (rest : List ℕ) → p.spells text x rest → (front : List ℕ) × (text ≡ front ++ rest)

-- ---- putting parts together

-- one part behind another
cut-bind : {A B F : Type 0} (p : Part A F) (q : A → Part B F) → IsCut p → ((x : A) → IsCut (q x)) → IsCut (p >>= q)
cut-bind p q hp hq = record {
  front = λ text y rest h.
      let a = hp.front text h.0 h.1 h.2 in
      let b = (hq h.0).front h.1 y rest h.3 in
      (a.0 ++ b.0, a.1 ∙ ap (λ xs. a.0 ++ xs) b.1 ∙ sym (append_assoc a.0 b.0 rest));
}

-- nothing
cut-done : {A F : Type 0} (x : A) → IsCut (done {F = F} x)
cut-done x = record { front = λ text y rest h. ([], sym h.1) }

-- what cannot stand there
cut-refused : {A F : Type 0} (f : F) → IsCut (refused {A = A} f)
cut-refused f = record { front = λ text y rest h. absurd h }

-- a demand
cut-demand : {F : Type 0} (test : Bool) (f : F) → IsCut (demand test f)
cut-demand test f = record { front = λ text y rest h. ([], sym h.1) }

-- so many bytes
cut-bytes_of : {F : Type 0} (f : F) (n : ℕ) → IsCut (bytes_of f n)
unfolding bytes_of
cut-bytes_of f n = record { front = λ text bytes rest h. (bytes, h.1) }

-- a number
cut-number : {F : Type 0} (f : F) (w : Width) → IsCut (number f w)
unfolding number
cut-number f w = record { front = λ text n rest h. (h.0, h.2) }

-- what repeated parts leave
front-repeated : {A F : Type 0} (n : ℕ) (p : Part (List A) F) → IsCut p → (text : List ℕ) (xs : List A) (rest : List ℕ) → (repeated n p).spells text xs rest → (front : List ℕ) × (text ≡ front ++ rest)
unfolding repeated
front-repeated zero p hp text xs rest h = ([], sym h.1)
front-repeated (suc n) p hp text zs rest h =
    let a = hp.front text h.0 h.2 h.3 in
    let b = front-repeated n p hp h.2 h.1 rest h.4 in
    (a.0 ++ b.0, a.1 ∙ ap (λ xs. a.0 ++ xs) b.1 ∙ sym (append_assoc a.0 b.0 rest))

-- repeated parts
cut-repeated : {A F : Type 0} (n : ℕ) (p : Part (List A) F) → IsCut p → IsCut (repeated n p)
cut-repeated n p hp = record { front = front-repeated n p hp }

-- ---- operands

-- an unsigned operand
cut_unsigned : (w : Width) (pc : ℕ) → IsCut (unsigned_operand w pc)
unfolding unsigned_operand
cut_unsigned w pc = cut-bind _ _ (cut-number _ w) (λ n. cut-done _)

-- a signed one
cut_signed : (w : Width) (pc : ℕ) → IsCut (signed_operand w pc)
unfolding signed_operand
cut_signed w pc = cut-bind _ _ (cut-number _ w) (λ n. cut-done _)

-- a target
cut_target : (w : Width) (pc : ℕ) → IsCut (target_operand w pc)
unfolding target_operand
cut_target w pc = cut-bind _ _ (cut-number _ w) (λ n. cut-done _)

-- an index with two bytes behind it
cut_interface : (pc : ℕ) → IsCut (interface_operands pc)
unfolding interface_operands
cut_interface pc = cut-bind _ _ (cut-number _ w16) (λ n. cut-bind _ _ (cut-bytes_of _ 2) (λ bytes. cut-done _))

-- the type of an array
cut_array_type : (pc : ℕ) → IsCut (array_type_operand pc)
unfolding array_type_operand
cut_array_type pc =
    cut-bind _ _ (cut-number _ w8) (λ n. cut-bind _ _ (cut-demand _ _) (λ x. cut-bind _ _ (cut-demand _ _) (λ y. cut-done _)))

-- an index and dimensions
cut_dimensions : (pc : ℕ) → IsCut (dimensions_operands pc)
unfolding dimensions_operands
cut_dimensions pc =
    cut-bind _ _ (cut-number _ w16) (λ i. cut-bind _ _ (cut-number _ w8) (λ n. cut-bind _ _ (cut-demand _ _) (λ x. cut-done _)))

-- a local and what is added
cut_increment : (w : Width) (pc : ℕ) → IsCut (increment_operands w pc)
unfolding increment_operands
cut_increment w pc = cut-bind _ _ (cut-number _ w) (λ n. cut-bind _ _ (cut-number _ w) (λ by. cut-done _))

-- a table of targets
cut_table : (pc : ℕ) → IsCut (table_operands pc)
unfolding table_operands
cut_table pc =
    cut-bind _ _ (cut-bytes_of _ (padding_length pc)) (λ padding.
    cut-bind _ _ (cut_target w32 pc) (λ default.
    cut-bind _ _ (cut-number _ w32) (λ low.
    cut-bind _ _ (cut-number _ w32) (λ high.
    cut-bind _ _ (cut-demand _ _) (λ x.
    cut-bind _ _ (cut-repeated _ _ (cut_target w32 pc)) (λ targets. cut-done _))))))

-- a key and its target
cut_key : (pc : ℕ) → IsCut (key_operands pc)
unfolding key_operands
cut_key pc = cut-bind _ _ (cut_signed w32 pc) (λ key. cut-bind _ _ (cut_target w32 pc) (λ target. cut-done _))

-- keys and targets
cut_lookup : (pc : ℕ) → IsCut (lookup_operands pc)
unfolding lookup_operands
cut_lookup pc =
    cut-bind _ _ (cut-bytes_of _ (padding_length pc)) (λ padding.
    cut-bind _ _ (cut_target w32 pc) (λ default.
    cut-bind _ _ (cut-number _ w32) (λ count.
    cut-bind _ _ (cut-demand _ _) (λ x.
    cut-bind _ _ (cut-repeated _ _ (cut_key pc)) (λ pairs.
    cut-bind _ _ (cut-demand _ _) (λ y. cut-done _))))))

-- the operands of each form
cut_operands : (missing : CodeKind) (pc : ℕ) (f : Form) → IsCut (operands_part missing pc f)
unfolding operands_part
cut_operands missing pc form.Plain = cut-done []
cut_operands missing pc form.SignedByte = cut_signed w8 pc
cut_operands missing pc form.SignedShort = cut_signed w16 pc
cut_operands missing pc form.Byte = cut_unsigned w8 pc
cut_operands missing pc form.Index = cut_unsigned w16 pc
cut_operands missing pc form.Interface = cut_interface pc
cut_operands missing pc form.ArrayType = cut_array_type pc
cut_operands missing pc form.Dimensions = cut_dimensions pc
cut_operands missing pc form.Increment = cut_increment w8 pc
cut_operands missing pc form.WideIncrement = cut_increment w16 pc
cut_operands missing pc form.Branch = cut_target w16 pc
cut_operands missing pc form.FarBranch = cut_target w32 pc
cut_operands missing pc form.TableSwitch = cut_table pc
cut_operands missing pc form.LookupSwitch = cut_lookup pc
cut_operands missing pc form.Wide = cut-refused _
cut_operands missing pc form.LeftOut = cut-refused _
cut_operands missing pc form.Unassigned = cut-refused _

-- ---- instructions

-- what stands behind wide
cut_wide : (pc : ℕ) → IsCut (wide_part pc)
unfolding wide_part
cut_wide pc = cut-bind _ _ (cut-number _ w8) (λ opcode. cut-bind _ _ (cut_operands kind.BadWide pc (wide_form_at opcode)) (λ operands. cut-done _))

-- what stands behind an opcode
cut_behind : (pc opcode : ℕ) (f : Form) → IsCut (behind_opcode pc opcode f)
unfolding behind_opcode
cut_behind pc opcode form.Wide = cut_wide pc
cut_behind pc opcode f = cut-bind _ _ (cut_operands kind.Opcode pc f) (λ operands. cut-done _)

-- an instruction
pub cut_instruction : (pc : ℕ) → IsCut (instruction_part pc)
unfolding instruction_part
cut_instruction pc = cut-bind _ _ (cut-number _ w8) (λ opcode. cut_behind pc opcode (form_at opcode))
