-- What words an instruction of a text has its operands from.
use Rattle.std.proofs.Common.{◌≡◌, refl, ℕ, ◌<◌, List, [], ◌∷◌, length, Bool, true, false, Some, None, Option, map, arith}
use Rattle.std.specs.Prelude.{◌&&◌, ◌==◌, option_map, if◌then◌else◌, codes, is_some}
use Rattle.std.specs.List.{list_all, AllByRecursion, position}
use Rattle.std.specs.Str.{bytes_eq}
use Rattle.std.proofs.lemmas.List.Quantifiers.{position-Some}
use Rattle.class_grammar.specs.Descriptors.{field_type_of, method_type_of}
use Rattle.class_grammar.specs.Opcodes.{Opcode, unassigned, constants, loads, stores, stack_forms, arithmetic, conversions, comparisons, control, references, extended, opcodes, form_at, row_at, wide_form_at}
use Rattle.jx_base.specs.declared.row.Row.{Row}
use Rattle.asm_words.specs.Numbers.{flags_of}
use Rattle.asm_words.specs.Words.{lines_of, units_of, words_of}
use Rattle.asm_lines.specs.declared.line.AsmKind.TheVariants as fault
use Rattle.asm_lines.specs.declared.line.Line.{Line}
use Rattle.asm_lines.specs.declared.line.Line.TheVariants as line
use Rattle.asm_lines.specs.declared.line.Member.{Member}
use Rattle.asm_lines.specs.declared.line.Operand.{Operand}
use Rattle.asm_lines.specs.Lines.{opcode_named, with_operands, wide_instruction, class_line, implements_line, member_of, field_line, abstract_line, slots, method_with, method_line, catch_line, end_line, label_of, label_line, fitting, body_line, worded_line, line_of_words, meaning, meanings}
use Rattle.asm_lines.specs.Operands.{is_name, operands_of}
use Rattle.asm_lines.specs.declared.line.Instruction.{Instruction}
use Rattle.asm_code_laws.specs.Written.{form_of}
use Rattle.asm_laws.proofs.Readable.{IsSo, so_if, so_mapped}
use Rattle.asm_code_laws.proofs.Operands.{so_any}

count_of_opcodes : length opcodes ≡ 202
unfolding constants loads stores stack_forms arithmetic conversions comparisons control references extended opcodes
count_of_opcodes = refl

-- a mnemonic names an opcode of a byte
named_small : (word : List ℕ) → IsSo (λ n. n < 256) (opcode_named word)
unfolding opcode_named
named_small [] = tt
named_small (u ∷ units) = small (position (λ (o : Opcode). bytes_eq (u ∷ units) o.mnemonic) opcodes) refl where
  small : (o : Option ℕ) → position (λ (o : Opcode). bytes_eq (u ∷ units) o.mnemonic) opcodes ≡ o → IsSo (λ n. n < 256) o
  small None e = tt
  small (Some n) e =
      let k = position-Some (λ (o : Opcode). bytes_eq (u ∷ units) o.mnemonic) opcodes n unassigned e in omega (arith, count_of_opcodes, k.0)

-- words say the operands, by the form of the opcode
abbrev pub IsSaid : Instruction → Type 0
IsSaid i = (i.opcode < 256) × (r : Row) × (words : List (List ℕ)) × (operands_of (form_of i) r words ≡ Some i.operands)

abbrev pub IsSaidLine : Line → Type 0
IsSaidLine (line.Instruction i) = IsSaid i
IsSaidLine _ = Unit {0}

abbrev IsSaidSo : Option Line → Type 0
IsSaidSo o = IsSo IsSaidLine o

with_operands_so : (n : ℕ) (wide : Bool) (o : Option (List Operand)) → ((all : List Operand) → o ≡ Some all → IsSaid (record { opcode = n; wide = wide; operands = all }))
    → IsSaidSo (with_operands n wide o)
unfolding with_operands
with_operands_so n wide None h = tt
with_operands_so n wide (Some all) h = h all refl

plain_so : (n : ℕ) (words : List (List ℕ)) → n < 256 → IsSaidSo (with_operands n false (operands_of (form_at n) (row_at n) words))
unfolding form_of
plain_so n words h = with_operands_so n false (operands_of (form_at n) (row_at n) words) (λ all e. (h, row_at n, words, e))

wider_so : (n : ℕ) (words : List (List ℕ)) → n < 256 → IsSaidSo (with_operands n true (operands_of (wide_form_at n) (row_at n) words))
unfolding form_of
wider_so n words h = with_operands_so n true (operands_of (wide_form_at n) (row_at n) words) (λ all e. (h, row_at n, words, e))

wide_so : (words : List (List ℕ)) → IsSaidSo (wide_instruction words)
unfolding wide_instruction
wide_so [] = tt
wide_so (word ∷ words) =
    elim (opcode_named word) as (λ o. IsSo (λ n. n < 256) o → IsSaidSo (elim o [ None ↦ None | Some n ↦ with_operands n true (operands_of (wide_form_at n) (row_at n) words) ])) [
      | None ↦ λ h. tt
      | Some n ↦ λ h. wider_so n words h
    ] (named_small word)

-- ---- lines that are no instructions

class_so : (words : List (List ℕ)) → IsSaidSo (class_line words)
unfolding class_line
class_so (flags ∷ name ∷ super ∷ []) =
    so_if IsSaidLine (is_name name && is_name super) (option_map (λ f. line.Class f name super) (flags_of flags)) None
    (so_mapped (λ (n : ℕ). Unit {0}) IsSaidLine (λ f. line.Class f name super) (flags_of flags) (λ f u. tt) (so_any (flags_of flags))) tt
class_so _ = tt

implements_so : (words : List (List ℕ)) → IsSaidSo (implements_line words)
unfolding implements_line
implements_so (name ∷ []) = so_if IsSaidLine (is_name name) (Some (line.Implements name)) None tt tt
implements_so _ = tt

field_so : (words : List (List ℕ)) → IsSaidSo (field_line words)
unfolding field_line
field_so (flags ∷ name ∷ descriptor ∷ []) =
    let m : Option Member = member_of (is_some (field_type_of descriptor)) flags name descriptor in
    so_mapped (λ (m : Member). Unit {0}) IsSaidLine line.Field m (λ m u. tt) (so_any m)
field_so _ = tt

abstract_so : (words : List (List ℕ)) → IsSaidSo (abstract_line words)
unfolding abstract_line
abstract_so (flags ∷ name ∷ descriptor ∷ []) =
    let m : Option Member = member_of (is_some (method_type_of descriptor)) flags name descriptor in
    so_mapped (λ (m : Member). Unit {0}) IsSaidLine line.Abstract m (λ m u. tt) (so_any m)
abstract_so _ = tt

method_with_so : (o : Option Member) (stack locals : Option ℕ) → IsSaidSo (method_with o stack locals)
unfolding method_with
method_with_so None stack locals = tt
method_with_so (Some m) None locals = tt
method_with_so (Some m) (Some s) None = tt
method_with_so (Some m) (Some s) (Some l) = tt

method_so : (words : List (List ℕ)) → IsSaidSo (method_line words)
unfolding method_line
method_so (flags ∷ name ∷ descriptor ∷ stack ∷ locals ∷ []) =
    method_with_so (member_of (is_some (method_type_of descriptor)) flags name descriptor) (slots stack) (slots locals)
method_so _ = tt

catch_so : (words : List (List ℕ)) → IsSaidSo (catch_line words)
unfolding catch_line
catch_so (start ∷ end ∷ handler ∷ class ∷ []) = so_if IsSaidLine (list_all is_name (start ∷ end ∷ handler ∷ class ∷ [])) _ None tt tt
catch_so _ = tt

end_so : (words : List (List ℕ)) → IsSaidSo (end_line words)
unfolding end_line
end_so [] = tt
end_so (word ∷ words) = tt

label_so : (name : List ℕ) (words : List (List ℕ)) → IsSaidSo (label_line name words)
unfolding label_line
label_so name [] = tt
label_so name (word ∷ words) = tt

-- ---- lines

fitting_so : (ends : Bool) (o : Option Line) → IsSaidSo o → IsSaidLine (fitting ends o)
unfolding fitting
fitting_so ends None h = tt
fitting_so ends (Some l) h = h

line_if : (b : Bool) (l m : Line) → IsSaidLine l → IsSaidLine m → IsSaidLine (if b then l else m)
line_if true l m h k = h
line_if false l m h k = k

body_so : (word : List ℕ) (words : List (List ℕ)) → IsSaidLine (body_line word words)
unfolding body_line
body_so word words = labelled (label_of word) where
  named : (o : Option ℕ) → IsSo (λ n. n < 256) o
      → IsSaidLine (elim o [ None ↦ line.Faulty fault.Word false | Some n ↦ fitting false (with_operands n false (operands_of (form_at n) (row_at n) words)) ])
  named None h = tt
  named (Some n) h = fitting_so false (with_operands n false (operands_of (form_at n) (row_at n) words)) (plain_so n words h)

  labelled : (o : Option (List ℕ)) → IsSaidLine (elim o [
    | Some name ↦ fitting false (label_line name words)
    | None ↦ elim (opcode_named word) [ None ↦ line.Faulty fault.Word false | Some n ↦ fitting false (with_operands n false (operands_of (form_at n) (row_at n) words)) ]
  ])
  labelled None = named (opcode_named word) (named_small word)
  labelled (Some name) = fitting_so false (label_line name words) (label_so name words)

worded_so : (word : List ℕ) (words : List (List ℕ)) → IsSaidLine (worded_line word words)
unfolding worded_line
worded_so word words =
    line_if (bytes_eq word (codes "class")) (fitting false (class_line words)) _ (fitting_so false (class_line words) (class_so words))
    (line_if (bytes_eq word (codes "implements")) (fitting false (implements_line words)) _ (fitting_so false (implements_line words) (implements_so words))
    (line_if (bytes_eq word (codes "field")) (fitting false (field_line words)) _ (fitting_so false (field_line words) (field_so words))
    (line_if (bytes_eq word (codes "abstract")) (fitting false (abstract_line words)) _ (fitting_so false (abstract_line words) (abstract_so words))
    (line_if (bytes_eq word (codes "method")) (fitting false (method_line words)) _ (fitting_so false (method_line words) (method_so words))
    (line_if (bytes_eq word (codes "catch")) (fitting false (catch_line words)) _ (fitting_so false (catch_line words) (catch_so words))
    (line_if (bytes_eq word (codes "end")) (fitting true (end_line words)) _ (fitting_so true (end_line words) (end_so words))
    (line_if (bytes_eq word (codes "wide")) (fitting false (wide_instruction words)) (body_line word words) (fitting_so false (wide_instruction words) (wide_so words)) (body_so word words))))))))

line_so : (words : List (List ℕ)) → IsSaidLine (line_of_words words)
unfolding line_of_words
line_so [] = tt
line_so ([] ∷ []) = tt
line_so ([] ∷ word ∷ words) = tt
line_so ((u ∷ units) ∷ words) = line_if (u == 0x23) line.Skipped (worded_line (u ∷ units) words) tt (worded_so (u ∷ units) words)

meaning_so : (bytes : List ℕ) → IsSaidLine (meaning bytes)
unfolding meaning
meaning_so bytes = read (units_of bytes) where
  read : (o : Option (List ℕ)) → IsSaidLine (elim o [ None ↦ line.Faulty fault.Word false | Some units ↦ line_of_words (words_of units) ])
  read None = tt
  read (Some units) = line_so (words_of units)

all_so : (lines : List (List ℕ)) → AllByRecursion IsSaidLine (map meaning lines)
all_so [] = tt
all_so (bytes ∷ lines) = (meaning_so bytes, all_so lines)

pub meanings_said : (text : List ℕ) → AllByRecursion IsSaidLine (meanings text)
unfolding meanings
meanings_said text = all_so (lines_of text)
