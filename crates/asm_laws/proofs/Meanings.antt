-- What the lines of a text mean is in range.
use Rattle.std.proofs.Common.{ℕ, ◌^◌, ◌<◌, List, [], ◌∷◌, Bool, true, false, Some, None, Option, map}
use Rattle.std.specs.Prelude.{◌&&◌, ◌==◌, option_map, if◌then◌else◌, codes, is_some}
use Rattle.std.specs.List.{list_all, AllByRecursion}
use Rattle.std.specs.Str.{bytes_eq}
use Rattle.class_grammar.specs.Descriptors.{field_type_of, method_type_of}
use Rattle.class_grammar.specs.Opcodes.{form_at, row_at, wide_form_at}
use Rattle.asm_words.specs.Numbers.{flags_of}
use Rattle.asm_words.specs.Words.{lines_of, units_of, words_of}
use Rattle.asm_lines.specs.declared.line.AsmKind.TheVariants as kind
use Rattle.asm_lines.specs.declared.line.Line.{Line}
use Rattle.asm_lines.specs.declared.line.Line.TheVariants as line
use Rattle.asm_lines.specs.declared.line.Member.{Member}
use Rattle.asm_lines.specs.declared.line.Operand.{Operand}
use Rattle.asm_lines.specs.Lines.{opcode_named, with_operands, wide_instruction, class_line, implements_line, member_of, field_line, abstract_line, slots, method_with, method_line, catch_line, end_line, label_of, label_line, fitting, body_line, worded_line, line_of_words, meaning, meanings}
use Rattle.asm_lines.specs.Operands.{is_name, operands_of}
use Rattle.asm_laws.specs.Tables.{AreUnits}
use Rattle.asm_laws.proofs.Operands.{AreSo, operands_so}
use Rattle.asm_laws.proofs.Ranges.{IsRangedMember, IsRangedClass, IsRangedLine}
use Rattle.asm_laws.proofs.Readable.{IsSo, so_if, so_mapped, AreWords, line_units, line_words, flags_so}

abbrev IsLine : Option Line → Type 0
IsLine o = IsSo IsRangedLine o

-- ---- instructions

with_operands_so : (opcode : ℕ) (wide : Bool) (operands : Option (List Operand)) → AreSo operands → IsLine (with_operands opcode wide operands)
unfolding with_operands
with_operands_so opcode wide None h = tt
with_operands_so opcode wide (Some all) h = h

wide_so : (words : List (List ℕ)) → AreWords words → IsLine (wide_instruction words)
unfolding wide_instruction
wide_so [] h = tt
wide_so (word ∷ words) h =
    elim (opcode_named word) as (λ o. IsLine (elim o [ None ↦ None | Some n ↦ with_operands n true (operands_of (wide_form_at n) (row_at n) words) ])) [
      | None ↦ tt
      | Some n ↦ with_operands_so n true (operands_of (wide_form_at n) (row_at n) words) (operands_so (wide_form_at n) (row_at n) words h.1)
    ]

-- ---- parts of a class

class_so : (words : List (List ℕ)) → AreWords words → IsLine (class_line words)
unfolding class_line
class_so (flags ∷ name ∷ super ∷ []) h =
    so_if IsRangedLine (is_name name && is_name super) (option_map (λ f. line.Class f name super) (flags_of flags)) None
    (so_mapped (λ n. n < 2 ^ 16) IsRangedLine (λ f. line.Class f name super) (flags_of flags) (λ f k. (k, h.1.0, h.1.1.0)) (flags_so flags)) tt
class_so _ h = tt

implements_so : (words : List (List ℕ)) → AreWords words → IsLine (implements_line words)
unfolding implements_line
implements_so (name ∷ []) h = so_if IsRangedLine (is_name name) (Some (line.Implements name)) None h.0 tt
implements_so _ h = tt

member_so : (described : Bool) (flags name descriptor : List ℕ) → AreUnits name → AreUnits descriptor → IsSo IsRangedMember (member_of described flags name descriptor)
unfolding member_of
member_so described flags name descriptor n d =
    so_if IsRangedMember (is_name name && described) (option_map (λ f. record { flags = f; name = name; descriptor = descriptor }) (flags_of flags)) None
    (so_mapped (λ n. n < 2 ^ 16) IsRangedMember (λ f. record { flags = f; name = name; descriptor = descriptor }) (flags_of flags)
    (λ f k. record { flags = k; name = n; descriptor = d }) (flags_so flags)) tt

field_so : (words : List (List ℕ)) → AreWords words → IsLine (field_line words)
unfolding field_line
field_so (flags ∷ name ∷ descriptor ∷ []) h =
    so_mapped IsRangedMember IsRangedLine line.Field (member_of (is_some (field_type_of descriptor)) flags name descriptor) (λ m k. k)
    (member_so (is_some (field_type_of descriptor)) flags name descriptor h.1.0 h.1.1.0)
field_so _ h = tt

abstract_so : (words : List (List ℕ)) → AreWords words → IsLine (abstract_line words)
unfolding abstract_line
abstract_so (flags ∷ name ∷ descriptor ∷ []) h =
    so_mapped IsRangedMember IsRangedLine line.Abstract (member_of (is_some (method_type_of descriptor)) flags name descriptor) (λ m k. k)
    (member_so (is_some (method_type_of descriptor)) flags name descriptor h.1.0 h.1.1.0)
abstract_so _ h = tt

method_with_so : (o : Option Member) (stack locals : Option ℕ) → IsSo IsRangedMember o → IsLine (method_with o stack locals)
unfolding method_with
method_with_so None stack locals h = tt
method_with_so (Some m) None locals h = tt
method_with_so (Some m) (Some s) None h = tt
method_with_so (Some m) (Some s) (Some l) h = h

method_so : (words : List (List ℕ)) → AreWords words → IsLine (method_line words)
unfolding method_line
method_so (flags ∷ name ∷ descriptor ∷ stack ∷ locals ∷ []) h =
    method_with_so (member_of (is_some (method_type_of descriptor)) flags name descriptor) (slots stack) (slots locals)
    (member_so (is_some (method_type_of descriptor)) flags name descriptor h.1.0 h.1.1.0)
method_so _ h = tt

caught_so : (class : List ℕ) (b : Bool) → AreUnits class → IsRangedClass (if b then None else Some class)
caught_so class true h = tt
caught_so class false h = h

catch_so : (words : List (List ℕ)) → AreWords words → IsLine (catch_line words)
unfolding catch_line
catch_so (start ∷ end ∷ handler ∷ class ∷ []) h =
    so_if IsRangedLine (list_all is_name (start ∷ end ∷ handler ∷ class ∷ [])) _ None (caught_so class (bytes_eq class (codes "any")) h.1.1.1.0) tt
catch_so _ h = tt

end_so : (words : List (List ℕ)) → IsLine (end_line words)
unfolding end_line
end_so [] = tt
end_so (word ∷ words) = tt

-- ---- lines

label_so : (name : List ℕ) (words : List (List ℕ)) → IsLine (label_line name words)
unfolding label_line
label_so name [] = tt
label_so name (word ∷ words) = tt

fitting_so : (ends : Bool) (o : Option Line) → IsLine o → IsRangedLine (fitting ends o)
unfolding fitting
fitting_so ends None h = tt
fitting_so ends (Some l) h = h

line_if : (b : Bool) (l m : Line) → IsRangedLine l → IsRangedLine m → IsRangedLine (if b then l else m)
line_if true l m h k = h
line_if false l m h k = k

body_so : (word : List ℕ) (words : List (List ℕ)) → AreWords words → IsRangedLine (body_line word words)
unfolding body_line
body_so word words h = labelled (label_of word) where
  named : (o : Option ℕ)
      → IsRangedLine (elim o [ None ↦ line.Faulty kind.Word false | Some n ↦ fitting false (with_operands n false (operands_of (form_at n) (row_at n) words)) ])
  named None = tt
  named (Some n) =
      fitting_so false (with_operands n false (operands_of (form_at n) (row_at n) words))
      (with_operands_so n false (operands_of (form_at n) (row_at n) words) (operands_so (form_at n) (row_at n) words h))

  labelled : (o : Option (List ℕ)) → IsRangedLine (elim o [
    | Some name ↦ fitting false (label_line name words)
    | None ↦ elim (opcode_named word) [ None ↦ line.Faulty kind.Word false | Some n ↦ fitting false (with_operands n false (operands_of (form_at n) (row_at n) words)) ]
  ])
  labelled None = named (opcode_named word)
  labelled (Some name) = fitting_so false (label_line name words) (label_so name words)

worded_so : (word : List ℕ) (words : List (List ℕ)) → AreWords words → IsRangedLine (worded_line word words)
unfolding worded_line
worded_so word words h =
    line_if (bytes_eq word (codes "class")) (fitting false (class_line words)) _ (fitting_so false (class_line words) (class_so words h))
    (line_if (bytes_eq word (codes "implements")) (fitting false (implements_line words)) _ (fitting_so false (implements_line words) (implements_so words h))
    (line_if (bytes_eq word (codes "field")) (fitting false (field_line words)) _ (fitting_so false (field_line words) (field_so words h))
    (line_if (bytes_eq word (codes "abstract")) (fitting false (abstract_line words)) _ (fitting_so false (abstract_line words) (abstract_so words h))
    (line_if (bytes_eq word (codes "method")) (fitting false (method_line words)) _ (fitting_so false (method_line words) (method_so words h))
    (line_if (bytes_eq word (codes "catch")) (fitting false (catch_line words)) _ (fitting_so false (catch_line words) (catch_so words h))
    (line_if (bytes_eq word (codes "end")) (fitting true (end_line words)) _ (fitting_so true (end_line words) (end_so words))
    (line_if (bytes_eq word (codes "wide")) (fitting false (wide_instruction words)) (body_line word words) (fitting_so false (wide_instruction words) (wide_so words h)) (body_so word words h))))))))

line_so : (words : List (List ℕ)) → AreWords words → IsRangedLine (line_of_words words)
unfolding line_of_words
line_so [] h = tt
line_so ([] ∷ []) h = tt
line_so ([] ∷ word ∷ words) h = tt
line_so ((u ∷ units) ∷ words) h = line_if (u == 0x23) line.Skipped (worded_line (u ∷ units) words) tt (worded_so (u ∷ units) words h.1)

meaning_so : (bytes : List ℕ) → IsRangedLine (meaning bytes)
unfolding meaning
meaning_so bytes = read (units_of bytes) (line_units bytes) where
  read : (o : Option (List ℕ)) → IsSo AreUnits o → IsRangedLine (elim o [ None ↦ line.Faulty kind.Word false | Some units ↦ line_of_words (words_of units) ])
  read None h = tt
  read (Some units) h = line_so (words_of units) (line_words units h)

all_so : (lines : List (List ℕ)) → AllByRecursion IsRangedLine (map meaning lines)
all_so [] = tt
all_so (bytes ∷ lines) = (meaning_so bytes, all_so lines)

pub meanings_ranged : (text : List ℕ) → AllByRecursion IsRangedLine (meanings text)
unfolding meanings
meanings_ranged text = all_so (lines_of text)
