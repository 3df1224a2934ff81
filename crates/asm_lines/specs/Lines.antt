-- What the lines of a text mean.
use Rattle.std.specs.Prelude.{ℕ, pos, Bool, true, false, ◌&&◌, if◌then◌else◌, map, List, [], ◌∷◌, Option, Some, None, option_map, is_some, codes, ◌==◌, position, unsigned_abs}
use Rattle.std.specs.List.{list_all}
use Rattle.std.specs.Str.{bytes_eq}
use Rattle.class_grammar.specs.Descriptors.{field_type_of, method_type_of}
use Rattle.class_grammar.specs.Opcodes.{opcodes, form_at, row_at, wide_form_at}
use Rattle.asm_words.specs.Words.{lines_of, units_of, words_of}
use Rattle.asm_words.specs.Numbers.{number_of, within, flags_of}
use Rattle.asm_lines.specs.declared.line.AsmKind.TheVariants as kind
use Rattle.asm_lines.specs.declared.line.Line.{Line}
use Rattle.asm_lines.specs.declared.line.Line.TheVariants as line
use Rattle.asm_lines.specs.declared.line.Member.{Member}
use Rattle.asm_lines.specs.Operands.{is_name, operands_of}
use Rattle.asm_lines.specs.declared.line.Operand.{Operand}

-- ---- instructions

-- the number of the opcode of that mnemonic
unfoldable pub opcode_named : List ℕ → Option ℕ
opcode_named [] = None
opcode_named (u ∷ units) = position (λ o. bytes_eq (u ∷ units) o.mnemonic) opcodes

-- an instruction with those operands
unfoldable pub with_operands : ℕ → Bool → Option (List Operand) → Option Line
with_operands opcode wide operands =
    option_map (λ all. line.Instruction (record { opcode = opcode; wide = wide; operands = all })) operands

-- what stands behind the word wide
unfoldable pub wide_instruction : List (List ℕ) → Option Line
wide_instruction [] = None
wide_instruction (word ∷ words) =
    elim (opcode_named word) [ None ↦ None | Some n ↦ with_operands n true (operands_of (wide_form_at n) (row_at n) words) ]

-- ---- parts of a class

unfoldable pub class_line : List (List ℕ) → Option Line
class_line (flags ∷ name ∷ super ∷ []) =
    if is_name name && is_name super then option_map (λ f. line.Class f name super) (flags_of flags) else None
class_line _ = None

unfoldable pub implements_line : List (List ℕ) → Option Line
implements_line (name ∷ []) = if is_name name then Some (line.Implements name) else None
implements_line _ = None

-- a member, where the descriptor is one
unfoldable pub member_of : Bool → List ℕ → List ℕ → List ℕ → Option Member
member_of described flags name descriptor =
    if is_name name && described then option_map (λ f. record { flags = f; name = name; descriptor = descriptor }) (flags_of flags) else None

unfoldable pub field_line : List (List ℕ) → Option Line
field_line (flags ∷ name ∷ descriptor ∷ []) = option_map line.Field (member_of (is_some (field_type_of descriptor)) flags name descriptor)
field_line _ = None

unfoldable pub abstract_line : List (List ℕ) → Option Line
abstract_line (flags ∷ name ∷ descriptor ∷ []) = option_map line.Abstract (member_of (is_some (method_type_of descriptor)) flags name descriptor)
abstract_line _ = None

-- a number of slots
unfoldable pub slots : List ℕ → Option ℕ
slots word = option_map unsigned_abs (within (pos 0) (pos 65535) (number_of word))

unfoldable pub method_with : Option Member → Option ℕ → Option ℕ → Option Line
method_with None stack locals = None
method_with (Some m) None locals = None
method_with (Some m) (Some s) locals = option_map (λ l. line.Method m s l) locals

unfoldable pub method_line : List (List ℕ) → Option Line
method_line (flags ∷ name ∷ descriptor ∷ stack ∷ locals ∷ []) =
    method_with (member_of (is_some (method_type_of descriptor)) flags name descriptor) (slots stack) (slots locals)
method_line _ = None

-- the class any stands for all
unfoldable pub catch_line : List (List ℕ) → Option Line
catch_line (start ∷ end ∷ handler ∷ class ∷ []) =
    if list_all is_name (start ∷ end ∷ handler ∷ class ∷ [])
    then Some (line.Catch (record { start = start; end = end; handler = handler; class = if bytes_eq class (codes "any") then None else Some class })) else None
catch_line _ = None

unfoldable pub end_line : List (List ℕ) → Option Line
end_line [] = Some line.End
end_line (word ∷ words) = None

-- ---- lines

-- the word but for the colon at its end, where something stands in front of one
unfoldable pub label_of : List ℕ → Option (List ℕ)
label_of [] = None
label_of (u ∷ []) = None
label_of (u ∷ v ∷ []) = if v == 0x3a then Some (u ∷ []) else None
label_of (u ∷ v ∷ w ∷ units) = option_map (λ name. u ∷ name) (label_of (v ∷ w ∷ units))

unfoldable pub label_line : List ℕ → List (List ℕ) → Option Line
label_line name [] = Some (line.Label name)
label_line name (word ∷ words) = None

-- a line whose first word is known, where the others fit it
unfoldable pub fitting : Bool → Option Line → Line
fitting ends None = line.Faulty kind.Operand ends
fitting ends (Some l) = l

-- a line that begins with a label or a mnemonic
unfoldable pub body_line : List ℕ → List (List ℕ) → Line
body_line word words =
    elim (label_of word) [
      | Some name ↦ fitting false (label_line name words)
      | None ↦ elim (opcode_named word) [
        | None ↦ line.Faulty kind.Word false
        | Some n ↦ fitting false (with_operands n false (operands_of (form_at n) (row_at n) words))
      ]
    ]

-- a line that begins with that word
unfoldable pub worded_line : List ℕ → List (List ℕ) → Line
worded_line word words =
    if bytes_eq word (codes "class") then fitting false (class_line words)
    else if bytes_eq word (codes "implements") then fitting false (implements_line words)
    else if bytes_eq word (codes "field") then fitting false (field_line words)
    else if bytes_eq word (codes "abstract") then fitting false (abstract_line words)
    else if bytes_eq word (codes "method") then fitting false (method_line words)
    else if bytes_eq word (codes "catch") then fitting false (catch_line words)
    else if bytes_eq word (codes "end") then fitting true (end_line words)
    else if bytes_eq word (codes "wide") then fitting false (wide_instruction words)
    else body_line word words

-- what a line of those words means; an empty line and a comment are skipped
unfoldable pub line_of_words : List (List ℕ) → Line
line_of_words [] = line.Skipped
line_of_words ([] ∷ []) = line.Skipped
line_of_words ([] ∷ word ∷ words) = line.Faulty kind.Word false
line_of_words ((u ∷ units) ∷ words) = if u == 0x23 then line.Skipped else worded_line (u ∷ units) words

-- what a line means
unfoldable pub meaning : List ℕ → Line
meaning bytes = elim (units_of bytes) [ None ↦ line.Faulty kind.Word false | Some units ↦ line_of_words (words_of units) ]

-- what the lines of a text mean
unfoldable pub meanings : List ℕ → List Line
meanings text = map meaning (lines_of text)
