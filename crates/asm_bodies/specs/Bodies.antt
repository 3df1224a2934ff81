-- The bodies of methods: which lines are in one, where its labels stand, and which of its branches are too far.
use Rattle.std.specs.Option.{option_or}
use Rattle.std.specs.Prelude.{ℕ, suc, ◌+◌, Bool, true, false, ◌&&◌, not, if◌then◌else◌, List, [], ◌∷◌, ◌++◌, Option, Some, None, option_map, nat_le}
use Rattle.std.specs.List.{list_any}
use Rattle.std.specs.Str.{bytes_eq}
use Rattle.asm_lines.specs.declared.line.Line.{Line}
use Rattle.asm_lines.specs.declared.line.Line.TheVariants as line
use Rattle.asm_lines.specs.declared.line.Operand.{Operand}
use Rattle.asm_lines.specs.declared.line.Operand.TheVariants as operand
use Rattle.asm_bodies.specs.Lines.{is_method}
use Rattle.asm_bodies.specs.Needs.{line_length}

-- ---- which lines are in a body

-- whether a body goes on behind the line
unfoldable pub goes_on : Line → Bool
goes_on line.Skipped = true
goes_on (line.Label name) = true
goes_on (line.Instruction i) = true
goes_on (line.Catch c) = true
goes_on _ = false

-- the lines of the body that is open behind those lines, the latest one first; none where no body is open
unfoldable pub open_body : List Line → Option (List Line)
open_body [] = None
open_body (l ∷ past) =
    if is_method l then Some [] else if goes_on l then option_map (λ body. body ++ l ∷ []) (open_body past) else None

-- whether the first word of the line is `end`
unfoldable pub ends : Line → Bool
ends line.End = true
ends (line.Faulty kind e) = e
ends _ = false

-- the lines up to the next one whose first word is `end`, or up to the last one
unfoldable pub body_of : List Line → List Line
body_of [] = []
body_of (l ∷ lines) = if ends l then [] else l ∷ body_of lines

-- ---- labels

unfoldable pub is_label : List ℕ → Line → Bool
is_label name (line.Label other) = bytes_eq name other
is_label name _ = false

unfoldable pub has_label : List ℕ → List Line → Bool
has_label name lines = list_any (is_label name) lines

-- the pc behind lines of a body, which begin at that pc
unfoldable pub pc_behind : ℕ → List Line → ℕ
pc_behind pc [] = pc
pc_behind pc (l ∷ lines) = pc_behind (pc + line_length pc l) lines

-- a label and its pc
pub record Mark : Type 0 where
  pub name : List ℕ
  pub pc : ℕ

-- the labels among lines of a body, which begin at that pc
unfoldable pub line_marks : ℕ → Line → List Mark
line_marks pc (line.Label name) = record { name = name; pc = pc } ∷ []
line_marks pc _ = []

unfoldable pub marks_from : ℕ → List Line → List Mark
marks_from pc [] = []
marks_from pc (l ∷ lines) = line_marks pc l ++ marks_from (pc + line_length pc l) lines

-- the labels of a body
unfoldable pub marks_of : List Line → List Mark
marks_of body = marks_from 0 body

-- the pc of a label, if it is there
unfoldable pub mark_of : List Mark → List ℕ → Option ℕ
mark_of [] name = None
mark_of (m ∷ marks) name = if bytes_eq name m.name then Some m.pc else mark_of marks name

-- ---- distances

-- whether two bytes say the distance from the instruction at pc
unfoldable pub is_near : ℕ → ℕ → Bool
is_near pc to = nat_le pc (to + 32768) && nat_le to (pc + 32767)

-- whether a label is too far from the instruction at pc for an operand of two bytes
unfoldable pub is_far_operand : List Mark → ℕ → Operand → Bool
is_far_operand marks pc (operand.Target label) = elim (mark_of marks label) [ None ↦ false | Some to ↦ not (is_near pc to) ]
is_far_operand marks pc _ = false

unfoldable pub is_far : List Mark → ℕ → Line → Bool
is_far marks pc (line.Instruction i) = list_any (is_far_operand marks pc) i.operands
is_far marks pc _ = false

-- the place of the first line that is too far from a label, among lines of a body that begin at that pc
unfoldable pub first_far_from : List Mark → ℕ → List Line → Option ℕ
first_far_from marks pc [] = None
first_far_from marks pc (l ∷ lines) = if is_far marks pc l then Some 0 else option_map suc (first_far_from marks (pc + line_length pc l) lines)

-- the place of the first line of a body that is too far from one of its labels
unfoldable pub first_far_in : List Line → Option ℕ
first_far_in body = first_far_from (marks_of body) 0 body

-- the place of the first line that is too far from a label of its body
unfoldable pub first_far : List Line → Option ℕ
first_far [] = None
first_far (l ∷ lines) =
    option_map suc (if is_method l then option_or (first_far_in (body_of lines)) (first_far lines) else first_far lines)
