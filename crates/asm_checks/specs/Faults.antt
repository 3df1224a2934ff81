-- The first line that is faulty where it stands, and its fault.
use Rattle.std.specs.Prelude.{ℕ, ◌+◌, Bool, true, false, ◌||◌, not, if◌then◌else◌, List, [], ◌∷◌, length, flat_map, Option, Some, None, is_some, nat_le, nat_lt, ◌==◌}
use Rattle.std.specs.List.{list_any, list_all}
use Rattle.asm_constants.specs.declared.content.Content.{Content}
use Rattle.asm_constants.specs.Pools.{index_of, fits}
use Rattle.asm_lines.specs.declared.line.AsmKind.{AsmKind}
use Rattle.asm_lines.specs.declared.line.AsmKind.TheVariants as kind
use Rattle.asm_lines.specs.declared.line.Line.{Line}
use Rattle.asm_lines.specs.declared.line.Line.TheVariants as line
use Rattle.asm_lines.specs.declared.line.Operand.{Operand}
use Rattle.asm_lines.specs.declared.line.Operand.TheVariants as operand
use Rattle.asm_checks.specs.declared.counts.Counts.{Counts}
use Rattle.asm_bodies.specs.Needs.{pool_of, instruction_length}
use Rattle.asm_bodies.specs.Bodies.{open_body, body_of, has_label, pc_behind}
use Rattle.asm_bodies.specs.Lines.{is_class, is_implements, is_field, is_method, is_step, is_catch, is_member, count_of}

-- ---- operands: constants whose index is above what a byte says

unfoldable pub is_index_over : List Content → Operand → Bool
is_index_over pool (operand.ByteIndex c) = nat_lt 255 (index_of pool c)
is_index_over pool _ = false

unfoldable pub has_index_over : List Content → Line → Bool
has_index_over pool (line.Instruction i) = list_any (is_index_over pool) i.operands
has_index_over pool _ = false

-- ---- labels

unfoldable pub target_labels : Operand → List (List ℕ)
target_labels (operand.Target label) = label ∷ []
target_labels (operand.FarTarget label) = label ∷ []
target_labels _ = []

-- the labels that a line uses
unfoldable pub used_labels : Line → List (List ℕ)
used_labels (line.Instruction i) = flat_map target_labels i.operands
used_labels (line.Catch c) = c.start ∷ c.end ∷ c.handler ∷ []
used_labels _ = []

-- whether a label stands in an open body, or ahead, up to its end
unfoldable pub stands_in : Option (List Line) → List Line → List ℕ → Bool
stands_in None after label = false
stands_in (Some body) after label = has_label label body || has_label label (body_of after)

-- whether a label stands in the body that is open behind those lines and before the others
unfoldable pub is_there : List Line → List Line → List ℕ → Bool
is_there past after label = stands_in (open_body past) after label

-- whether the line uses a label that isn't there
unfoldable pub is_lost : List Line → Line → List Line → Bool
is_lost past l after = not (list_all (is_there past after) (used_labels l))

-- the lines of an open body, and none where none is open
unfoldable pub lines_in : Option (List Line) → List Line
lines_in None = []
lines_in (Some body) = body

-- the lines of the body that is open behind those
unfoldable pub body_behind : List Line → List Line
body_behind past = lines_in (open_body past)

-- whether the line is a label that the open body has
unfoldable pub is_twice : List Line → Line → Bool
is_twice past (line.Label name) = has_label name (body_behind past)
is_twice past _ = false

-- ---- places

unfoldable pub is_skipped : Line → Bool
is_skipped line.Skipped = true
is_skipped _ = false

-- the last line that isn't skipped
unfoldable pub last_said : List Line → Option Line
last_said [] = None
last_said (l ∷ past) = if is_skipped l then last_said past else Some l

-- whether the line stands inside a body
unfoldable pub is_inside : Line → Bool
is_inside l = is_method l || is_step l || is_catch l

-- which lines a line may stand behind
unfoldable pub may_follow : Line → Line → Bool
may_follow l (line.Implements name) = is_class l || is_implements l
may_follow l (line.Field m) = is_class l || is_implements l || is_field l
may_follow l (line.Abstract m) = not (is_inside l)
may_follow l (line.Method m max_stack max_locals) = not (is_inside l)
may_follow l (line.Label name) = is_method l || is_step l
may_follow l (line.Instruction i) = is_method l || is_step l
may_follow l (line.Catch c) = is_inside l
may_follow l line.End = is_inside l
may_follow l _ = false

-- whether a line may come next behind the last one that isn't skipped; the class stands first
unfoldable pub may_come_next : Option Line → Line → Bool
may_come_next None l = is_class l
may_come_next (Some before) l = may_follow before l

-- whether the line may stand behind those; one that is skipped may stand anywhere
unfoldable pub is_in_place : List Line → Line → Bool
is_in_place past l = is_skipped l || may_come_next (last_said past) l

-- whether nothing needs to come behind the last line that isn't skipped
unfoldable pub is_complete : Option Line → Bool
is_complete None = false
is_complete (Some l) = not (is_inside l)

-- whether the text may end behind those lines
unfoldable pub may_end : List Line → Bool
may_end past = is_complete (last_said past)

-- ---- limits

-- the pc behind those lines and the catches of the body that is open there, and how many interfaces, fields and members there are
unfoldable pub counts_after : List Line → Counts
counts_after past = record {
  pc = pc_behind 0 (body_behind past);
  catches = count_of is_catch (body_behind past);
  interfaces = count_of is_implements past;
  fields = count_of is_field past;
  members = count_of is_member past;
}

-- whether a line behind so many goes past a limit: one interface, field, member or catch too many, code of more than 65,535 bytes, or the end of a body without code
unfoldable pub is_too_much : Counts → Line → Bool
is_too_much counts (line.Implements name) = not (nat_lt counts.interfaces 65535)
is_too_much counts (line.Field m) = not (nat_lt counts.fields 65535)
is_too_much counts (line.Abstract m) = not (nat_lt counts.members 65535)
is_too_much counts (line.Method m max_stack max_locals) = not (nat_lt counts.members 65535)
is_too_much counts (line.Instruction i) = not (nat_le (counts.pc + instruction_length counts.pc i) 65535)
is_too_much counts (line.Catch c) = not (nat_lt counts.catches 65535)
is_too_much counts line.End = counts.pc == 0
is_too_much counts _ = false

-- or a limit of the constants
unfoldable pub is_over : List Line → Line → Bool
is_over past l = not (fits (pool_of (l ∷ past))) || is_too_much (counts_after past) l

-- ---- the first fault

-- the fault of a line of its own
unfoldable pub own_fault : Line → Option AsmKind
own_fault (line.Faulty kind e) = Some kind
own_fault _ = None

-- the fault of a line behind those, the latest one first, and before the others, by the order of the kinds
unfoldable pub kind_at : List Line → Line → List Line → Option AsmKind
kind_at past l after =
    if is_some (own_fault l) then own_fault l
    else if has_index_over (pool_of (l ∷ past)) l then Some kind.Operand
    else if is_lost past l after then Some kind.Label
    else if is_twice past l then Some kind.Twice
    else if not (is_in_place past l) then Some kind.Place
    else if is_over past l then Some kind.Limit else None

-- the fault of a text that ends behind those lines
unfoldable pub end_fault : List Line → Option AsmKind
end_fault past = if may_end past then None else Some kind.Place

-- a fault of that kind behind so many lines, or else a later one
unfoldable pub fault_or : ℕ → Option AsmKind → Option (ℕ × AsmKind) → Option (ℕ × AsmKind)
fault_or before None later = later
fault_or before (Some kind) later = Some (before, kind)

-- the place of the first line that has a fault where it stands, and its kind; the place behind the last one is that of the text's end
unfoldable pub first_fault : List Line → List Line → Option (ℕ × AsmKind)
first_fault past [] = fault_or (length past) (end_fault past) None
first_fault past (l ∷ after) = fault_or (length past) (kind_at past l after) (first_fault (l ∷ past) after)
