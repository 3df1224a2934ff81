-- The code that is assembled for a body is the body's instructions, and it is code but for labels at its end and for entries of its table that end before they start.
use Rattle.std.specs.Prelude.{◌≡◌, ℕ, Bool, true, ◌&&◌, List, ◌∷◌, ◌++◌, flat_map, length, reverse, nat_lt}
use Rattle.std.specs.List.{list_all}
use Rattle.class_grammar.specs.CodeGrammar.{IsCode, IsSpelledBy}
use Rattle.asm_constants.specs.declared.content.Content.{Content}
use Rattle.asm_lines.specs.Lines.{meanings}
use Rattle.asm_lines.specs.declared.line.Line.{Line}
use Rattle.asm_lines.specs.declared.line.Line.TheVariants as line
use Rattle.asm_lines.specs.declared.line.Member.{Member}
use Rattle.asm_bodies.specs.Bodies.{Mark, body_of, marks_of}
use Rattle.asm_bodies.specs.Needs.{pool_of}
use Rattle.asm_bytes.specs.Files.{code_from, pc_of}
use Rattle.asm_checks.specs.Faults.{used_labels}
use Rattle.asm_code_laws.specs.Written.{instrs_from, line_ranges}
use Rattle.class_asm.specs.Assembly.{IsAssembled}

-- whether a label is that of an instruction in code of that length, and not of the code's end
unfoldable pub is_inside_code : List Mark → ℕ → List ℕ → Bool
is_inside_code marks size label = nat_lt (pc_of marks label) size

-- whether a line aims at instructions alone: the end of a catch may be the code's end, but it is behind the catch's start
unfoldable pub aims_well : List Mark → ℕ → Line → Bool
aims_well marks size (line.Catch c) =
    is_inside_code marks size c.start && is_inside_code marks size c.handler && nat_lt (pc_of marks c.start) (pc_of marks c.end)
aims_well marks size l = list_all (is_inside_code marks size) (used_labels l)

-- the text has a method whose first line has those behind it
abbrev pub HasMethod : List ℕ → List Line → Type 0
HasMethod text after =
    (before : List Line) × (m : Member) × (max_stack : ℕ) × (max_locals : ℕ) × (meanings text ≡ before ++ line.Method m max_stack max_locals ∷ after)

-- the constants of a text
abbrev pub text_pool : List ℕ → List Content
text_pool text = pool_of (reverse (meanings text))

-- the code of a body in a text, and its instructions
abbrev pub written_code : List ℕ → List Line → List ℕ
written_code text body = code_from (text_pool text) (marks_of body) 0 body

-- the code of each method is its instructions, one behind the other
abbrev pub IsReadAsWritten : Type 0
IsReadAsWritten =
    (text bytes : List ℕ) (after : List Line) → IsAssembled text bytes → HasMethod text after
    → IsSpelledBy (written_code text (body_of after)) (instrs_from (text_pool text) (marks_of (body_of after)) 0 (body_of after))

-- and it is code with its exception table, where its lines aim well
abbrev pub IsCodeAsWritten : Type 0
IsCodeAsWritten =
    (text bytes : List ℕ) (after : List Line) → IsAssembled text bytes → HasMethod text after
    → list_all (aims_well (marks_of (body_of after)) (length (written_code text (body_of after)))) (body_of after) ≡ true
    → IsCode (written_code text (body_of after)) (flat_map (line_ranges (text_pool text) (marks_of (body_of after))) (body_of after))
    (instrs_from (text_pool text) (marks_of (body_of after)) 0 (body_of after))
