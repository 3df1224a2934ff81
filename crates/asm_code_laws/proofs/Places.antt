-- Where labels stand: at the start of an instruction, or at the code's end.
use Rattle.std.proofs.Common.{◌≡◌, refl, sym, ap, subst, ℕ, ◌+◌, ◌≤◌, ◌<◌, List, [], ◌∷◌, ◌++◌, Bool, true, false, Some, None, length, length-append, ◌⊎◌, inl, inr, arith}
use Rattle.std.specs.Prelude.{pos, not, ◌&&◌, ◌||◌, ◌==◌, nat_lt, if◌then◌else◌, flat_map, unwrap_or, find}
use Rattle.std.specs.List.{list_all, AllByRecursion}
use Rattle.std.specs.Ordering.{int_eq}
use Rattle.std.specs.Str.{bytes_eq}
use Rattle.std.proofs.lemmas.Bool.{and_parts, and_from, or_left, or_right, ltb-true}
use Rattle.std.proofs.lemmas.Bool.Decides.{nat_tests}
use Rattle.class_grammar.specs.CodeGrammar.{IsCode, starts_at, is_astray, first_astray, is_range_of, first_bad_range}
use Rattle.jx_base.specs.declared.class_file.Instr.{Instr}
use Rattle.asm_constants.specs.declared.content.Content.{Content}
use Rattle.asm_lines.specs.declared.line.Instruction.{Instruction}
use Rattle.asm_lines.specs.declared.line.Line.{Line}
use Rattle.asm_lines.specs.declared.line.Line.TheVariants as line
use Rattle.asm_bodies.specs.Bodies.{Mark, body_of, has_label, marks_of, marks_from, line_marks, mark_of}
use Rattle.asm_bodies.specs.Needs.{line_length, instruction_length}
use Rattle.asm_bytes.specs.Files.{instruction_bytes, line_bytes, code_from, pc_of}
use Rattle.asm_checks.specs.Faults.{target_labels, used_labels}
use Rattle.class_asm.specs.Assembly.{IsAssembled}
use Rattle.asm_code_laws.specs.CodeLaws.{is_inside_code, aims_well, HasMethod, text_pool, written_code}
use Rattle.asm_code_laws.specs.Written.{written_instr, line_instrs, instrs_from, line_ranges}
use Rattle.asm_code_laws.proofs.Aims.{instruction_aimed}
use Rattle.asm_code_laws.proofs.Bodies.{body_written, instruction_bytes_length, marked}
use Rattle.asm_code_laws.proofs.Faultless.{AreInBody}
use Rattle.asm_code_laws.proofs.Said.{IsSaidLine}

same_place : (n : ℕ) → int_eq (pos n) (pos n) ≡ true
same_place n = grind arith

-- ---- starts

module _ (pool : List Content) (marks : List Mark) (size : ℕ) where
  -- behind the instruction
  size_behind : (pc : ℕ) (i : Instruction) (next : List ℕ) → pc + length (instruction_bytes pool marks pc i ++ next) ≡ size → pc + instruction_length pc i + length next ≡ size
  size_behind pc i next e =
      let all : length (instruction_bytes pool marks pc i ++ next) ≡ length (instruction_bytes pool marks pc i) + length next = length-append (instruction_bytes pool marks pc i) next in
      let n : length (instruction_bytes pool marks pc i) ≡ instruction_length pc i = instruction_bytes_length pool marks pc i in omega arith

  no_change : (pc : ℕ) (lines : List Line) → pc + length (code_from pool marks (pc + 0) lines) ≡ size → pc + 0 + length (code_from pool marks (pc + 0) lines) ≡ size
  no_change pc lines e = omega arith

  nothing_more : (pc : ℕ) → pc + 0 ≡ pc
  nothing_more pc = omega arith

  -- where code goes on, an instruction starts
  first_starts : (pc : ℕ) (lines : List Line) → pc + length (code_from pool marks pc lines) ≡ size → pc < size → starts_at (instrs_from pool marks pc lines) (pos pc) ≡ true
  unfolding starts_at code_from line_bytes instrs_from line_instrs line_length written_instr
  first_starts pc [] e h = absurd (omega arith)
  first_starts pc (line.Instruction i ∷ lines) e h = or_left (int_eq (pos pc) (pos pc)) (starts_at (instrs_from pool marks (pc + instruction_length pc i) lines) (pos pc)) (same_place pc)
  first_starts pc (_ ∷ lines) e h =
      let same : pc + 0 ≡ pc = nothing_more pc in
      subst (λ place. starts_at (instrs_from pool marks (pc + 0) lines) (pos place) ≡ true) same (first_starts (pc + 0) lines (no_change pc lines e) (omega arith))

  -- where a label stands
  abbrev IsPlaced : List Instr → ℕ → Type 0
  IsPlaced instrs to = (to ≤ size) × (to < size → starts_at instrs (pos to) ≡ true)

  labels_placed : (pc : ℕ) (lines : List Line) (label : List ℕ) (to : ℕ) → pc + length (code_from pool marks pc lines) ≡ size → mark_of (marks_from pc lines) label ≡ Some to
      → IsPlaced (instrs_from pool marks pc lines) to
  unfolding starts_at marks_from line_marks mark_of code_from line_bytes instrs_from line_instrs line_length written_instr
  labels_placed pc [] label to e m = absurd (cc)
  labels_placed pc (line.Label name ∷ lines) label to e m =
      elim (bytes_eq label name) as (λ b. (if b then Some pc else mark_of (marks_from (pc + 0) lines) label) ≡ Some to → IsPlaced (instrs_from pool marks (pc + 0) lines) to) [
        | true ↦ λ k. subst (λ place. IsPlaced (instrs_from pool marks (pc + 0) lines) place) (some_is pc to k)
            (omega arith, λ h. let same : pc + 0 ≡ pc = nothing_more pc in subst (λ place. starts_at (instrs_from pool marks (pc + 0) lines) (pos place) ≡ true) same (first_starts (pc + 0) lines (no_change pc lines e) (omega arith)))
        | false ↦ λ k. labels_placed (pc + 0) lines label to (no_change pc lines e) k
      ] m where
        some_is : (a b : ℕ) → Some a ≡ Some b → a ≡ b
        some_is a b e = cc
  labels_placed pc (line.Instruction i ∷ lines) label to e m =
      let next : List ℕ = code_from pool marks (pc + instruction_length pc i) lines in
      let k = labels_placed (pc + instruction_length pc i) lines label to (size_behind pc i next e) m in
      (k.0, λ h. or_right (int_eq (pos pc) (pos to)) (starts_at (instrs_from pool marks (pc + instruction_length pc i) lines) (pos to)) (k.1 h))
  labels_placed pc (_ ∷ lines) label to e m = labels_placed (pc + 0) lines label to (no_change pc lines e) m

-- ---- targets and ranges

none_found : {X : Type 0} (test : X → Bool) (xs : List X) → AllByRecursion (λ x. test x ≡ false) xs → find test xs ≡ None
none_found test [] h = refl
none_found test (x ∷ xs) h = let e = h.0 in rw e (none_found test xs h.1)

both_hold : {X : Type 0} (p q r : X → Bool) → ((x : X) → p x ≡ true → q x ≡ true → r x ≡ true) → (xs : List X) → list_all p xs ≡ true → list_all q xs ≡ true → list_all r xs ≡ true
both_hold p q r f [] h k = refl
both_hold p q r f (x ∷ xs) h k =
    let a = and_parts (p x) (list_all p xs) h in
    let b = and_parts (q x) (list_all q xs) k in and_from _ _ (f x a.0 b.0) (both_hold p q r f xs a.1 b.1)

three : (a b c : Bool) → (a && b && c) ≡ true → (a ≡ true) × (b ≡ true) × (c ≡ true)
three true true true h = (refl, refl, refl)
three true true false h = absurd (cc)
three true false c h = absurd (cc)
three false b c h = absurd (cc)

four : (a b c d e : Bool) → a ≡ true → b ≡ true → (c || d) ≡ true → e ≡ true → not (a && b && (c || d) && e) ≡ false
four a b c d e p q r s = rw (p, q, r, s) refl

module _ (pool : List Content) (body : List Line) (numbered : AreInBody body 0 body) where
  abbrev marks : List Mark
  marks = marks_of body

  abbrev size : ℕ
  size = length (code_from pool marks 0 body)

  abbrev instrs : List Instr
  instrs = instrs_from pool marks 0 body

  placed : (label : List ℕ) → has_label label body ≡ true → IsPlaced pool marks size instrs (pc_of marks label)
  unfolding pc_of marks_of
  placed label h =
      let k = marked body 0 body label numbered h in
      let to : ℕ = k.0 in
      let e : unwrap_or (mark_of (marks_of body) label) 0 ≡ to = ap (λ o. unwrap_or o 0) k.1 in
      subst (λ place. IsPlaced pool marks size instrs place) (sym e) (labels_placed pool marks size 0 body label to (omega arith) k.1)

  inside_starts : (label : List ℕ) → is_inside_code marks size label ≡ true → has_label label body ≡ true → starts_at instrs (pos (pc_of marks label)) ≡ true
  unfolding is_inside_code
  inside_starts label i h = (placed label h).1 (ltb-true (pc_of marks label) size i)

  none_astray : (pc : ℕ) (lines : List Line) → AllByRecursion IsSaidLine lines → AreInBody body pc lines → list_all (aims_well marks size) lines ≡ true
      → AllByRecursion (λ i. is_astray instrs i ≡ false) (instrs_from pool marks pc lines)
  unfolding is_astray instrs_from line_instrs used_labels aims_well line_length
  none_astray pc [] said there aims = tt
  none_astray pc (line.Instruction i ∷ lines) said there aims =
      let a = and_parts (list_all (is_inside_code marks size) (flat_map target_labels i.operands)) (list_all (aims_well marks size) lines) aims in
      let passes = both_hold (is_inside_code marks size) (λ label. has_label label body) (λ label. starts_at instrs (pos (pc_of marks label))) inside_starts (flat_map target_labels i.operands) a.0 there.0.1 in
      (ap not (instruction_aimed pool marks pc i said.0 (starts_at instrs) passes), none_astray (pc + instruction_length pc i) lines said.1 there.1 a.1)
  none_astray pc (l ∷ lines) said there aims =
      let a = and_parts (aims_well marks size l) (list_all (aims_well marks size) lines) aims in none_astray (pc + line_length pc l) lines said.1 there.1 a.1

  end_placed : (label : List ℕ) → has_label label body ≡ true → (starts_at instrs (pos (pc_of marks label)) || (pc_of marks label == size)) ≡ true
  end_placed label h = let k = placed label h in at_end (pc_of marks label) k.0 k.1 where
    same : (a b : ℕ) → a ≡ b → (a == b) ≡ true
    same a b e = grind (arith, nat_tests)

    cases : (a b : ℕ) → a ≤ b → (a < b) ⊎ (a ≡ b)
    cases a b h = grind (arith, nat_tests)

    at_end : (to : ℕ) → to ≤ size → (to < size → starts_at instrs (pos to) ≡ true) → (starts_at instrs (pos to) || (to == size)) ≡ true
    at_end to le starts = elim (cases to size le) [
      | inl h ↦ or_left (starts_at instrs (pos to)) (to == size) (starts h)
      | inr e ↦ or_right (starts_at instrs (pos to)) (to == size) (same to size e)
    ]

  good_ranges : (pc : ℕ) (lines : List Line) → AreInBody body pc lines → list_all (aims_well marks size) lines ≡ true
      → AllByRecursion (λ r. not (is_range_of size instrs r) ≡ false) (flat_map (line_ranges pool marks) lines)
  unfolding is_range_of line_ranges used_labels aims_well line_length
  good_ranges pc [] there aims = tt
  good_ranges pc (line.Catch c ∷ lines) there aims =
      let a = and_parts _ (list_all (aims_well marks size) lines) aims in
      let t = three (is_inside_code marks size c.start) (is_inside_code marks size c.handler) (nat_lt (pc_of marks c.start) (pc_of marks c.end)) a.0 in
      let s = and_parts (has_label c.start body) _ there.0.1 in
      let e = and_parts (has_label c.end body) _ s.1 in
      let h = and_parts (has_label c.handler body) true e.1 in (
        four (starts_at instrs (pos (pc_of marks c.start))) (starts_at instrs (pos (pc_of marks c.handler))) (starts_at instrs (pos (pc_of marks c.end))) (pc_of marks c.end == size)
            (nat_lt (pc_of marks c.start) (pc_of marks c.end))
            (inside_starts c.start t.0 s.0) (inside_starts c.handler t.1 h.0) (end_placed c.end e.0) t.2,
        good_ranges (pc + 0) lines there.1 a.1,
      )
  good_ranges pc (l ∷ lines) there aims =
      let a = and_parts (aims_well marks size l) (list_all (aims_well marks size) lines) aims in good_ranges (pc + line_length pc l) lines there.1 a.1

pub code_as_written : (text bytes : List ℕ) (after : List Line) → IsAssembled text bytes → HasMethod text after
    → list_all (aims_well (marks_of (body_of after)) (length (written_code text (body_of after)))) (body_of after) ≡ true
    → IsCode (written_code text (body_of after)) (flat_map (line_ranges (text_pool text) (marks_of (body_of after))) (body_of after))
    (instrs_from (text_pool text) (marks_of (body_of after)) 0 (body_of after))
unfolding first_astray first_bad_range
code_as_written text bytes after e has aims =
    let body : List Line = body_of after in
    let w = body_written text bytes after e has in
    let all : List Instr = instrs_from (text_pool text) (marks_of body) 0 body in
    record {
      spelled = w.spelled;
      targets = none_found (is_astray all) all (none_astray (text_pool text) body w.numbered 0 body w.said w.numbered aims);
      ranges =
          none_found (λ r. not (is_range_of (length (written_code text body)) all r)) (flat_map (line_ranges (text_pool text) (marks_of body)) body)
          (good_ranges (text_pool text) body w.numbered 0 body w.numbered aims);
    }
