-- The code of a body is spelled by its bytes.
use Rattle.std.specs.Option.{option_or}
use Rattle.std.proofs.Common.{◌≡◌, ◌∙◌, refl, sym, ap, subst, ℕ, suc, ◌+◌, ◌-◌, ◌^◌, ◌<◌, List, [], ◌∷◌, ◌++◌, Bool, true, false, Some, None, Option, Ok, length, length-append, append-nil, reverse, arith}
use Rattle.std.specs.Prelude.{not, ◌||◌, nat_lt, option_map, if◌then◌else◌, flat_map, unwrap_or}
use Rattle.std.specs.List.{list_any, list_all, AllByRecursion}
use Rattle.std.specs.Str.{bytes_eq}
use Rattle.std.proofs.lemmas.Bool.{and_parts}
use Rattle.std.proofs.lemmas.Bool.Decides.{nat_tests}
use Rattle.class_grammar.specs.CodeGrammar.{BeginsWith, IsSpelledBy, instruction_part}
use Rattle.asm_constants.specs.declared.content.Content.{Content}
use Rattle.asm_constants.specs.Pools.{fits, index_of}
use Rattle.asm_lines.specs.Lines.{meanings}
use Rattle.asm_lines.specs.declared.line.AsmKind.{AsmKind}
use Rattle.asm_lines.specs.declared.line.Instruction.{Instruction}
use Rattle.asm_lines.specs.declared.line.Line.{Line}
use Rattle.asm_lines.specs.declared.line.Line.TheVariants as line
use Rattle.asm_lines.specs.declared.line.Member.{Member}
use Rattle.asm_lines.specs.declared.line.Operand.{Operand}
use Rattle.asm_lines.specs.declared.line.Operand.TheVariants as operand
use Rattle.asm_bodies.specs.Bodies.{Mark, body_of, ends, has_label, is_label, marks_of, marks_from, line_marks, mark_of, is_near, is_far_operand, is_far, first_far_from, first_far_in, first_far}
use Rattle.asm_bodies.specs.Lines.{is_method}
use Rattle.asm_bodies.specs.Needs.{pool_of, line_length, instruction_length}
use Rattle.asm_bytes.specs.Files.{instruction_bytes, line_bytes, code_from, pc_of, file_bytes}
use Rattle.asm_checks.specs.Faults.{is_index_over, has_index_over, target_labels, used_labels, first_fault}
use Rattle.class_asm.specs.Assembly.{bytes_or_far, assembly_with, assembly, IsAssembled}
use Rattle.asm_laws.proofs.Constants.{index_small}
use Rattle.asm_laws.proofs.Counts.{line_bytes_length}
use Rattle.asm_laws.proofs.Soundness.{is_so, neither, all_fit, no_fault as no_fault_sound}
use Rattle.asm_laws.proofs.Whole.{no_constants}
use Rattle.asm_code_laws.specs.CodeLaws.{HasMethod, text_pool, written_code}
use Rattle.asm_code_laws.specs.Written.{written_instr, line_instrs, instrs_from}
use Rattle.asm_code_laws.proofs.Operands.{IsGood}
use Rattle.asm_code_laws.proofs.Instructions.{instruction_spelled}
use Rattle.asm_code_laws.proofs.Said.{IsSaidLine, meanings_said}
use Rattle.asm_code_laws.proofs.Faultless.{AreFine, AreInBody, no_fault, all_small, body_lines, fine_behind}

-- ---- lengths

pub instruction_bytes_length : (pool : List Content) (marks : List Mark) (pc : ℕ) (i : Instruction) → length (instruction_bytes pool marks pc i) ≡ instruction_length pc i
unfolding line_bytes line_length
instruction_bytes_length pool marks pc i = line_bytes_length pool marks pc (line.Instruction i)

-- ---- one instruction behind the other

abbrev IsGoodLine : List Content → List Mark → ℕ → Line → Type 0
IsGoodLine pool marks pc (line.Instruction i) = (pc < 65536) × AllByRecursion (IsGood pool marks pc) i.operands
IsGoodLine pool marks pc _ = Unit {0}

abbrev AreGoodFrom : List Content → List Mark → ℕ → List Line → Type 0
AreGoodFrom pool marks pc [] = Unit {0}
AreGoodFrom pool marks pc (l ∷ lines) = IsGoodLine pool marks pc l × AreGoodFrom pool marks (pc + line_length pc l) lines

code_read : (pool : List Content) (marks : List Mark) (small : (c : Content) → index_of pool c < 2 ^ 16) (size pc : ℕ) (lines : List Line)
    → pc + length (code_from pool marks pc lines) ≡ size → AllByRecursion IsSaidLine lines → AreGoodFrom pool marks pc lines
    → BeginsWith size (code_from pool marks pc lines) (instrs_from pool marks pc lines) []
unfolding code_from line_bytes instrs_from line_instrs line_length
code_read pool marks small size pc [] e read good = refl
code_read pool marks small size pc (line.Instruction i ∷ lines) e read good =
    let bytes : List ℕ = instruction_bytes pool marks pc i in
    let next : List ℕ = code_from pool marks (pc + instruction_length pc i) lines in
    let all : length (bytes ++ next) ≡ length bytes + length next = length-append bytes next in
    let n : length bytes ≡ instruction_length pc i = instruction_bytes_length pool marks pc i in
    let here : size - length (bytes ++ next) ≡ pc = omega arith in
    let behind : pc + instruction_length pc i + length next ≡ size = omega arith in (
      next,
      subst (λ place. (instruction_part place).spells (bytes ++ next) (written_instr pool marks pc i) next) (sym here) (instruction_spelled pool marks small i read.0 pc good.0.0 good.0.1 next),
      code_read pool marks small size (pc + instruction_length pc i) lines behind read.1 good.1,
    )
code_read pool marks small size pc (_ ∷ lines) e read good =
    code_read pool marks small size (pc + 0) lines (same pc lines e) read.1 good.1 where
      same : (pc : ℕ) (lines : List Line) → pc + length (code_from pool marks (pc + 0) lines) ≡ size → pc + 0 + length (code_from pool marks (pc + 0) lines) ≡ size
      same pc lines e = omega arith

-- ---- labels

-- a label of a body has a pc
pub marked : (whole : List Line) (pc : ℕ) (lines : List Line) (label : List ℕ) → AreInBody whole pc lines → has_label label lines ≡ true
    → (to : ℕ) × (mark_of (marks_from pc lines) label ≡ Some to) × (to < 65536)
unfolding has_label is_label marks_from line_marks mark_of line_length
marked whole pc [] label h e = absurd (cc)
marked whole pc (line.Label name ∷ lines) label h e =
    elim (bytes_eq label name) as (λ b. (b || list_any (is_label label) lines) ≡ true → (to : ℕ) × ((if b then Some pc else mark_of (marks_from (pc + 0) lines) label) ≡ Some to) × (to < 65536)) [
      | true ↦ λ k. (pc, refl, h.0.0)
      | false ↦ λ k. marked whole (pc + 0) lines label h.1 k
    ] e
marked whole pc (l ∷ lines) label h e = marked whole (pc + line_length pc l) lines label h.1 e

-- ---- operands of lines without a fault

module _ (pool : List Content) (whole : List Line) (numbered : AreInBody whole 0 whole) where
  abbrev marks : List Mark
  marks = marks_of whole

  pc_found : (label : List ℕ) → has_label label whole ≡ true → (to : ℕ) × (mark_of marks label ≡ Some to) × (to < 65536)
  unfolding marks_of
  pc_found label h = marked whole 0 whole label numbered h

  pc_small : (label : List ℕ) → has_label label whole ≡ true → pc_of marks label < 65536
  unfolding pc_of
  pc_small label h =
      let k = pc_found label h in
      let e : unwrap_or (mark_of marks label) 0 ≡ k.0 = ap (λ o. unwrap_or o 0) k.1 in omega (arith, e, k.2)

  is_near_enough : (pc : ℕ) (label : List ℕ) → has_label label whole ≡ true → is_far_operand marks pc (operand.Target label) ≡ false → is_near pc (pc_of marks label) ≡ true
  unfolding pc_of is_far_operand
  is_near_enough pc label h e =
      let k = pc_found label h in
      let o = k.1 in
      let near : is_near pc k.0 ≡ true = is_so (is_near pc k.0) (sym (ap (λ (o : Option ℕ). elim o [ None ↦ false | Some to ↦ not (is_near pc to) ]) o) ∙ e) in
      ap (λ (o : Option ℕ). is_near pc (unwrap_or o 0)) o ∙ near

  index_small_enough : (n : ℕ) → nat_lt 255 n ≡ false → n < 256
  index_small_enough n h = grind (arith, nat_tests)

  good_operands : (pc : ℕ) (operands : List Operand) → list_all (λ label. has_label label whole) (flat_map target_labels operands) ≡ true
      → list_any (is_far_operand marks pc) operands ≡ false → list_any (is_index_over pool) operands ≡ false → AllByRecursion (IsGood pool marks pc) operands
  unfolding target_labels is_index_over
  good_operands pc [] h f o = tt
  good_operands pc (operand.ByteIndex c ∷ operands) h f o =
      let k = neither (nat_lt 255 (index_of pool c)) (list_any (is_index_over pool) operands) o in
      let g = neither (is_far_operand marks pc (operand.ByteIndex c)) (list_any (is_far_operand marks pc) operands) f in
      (index_small_enough (index_of pool c) k.0, good_operands pc operands h g.1 k.1)
  good_operands pc (operand.Target label ∷ operands) h f o =
      let l = and_parts (has_label label whole) (list_all (λ label. has_label label whole) (flat_map target_labels operands)) h in
      let g = neither (is_far_operand marks pc (operand.Target label)) (list_any (is_far_operand marks pc) operands) f in
      ((pc_small label l.0, is_near_enough pc label l.0 g.0), good_operands pc operands l.1 g.1 o)
  good_operands pc (operand.FarTarget label ∷ operands) h f o =
      let l = and_parts (has_label label whole) (list_all (λ label. has_label label whole) (flat_map target_labels operands)) h in
      let g = neither (is_far_operand marks pc (operand.FarTarget label)) (list_any (is_far_operand marks pc) operands) f in
      (pc_small label l.0, good_operands pc operands l.1 g.1 o)
  good_operands pc (x ∷ operands) h f o =
      let g = neither (is_far_operand marks pc x) (list_any (is_far_operand marks pc) operands) f in
      (tt, good_operands pc operands h g.1 o)

  good_line : (pc : ℕ) (l : Line) → pc < 65536 → list_all (λ label. has_label label whole) (used_labels l) ≡ true → is_far marks pc l ≡ false → has_index_over pool l ≡ false → IsGoodLine pool marks pc l
  unfolding used_labels is_far has_index_over
  good_line pc (line.Instruction i) p h f o = (p, good_operands pc i.operands h f o)
  good_line pc _ p h f o = tt

  near_here : (far : Bool) (later : Option ℕ) → (if far then Some 0 else option_map suc later) ≡ None → (far ≡ false) × (later ≡ None)
  near_here true later e = absurd (cc)
  near_here false None e = (refl, refl)
  near_here false (Some n) e = absurd (cc)

  good_from : (pc : ℕ) (lines : List Line) → AreInBody whole pc lines → first_far_from marks pc lines ≡ None → AllByRecursion (λ l. has_index_over pool l ≡ false) lines → AreGoodFrom pool marks pc lines
  unfolding first_far_from
  good_from pc [] h f o = tt
  good_from pc (l ∷ lines) h f o =
      let k = near_here (is_far marks pc l) (first_far_from marks (pc + line_length pc l) lines) f in
      (good_line pc l h.0.0 h.0.1 k.0 o.0, good_from (pc + line_length pc l) lines h.1 k.1 o.1)

-- ---- assembled texts

near : (o : Option ℕ) (made bytes : List ℕ) → bytes_or_far o made ≡ Ok bytes → o ≡ None
unfolding bytes_or_far
near None made bytes e = refl
near (Some n) made bytes e = absurd (cc)

assembled : (lines : List Line) (o : Option (ℕ × AsmKind)) (bytes : List ℕ) → assembly_with lines o ≡ Ok bytes → (o ≡ None) × (first_far lines ≡ None)
unfolding assembly_with
assembled lines None bytes e = (refl, near (first_far lines) (file_bytes lines) bytes e)
assembled lines (Some found) bytes e = absurd (cc)

no_later : (o : Option ℕ) → option_map suc o ≡ None → o ≡ None
no_later None e = refl
no_later (Some n) e = absurd (cc)

neither_far : (b : Bool) (o p : Option ℕ) → (if b then option_or o p else p) ≡ None → p ≡ None
neither_far true None p e = e
neither_far true (Some n) p e = absurd (cc)
neither_far false o p e = e

first_near : (o p : Option ℕ) → option_or o p ≡ None → o ≡ None
first_near None p e = refl
first_near (Some n) p e = absurd (cc)

-- no line of a method is too far
near_in : (before after : List Line) (m : Member) (max_stack max_locals : ℕ) → first_far (before ++ line.Method m max_stack max_locals ∷ after) ≡ None → first_far_in (body_of after) ≡ None
unfolding first_far is_method
near_in [] after m max_stack max_locals e = first_near (first_far_in (body_of after)) (first_far after) (no_later _ e)
near_in (l ∷ before) after m max_stack max_locals e =
    let rest : List Line = before ++ line.Method m max_stack max_locals ∷ after in
    near_in before after m max_stack max_locals (neither_far (is_method l) (first_far_in (body_of rest)) (first_far rest) (no_later _ e))

-- what holds of each line holds of those of a body
all_behind : (P : Line → Type 0) (before after : List Line) (l : Line) → AllByRecursion P (before ++ l ∷ after) → AllByRecursion P after
all_behind P [] after l h = h.1
all_behind P (b ∷ before) after l h = all_behind P before after l h.1

all_of_body : (P : Line → Type 0) (lines : List Line) → AllByRecursion P lines → AllByRecursion P (body_of lines)
unfolding body_of
all_of_body P [] h = tt
all_of_body P (l ∷ lines) h = elim (ends l) as (λ b. AllByRecursion P (if b then [] else l ∷ body_of lines)) [ true ↦ tt | false ↦ (h.0, all_of_body P lines h.1) ]

-- what the body of a method of an assembled text is
pub record IsWritten (text : List ℕ) (body : List Line) : Type 0 where
  pub said : AllByRecursion IsSaidLine body
  pub numbered : AreInBody body 0 body
  pub spelled : IsSpelledBy (written_code text body) (instrs_from (text_pool text) (marks_of body) 0 body)

pub body_written : (text bytes : List ℕ) (after : List Line) → IsAssembled text bytes → HasMethod text after → IsWritten text (body_of after)
unfolding assembly first_far_in
body_written text bytes after e has =
    let lines : List Line = meanings text in
    let pool = text_pool text in
    let body : List Line = body_of after in
    let method : Line = line.Method has.1 has.2 has.3 in
    let a = assembled lines (first_fault [] lines) bytes e in
    let fine : AreFine [] lines = no_fault [] lines a.0 in
    let whole : reverse lines ++ [] ≡ reverse lines = append-nil (reverse lines) in
    let fit : fits pool ≡ true = sym (ap (λ (ls : List Line). fits (pool_of ls)) whole) ∙ all_fit [] lines no_constants (no_fault_sound [] lines a.0) in
    let small : AllByRecursion (λ l. has_index_over pool l ≡ false) lines = subst (λ (ls : List Line). AllByRecursion (λ l. has_index_over (pool_of ls) l ≡ false) lines) whole (all_small [] lines fine) in
    let split : lines ≡ has.0 ++ method ∷ after = has.4 in
    let small_indices : (c : Content) → index_of pool c < 2 ^ 16 = λ c. index_small pool c fit in
    let behind = fine_behind [] has.0 after method (subst (λ (ls : List Line). AreFine [] ls) split fine) in
    let numbered : AreInBody body 0 body = body_lines behind.0 has.1 has.2 has.3 after behind.1 in
    let near_all : first_far_in body ≡ None = near_in has.0 after has.1 has.2 has.3 (sym (ap first_far split) ∙ a.1) in
    let read = all_of_body IsSaidLine after
    (all_behind IsSaidLine has.0 after method (subst (λ (ls : List Line). AllByRecursion IsSaidLine ls) split (meanings_said text))) in
    let indexed = all_of_body (λ l. has_index_over pool l ≡ false) after
    (all_behind (λ l. has_index_over pool l ≡ false) has.0 after method (subst (λ (ls : List Line). AllByRecursion (λ l. has_index_over pool l ≡ false) ls) split small)) in
    let code : List ℕ = written_code text body in
    record {
      said = read;
      numbered = numbered;
      spelled = code_read pool (marks_of body) small_indices (length code) 0 body (omega arith) read (good_from pool body numbered 0 body numbered near_all indexed);
    }
