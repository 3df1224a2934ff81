-- An instruction that makes arrays of arrays makes one dimension at least.
use Rattle.std.proofs.Common.{◌≡◌, ℕ, zero, suc, ◌-◌, ◌<◌, ◌≤◌, inl, inr, Bool, true, false, not, cond, ◌||◌, List, [], ◌∷◌, length, get_or, Option, Some, None, refl, sym, ap, ◌∙◌, subst, arith, ltb-true}
use Rattle.std.specs.Prelude.{ℤ, pos, IfSome, slice_index_or, Contains}
use Rattle.std.specs.List.{list_all}
use Rattle.std.specs.Int.{w32, cast_unsigned}
use Rattle.class_grammar.specs.CodeGrammar.{BeginsWith, instruction_part, behind_opcode, wide_part, operands_part, dimensions_operands}
use Rattle.class_grammar.specs.Opcodes.{Opcode, opcodes, opcode_at, unassigned, row_at, form_at, wide_form_at, wide_form_of, is_left_out_wide, opened_opcodes}
use Rattle.jx_base.specs.declared.class_file.Code.{Code}
use Rattle.jx_base.specs.declared.class_file.Instr.{Instr}
use Rattle.jx_base.specs.declared.fault.CodeKind.{CodeKind}
use Rattle.jx_base.specs.declared.row.Form.{Form}
use Rattle.jx_base.specs.declared.row.Form.TheVariants as form
use Rattle.jx_base.specs.declared.row.Row.{Row}
use Rattle.jx_base.specs.declared.row.Row.TheVariants as row
use Rattle.jx_base.specs.declared.program.Method.{Method}
use Rattle.jx_base.specs.declared.program.System.{System}
use Rattle.program_model.specs.Instructions.{index_operand, operand}
use Rattle.jx_base.proofs.BasicLaws.{both}
use Rattle.link_laws.specs.Methods.{IsCodeOf, IsWhole}
use Rattle.link_laws.proofs.Fitting.{contained}
use Rattle.link_laws.proofs.Lists.{Among}

-- ---- the table of opcodes

-- whether a row makes arrays of arrays
unfoldable is_multi : Row → Bool
is_multi row.NewMultiArray = true
is_multi _ = false

-- whether a form has dimensions
unfoldable is_dimensions : Form → Bool
is_dimensions form.Dimensions = true
is_dimensions _ = false

-- whether an opcode that makes arrays of arrays has dimensions
unfoldable is_fit : Opcode → Bool
is_fit o = not (is_multi o.row) || is_dimensions o.form

-- each opcode of the table is fit
opcodes_fit : list_all is_fit opcodes ≡ true
unfolding is_fit is_multi is_dimensions opened_opcodes
opcodes_fit = refl

-- and so is each that is not in the table
unassigned_fit : is_fit unassigned ≡ true
unfolding is_fit is_multi is_dimensions opened_opcodes
unassigned_fit = refl

-- what all items and the default pass, the item at a place passes
passes_at : {A : Type 0} (p : A → Bool) (xs : List A) (d : A) (n : ℕ) → list_all p xs ≡ true → p d ≡ true → p (get_or xs n d) ≡ true
passes_at p [] d n h k = k
passes_at p (x ∷ xs) d zero h k = (both (p x) (list_all p xs) h).0
passes_at p (x ∷ xs) d (suc n) h k = passes_at p xs d n (both (p x) (list_all p xs) h).1 k

-- an opcode that makes arrays of arrays has dimensions
multi_form : (n : ℕ) → row_at n ≡ row.NewMultiArray → form_at n ≡ form.Dimensions
unfolding row_at form_at opcode_at is_fit is_multi is_dimensions
multi_form n h = told (opcode_at n).form (by (opcode_at n) (passes_at is_fit opcodes unassigned n opcodes_fit unassigned_fit) h)
  where
    by : (o : Opcode) → (not (is_multi o.row) || is_dimensions o.form) ≡ true → o.row ≡ row.NewMultiArray → is_dimensions o.form ≡ true
    by o e q = of (is_multi o.row) (ap is_multi q) e
      where
        of : (b : Bool) → b ≡ true → (not b || is_dimensions o.form) ≡ true → is_dimensions o.form ≡ true
        of true x y = y
        of false x y = absurd cc

    told : (f : Form) → is_dimensions f ≡ true → f ≡ form.Dimensions
    told form.Dimensions e = refl
    told f e = absurd cc

-- ---- operands

-- no bytes stand behind wide and such an opcode
no_wide : (missing : CodeKind) (pc n : ℕ) (text : List ℕ) (operands : List ℤ) (rest : List ℕ) → row_at n ≡ row.NewMultiArray → (operands_part missing pc (wide_form_at n)).spells text operands rest → ⊥
unfolding wide_form_at wide_form_of operands_part
no_wide missing pc n text operands rest h spelled = by (is_left_out_wide n) (row_at n) h spelled
  where
    by : (b : Bool) (r : Row) → r ≡ row.NewMultiArray → (operands_part missing pc (cond b form.LeftOut (wide_form_of r))).spells text operands rest → ⊥
    by true r e s = s
    by false r e s = subst (λ (x : Row). (operands_part missing pc (wide_form_of x)).spells text operands rest) e s

-- how many dimensions the operands say
dimensions_said : (pc : ℕ) (text : List ℕ) (operands : List ℤ) (rest : List ℕ) → (dimensions_operands pc).spells text operands rest → 1 ≤ cast_unsigned w32 (slice_index_or operands 1 (pos 0))
unfolding dimensions_operands
dimensions_said pc text operands rest h =
    let n : ℕ = h.3.0 in
    let some : 0 < n = ltb-true 0 n h.3.3.2.0 in
    subst (λ (xs : List ℤ). 1 ≤ cast_unsigned w32 (slice_index_or xs 1 (pos 0))) (sym h.3.3.3.0) (omega (arith, some))

-- so does what stands behind an opcode
behind_said : (pc n : ℕ) (f : Form) (text : List ℕ) (i : Instr) (rest : List ℕ) → f ≡ form_at n → (behind_opcode pc n f).spells text i rest → row_at i.opcode ≡ row.NewMultiArray → 1 ≤ index_operand i 1
unfolding behind_opcode wide_part operands_part index_operand operand
behind_said pc n form.Wide text i rest e h q = absurd (no_wide _ pc h.0 h.1 h.3.0 h.3.1 (ap row_at (ap (λ (x : Instr). x.opcode) (sym h.3.3.0)) ∙ q) h.3.2)
behind_said pc n form.Dimensions text i rest e h q =
    subst (λ (x : Instr). 1 ≤ cast_unsigned w32 (slice_index_or x.operands 1 (pos 0))) (sym h.3.0) (dimensions_said pc text h.0 h.1 h.2)
behind_said pc n f text i rest e h q = let other = e ∙ multi_form n (ap row_at (ap (λ (x : Instr). x.opcode) (sym h.3.0)) ∙ q) in absurd cc

-- so does an instruction
instr_said : (pc : ℕ) (text : List ℕ) (i : Instr) (rest : List ℕ) → (instruction_part pc).spells text i rest → row_at i.opcode ≡ row.NewMultiArray → 1 ≤ index_operand i 1
unfolding instruction_part
instr_said pc text i rest h q = behind_said pc h.0 (form_at h.0) h.1 i rest refl h.3 q

-- and each instruction of code
code_said : (size : ℕ) (bytes : List ℕ) (instrs : List Instr) → BeginsWith size bytes instrs [] → (i : Instr) → Among instrs i → row_at i.opcode ≡ row.NewMultiArray → 1 ≤ index_operand i 1
code_said size bytes [] h i a q = absurd a
code_said size bytes (x ∷ instrs) h i (inl a) q = subst (λ (y : Instr). row_at y.opcode ≡ row.NewMultiArray → 1 ≤ index_operand y 1) a (instr_said (size - length bytes) bytes x h.0 h.1) q
code_said size bytes (x ∷ instrs) h i (inr a) q = code_said size h.0 instrs h.2 i a q

-- and of a method
pub method_said : (s : System) (x : Method) (i : Instr) → IsWhole s x → Contains x.instrs i → row_at i.opcode ≡ row.NewMultiArray → 1 ≤ index_operand i 1
method_said s x i whole h q = by x.code refl whole.instructions
  where
    by : (o : Option Code) → x.code ≡ o → IfSome o (λ c. IsCodeOf c x.instrs) → 1 ≤ index_operand i 1
    by None e k = absurd (subst (λ (is : List Instr). Among is i) (whole.none e) (contained x.instrs i h))
    by (Some c) e k = code_said (length c.code) c.code x.instrs k.code.spelled i (contained x.instrs i h) q
