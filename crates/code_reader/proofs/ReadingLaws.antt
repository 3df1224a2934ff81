-- Reading tells just whether bytes are code, and their first fault.
use Rattle.std.proofs.Common.{◌≡◌, ℕ, zero, suc, ◌-◌, ◌≤◌, ◌⊎◌, inl, inr, List, [], ◌∷◌, length, Option, Some, None, Result, Ok, Err, refl, sym, ap, ◌∙◌, subst, arith}
use Rattle.std.specs.Prelude.{◌≢◌}
use Rattle.class_grammar.specs.Parts.{onward}
use Rattle.class_grammar.specs.CodeGrammar.{code_fault, in_front, instruction_part, instructions_reading, BeginsWith, IsCode, IsFirstFault, of_instruction, of_target, of_range, first_astray, first_bad_range}
use Rattle.jx_base.specs.declared.class_file.Instr.{Instr}
use Rattle.jx_base.specs.declared.class_file.Range.{Range}
use Rattle.jx_base.specs.declared.fault.CodeFault.{CodeFault}
use Rattle.jx_base.specs.declared.fault.CodeKind.TheVariants as kind
use Rattle.code_reader.specs.CodeReading.{unless_astray, unless_bad_range, checked, code_reading}
use Rattle.code_reader.proofs.Sound.{sound_instruction, takes_a_byte}

abbrev Read : Type 0
Read = Result (List Instr) CodeFault

-- ---- results

onward_ok : (r : Result (Instr × List ℕ) CodeFault) (next : Instr → List ℕ → Read) (instrs : List Instr) → onward r next ≡ Ok instrs
    → (i : Instr) × (rest : List ℕ) × (r ≡ Ok (i, rest)) × (next i rest ≡ Ok instrs)
onward_ok (Ok x) next instrs e = (x.0, x.1, refl, e)
onward_ok (Err f) next instrs e = absurd cc

onward_err : (r : Result (Instr × List ℕ) CodeFault) (next : Instr → List ℕ → Read) (f : CodeFault) → onward r next ≡ Err f
    → (r ≡ Err f) ⊎ ((i : Instr) × (rest : List ℕ) × (r ≡ Ok (i, rest)) × (next i rest ≡ Err f))
onward_err (Ok x) next f e = inr (x.0, x.1, refl, e)
onward_err (Err g) next f e = inl cc

in_front_ok : (i : Instr) (r : Read) (instrs : List Instr) → in_front i r ≡ Ok instrs → (behind : List Instr) × (r ≡ Ok behind) × (instrs ≡ i ∷ behind)
unfolding in_front
in_front_ok i (Ok behind) instrs e = (behind, refl, cc)
in_front_ok i (Err f) instrs e = absurd cc

in_front_err : (i : Instr) (r : Read) (f : CodeFault) → in_front i r ≡ Err f → r ≡ Err f
unfolding in_front
in_front_err i (Ok behind) f e = absurd cc
in_front_err i (Err g) f e = cc

-- ---- instructions

module _ (size : ℕ) where
  abbrev next : ℕ → Instr → List ℕ → Read
  next k i rest = in_front i (instructions_reading size k rest)

  none_read : (k : ℕ) → instructions_reading size k [] ≡ Ok []
  unfolding instructions_reading
  none_read zero = refl
  none_read (suc k) = refl

  pub found : (k : ℕ) (bytes : List ℕ) (instrs : List Instr) → length bytes ≤ k → instructions_reading size k bytes ≡ Ok instrs → BeginsWith size bytes instrs []
  unfolding instructions_reading
  found k [] [] le e = refl
  found k [] (i ∷ instrs) le e = let n = none_read k in absurd cc
  found zero (b ∷ bytes) instrs le e = absurd (omega arith)
  found (suc k) (b ∷ bytes) instrs le e =
      let text = b ∷ bytes in
      let o = onward_ok ((instruction_part (size - length text)).reads text) (next k) instrs e in
      let spelled = (sound_instruction (size - length text)).lawful.found text o.0 o.1 o.2 in
      let f = in_front_ok o.0 (instructions_reading size k o.1) instrs o.3 in
      let behind = found k o.1 f.0 (omega (arith, takes_a_byte (size - length text) text o.0 o.1 spelled)) f.1 in
      subst (λ (is : List Instr). BeginsWith size text is []) (sym f.2) (o.1, spelled, behind)

  only : (k : ℕ) (bytes : List ℕ) (instrs : List Instr) → length bytes ≤ k → BeginsWith size bytes instrs [] → instructions_reading size k bytes ≡ Ok instrs
  unfolding instructions_reading in_front
  only k bytes [] le h = subst (λ (bs : List ℕ). instructions_reading size k bs ≡ Ok []) h (none_read k)
  only k [] (i ∷ instrs) le h = absurd (omega (arith, takes_a_byte (size - 0) [] i h.0 h.1))
  only zero (b ∷ bytes) (i ∷ instrs) le h = absurd (omega arith)
  only (suc k) (b ∷ bytes) (i ∷ instrs) le h =
      let text = b ∷ bytes in
      let one = (sound_instruction (size - length text)).lawful.only text i h.0 h.1 in
      let behind = only k h.0 instrs (omega (arith, takes_a_byte (size - length text) text i h.0 h.1)) h.2 in
      ap (λ r. onward r (next k)) one ∙ ap (in_front i) behind

  -- the bytes begin with instructions, behind which stands none, and that is its fault
  abbrev FailsAt : List ℕ → List Instr → CodeFault → Type 0
  FailsAt bytes instrs f = (rest : List ℕ) × BeginsWith size bytes instrs rest × (rest ≢ []) × (instruction_part (size - length rest)).fails rest f

  failed : (k : ℕ) (bytes : List ℕ) (f : CodeFault) → length bytes ≤ k → instructions_reading size k bytes ≡ Err f → (instrs : List Instr) × FailsAt bytes instrs f
  unfolding instructions_reading
  failed k [] f le e = let n = none_read k in absurd cc
  failed zero (b ∷ bytes) f le e = absurd (omega arith)
  failed (suc k) (b ∷ bytes) f le e =
      let text = b ∷ bytes in
      elim (onward_err ((instruction_part (size - length text)).reads text) (next k) f e) [
        | inl h ↦ ([], (text, refl, (λ n. absurd cc), (sound_instruction (size - length text)).lawful.failed text f h))
        | inr h ↦
            let spelled = (sound_instruction (size - length text)).lawful.found text h.0 h.1 h.2 in
            let behind = failed k h.1 f (omega (arith, takes_a_byte (size - length text) text h.0 h.1 spelled)) (in_front_err h.0 (instructions_reading size k h.1) f h.3) in
            (h.0 ∷ behind.0, (behind.1.0, (h.1, spelled, behind.1.1), behind.1.2, behind.1.3))
      ]

  fails_only : (k : ℕ) (bytes : List ℕ) (instrs : List Instr) (f : CodeFault) → length bytes ≤ k → FailsAt bytes instrs f → instructions_reading size k bytes ≡ Err f
  unfolding instructions_reading in_front
  fails_only k [] [] f le h = absurd (h.2 h.1)
  fails_only zero (b ∷ bytes) [] f le h = absurd (omega arith)
  fails_only (suc k) (b ∷ bytes) [] f le h =
      let text = b ∷ bytes in
      let fails = subst (λ (bs : List ℕ). (instruction_part (size - length bs)).fails bs f) h.1 h.3 in
      ap (λ r. onward r (next k)) ((sound_instruction (size - length text)).lawful.fails_only text f fails)
  fails_only k [] (i ∷ instrs) f le h = absurd (omega (arith, takes_a_byte (size - 0) [] i h.1.0 h.1.1))
  fails_only zero (b ∷ bytes) (i ∷ instrs) f le h = absurd (omega arith)
  fails_only (suc k) (b ∷ bytes) (i ∷ instrs) f le h =
      let text = b ∷ bytes in
      let one = (sound_instruction (size - length text)).lawful.only text i h.1.0 h.1.1 in
      let behind = fails_only k h.1.0 instrs f (omega (arith, takes_a_byte (size - length text) text i h.1.0 h.1.1)) (h.0, h.1.2, h.2, h.3) in
      ap (λ r. onward r (next k)) one ∙ ap (in_front i) behind

-- ---- code

told_ok : (astray : Option Instr) (bad : Option Range) (is instrs : List Instr) → unless_astray astray (unless_bad_range bad is) ≡ Ok instrs
    → (astray ≡ None) × (bad ≡ None) × (is ≡ instrs)
told_ok None None is instrs e = (refl, refl, cc)
told_ok None (Some r) is instrs e = absurd cc
told_ok (Some i) bad is instrs e = absurd cc

told_err : (astray : Option Instr) (bad : Option Range) (is : List Instr) (f : CodeFault) → unless_astray astray (unless_bad_range bad is) ≡ Err f
    → ((i : Instr) × (astray ≡ Some i) × (f ≡ code_fault i.pc kind.Target)) ⊎ ((r : Range) × (astray ≡ None) × (bad ≡ Some r) × (f ≡ code_fault r.start kind.BadRange))
told_err None None is f e = absurd cc
told_err None (Some r) is f e = inr (r, refl, refl, cc)
told_err (Some i) bad is f e = inl (i, refl, cc)

abbrev alone : List ℕ → Read
alone code = instructions_reading (length code) (length code) code

code_of : (code : List ℕ) (table : List Range) (instrs : List Instr) (r : Read) → alone code ≡ r → checked (length code) table r ≡ Ok instrs → IsCode code table instrs
code_of code table instrs (Err f) is e = absurd cc
code_of code table instrs (Ok read) is e =
    let t = told_ok (first_astray read) (first_bad_range (length code) read table) read instrs e in
    let whole : IsCode code table read = record { spelled = found (length code) (length code) code read (omega arith) is; targets = t.0; ranges = t.1 } in
    subst (λ (xs : List Instr). IsCode code table xs) t.2 whole

pub code_found : (code : List ℕ) (table : List Range) (instrs : List Instr) → code_reading code table ≡ Ok instrs → IsCode code table instrs
unfolding code_reading
code_found code table instrs e = code_of code table instrs (alone code) refl e

pub read_alone : (code : List ℕ) (table : List Range) (instrs : List Instr) → IsCode code table instrs → alone code ≡ Ok instrs
read_alone code table instrs h = only (length code) (length code) code instrs (omega arith) h.spelled

pub code_only : (code : List ℕ) (table : List Range) (instrs : List Instr) → IsCode code table instrs → code_reading code table ≡ Ok instrs
unfolding code_reading
code_only code table instrs h =
    ap (checked (length code) table) (read_alone code table instrs h) ∙ ap (λ a. unless_astray a (unless_bad_range (first_bad_range (length code) instrs table) instrs)) h.targets
    ∙ ap (λ b. unless_bad_range b instrs) h.ranges

fault_of : (code : List ℕ) (table : List Range) (f : CodeFault) (r : Read) → alone code ≡ r → checked (length code) table r ≡ Err f → IsFirstFault code table f
fault_of code table f (Err g) is e =
    let h = failed (length code) (length code) code f (omega arith) (is ∙ e) in of_instruction h.0 h.1
fault_of code table f (Ok read) is e =
    let spelled = found (length code) (length code) code read (omega arith) is in
    elim (told_err (first_astray read) (first_bad_range (length code) read table) read f e) [
      | inl h ↦ of_target read h.0 spelled h.1 h.2
      | inr h ↦ of_range read h.0 spelled h.1 h.2 h.3
    ]

pub fault_found : (code : List ℕ) (table : List Range) (f : CodeFault) → code_reading code table ≡ Err f → IsFirstFault code table f
unfolding code_reading
fault_found code table f e = fault_of code table f (alone code) refl e

pub fault_only : (code : List ℕ) (table : List Range) (f : CodeFault) → IsFirstFault code table f → code_reading code table ≡ Err f
unfolding code_reading
fault_only code table f (of_instruction instrs h) = ap (checked (length code) table) (fails_only (length code) (length code) code instrs f (omega arith) h)
fault_only code table f (of_target instrs i spelled astray same) =
    ap (checked (length code) table) (only (length code) (length code) code instrs (omega arith) spelled)
    ∙ ap (λ a. unless_astray a (unless_bad_range (first_bad_range (length code) instrs table) instrs)) astray
    ∙ ap (λ (g : CodeFault). Err g) (sym same)
fault_only code table f (of_range instrs r spelled astray bad same) =
    ap (checked (length code) table) (only (length code) (length code) code instrs (omega arith) spelled)
    ∙ ap (λ a. unless_astray a (unless_bad_range (first_bad_range (length code) instrs table) instrs)) astray
    ∙ ap (λ b. unless_bad_range b instrs) bad
    ∙ ap (λ (g : CodeFault). Err g) (sym same)
