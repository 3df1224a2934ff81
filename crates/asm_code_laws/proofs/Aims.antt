-- An instruction of a text branches to the pcs of its labels.
use Rattle.std.proofs.Common.{◌≡◌, refl, ap, ℕ, zero, suc, ◌/◌, List, [], ◌∷◌, length, Bool, true, false, Some, None, Option, map, ℤ}
use Rattle.std.specs.Prelude.{pos, ◌+ℤ◌, ◌&&◌, ◌||◌, option_map, if◌then◌else◌, flat_map, slice_index_or}
use Rattle.std.specs.List.{list_all}
use Rattle.std.proofs.lemmas.Bool.{and_parts, and_from}
use Rattle.class_grammar.specs.CodeGrammar.{table_targets, key_targets, lookup_targets, targets_in, targets_of}
use Rattle.class_grammar.specs.Opcodes.{Opcode, opcode, plain_opcode, left_out, unassigned, constants, loads, stores, stack_forms, arithmetic, conversions, comparisons, control, references, extended, opcodes, opcode_at, form_at, row_at, wide_form_of, is_left_out_wide, wide_form_at}
use Rattle.jx_base.specs.declared.row.Form.{Form}
use Rattle.jx_base.specs.declared.row.Form.TheVariants as form
use Rattle.jx_base.specs.declared.row.Row.{Row}
use Rattle.asm_constants.specs.declared.content.Content.{Content}
use Rattle.asm_lines.specs.declared.line.Instruction.{Instruction}
use Rattle.asm_lines.specs.declared.line.Operand.{Operand}
use Rattle.asm_lines.specs.declared.line.Operand.TheVariants as operand
use Rattle.asm_words.specs.Numbers.{within}
use Rattle.asm_lines.specs.Operands.{greatest_int, least_int, int_of, is_name, target, far_target, table_operands, table, is_above, with_key, keys_above, lookup_operands, lookup_behind, lookup, operands_of}
use Rattle.asm_bodies.specs.Bodies.{Mark}
use Rattle.asm_bytes.specs.Files.{pc_of}
use Rattle.asm_checks.specs.Faults.{target_labels}
use Rattle.asm_code_laws.specs.Written.{operand_numbers, form_numbers, form_of, written_instr}
use Rattle.asm_code_laws.proofs.Instructions.{from_so}
use Rattle.asm_laws.proofs.Readable.{IsSo, so_if, so_mapped}
use Rattle.asm_code_laws.proofs.Operands.{so_any}
use Rattle.asm_code_laws.proofs.Said.{IsSaid}

-- ---- wide instructions have no targets

unfoldable is_aimless : Form → Bool
is_aimless form.Branch = false
is_aimless form.FarBranch = false
is_aimless form.TableSwitch = false
is_aimless form.LookupSwitch = false
is_aimless _ = true

unfoldable is_no_wide : Form → Bool
is_no_wide form.Unassigned = true
is_no_wide _ = false

-- an opcode that may be widened has no targets
unfoldable is_clear : Opcode → Bool
is_clear o = is_no_wide (wide_form_of o.row) || is_aimless o.form

all_clear : list_all is_clear opcodes ≡ true
unfolding is_clear is_no_wide is_aimless wide_form_of opcode plain_opcode left_out unassigned constants loads stores stack_forms arithmetic conversions comparisons control references extended opcodes
all_clear = refl

none_clear : is_clear unassigned ≡ true
unfolding is_clear is_no_wide is_aimless wide_form_of opcode unassigned
none_clear = refl

at_each : {X : Type 0} (test : X → Bool) (xs : List X) (d : X) (n : ℕ) → list_all test xs ≡ true → test d ≡ true → test (slice_index_or xs n d) ≡ true
at_each test [] d n h e = e
at_each test (x ∷ xs) d zero h e = (and_parts (test x) (list_all test xs) h).0
at_each test (x ∷ xs) d (suc n) h e = at_each test xs d n (and_parts (test x) (list_all test xs) h).1 e

clear_at : (n : ℕ) → (is_no_wide (wide_form_of (row_at n)) || is_aimless (form_at n)) ≡ true
unfolding is_clear opcode_at row_at form_at
clear_at n = at_each is_clear opcodes unassigned n all_clear none_clear

said_wide : (f : Form) (r : Row) (words : List (List ℕ)) (all : List Operand) → operands_of f r words ≡ Some all → is_no_wide f ≡ false
unfolding operands_of is_no_wide
said_wide form.Unassigned r words all e = absurd (cc)
said_wide _ r words all e = refl

left_out_says : (r : Row) (words : List (List ℕ)) (all : List Operand) → operands_of form.LeftOut r words ≡ Some all → ⊥
unfolding operands_of
left_out_says r words all e = absurd (cc)

aimless_wide : (n : ℕ) (r : Row) (words : List (List ℕ)) (all : List Operand) → operands_of (wide_form_at n) r words ≡ Some all → is_aimless (form_at n) ≡ true
unfolding wide_form_at
aimless_wide n r words all e =
    elim (is_left_out_wide n) as (λ b. operands_of (if b then form.LeftOut else wide_form_of (row_at n)) r words ≡ Some all → is_aimless (form_at n) ≡ true) [
      | true ↦ λ k. absurd (left_out_says r words all k)
      | false ↦ λ k.
          let no = said_wide (wide_form_of (row_at n)) r words all k in
          other (is_no_wide (wide_form_of (row_at n))) (is_aimless (form_at n)) no (clear_at n)
    ] e where
      other : (a b : Bool) → a ≡ false → (a || b) ≡ true → b ≡ true
      other true b e k = absurd (cc)
      other false b e k = k

no_targets : (f : Form) (numbers : List ℤ) → is_aimless f ≡ true → targets_in f numbers ≡ []
unfolding is_aimless targets_in
no_targets form.Branch numbers h = absurd (cc)
no_targets form.FarBranch numbers h = absurd (cc)
no_targets form.TableSwitch numbers h = absurd (cc)
no_targets form.LookupSwitch numbers h = absurd (cc)
no_targets _ numbers h = refl

always : {X : Type 0} (P : X → Type 0) → ((x : X) → P x) → (o : Option X) → IsSo P o
always P h None = tt
always P h (Some x) = h x

-- ---- by form

module _ (pool : List Content) (marks : List Mark) where
  -- a test of the pcs of all labels that operands name
  abbrev pub Passes : (ℤ → Bool) → List Operand → Type 0
  Passes test operands = list_all (λ label. test (pos (pc_of marks label))) (flat_map target_labels operands) ≡ true

  abbrev AreAimed : Form → List Operand → Type 0
  AreAimed f operands = (test : ℤ → Bool) → Passes test operands → list_all test (targets_in f (form_numbers f pool marks operands)) ≡ true

  target_so : (words : List (List ℕ)) → IsSo (AreAimed form.Branch) (target words)
  unfolding target target_labels operand_numbers form_numbers targets_in
  target_so (label ∷ []) = so_if (AreAimed form.Branch) (is_name label) (Some (operand.Target label ∷ [])) None (λ test h. h) tt
  target_so _ = tt

  far_target_so : (words : List (List ℕ)) → IsSo (AreAimed form.FarBranch) (far_target words)
  unfolding far_target target_labels operand_numbers form_numbers targets_in
  far_target_so (label ∷ []) = so_if (AreAimed form.FarBranch) (is_name label) (Some (operand.FarTarget label ∷ [])) None (λ test h. h) tt
  far_target_so _ = tt

  labels_aimed : (test : ℤ → Bool) (labels : List (List ℕ)) → Passes test (map operand.FarTarget labels) → list_all test (flat_map (operand_numbers pool marks) (map operand.FarTarget labels)) ≡ true
  unfolding target_labels operand_numbers
  labels_aimed test [] h = refl
  labels_aimed test (label ∷ labels) h =
      let k = and_parts (test (pos (pc_of marks label))) _ h in and_from _ _ k.0 (labels_aimed test labels k.1)

  table_aimed : (default : List ℕ) (labels : List (List ℕ)) (low high : ℤ) → AreAimed form.TableSwitch (table_operands default labels low high)
  unfolding table_operands target_labels operand_numbers form_numbers targets_in table_targets
  table_aimed default labels low high test h =
      let k = and_parts (test (pos (pc_of marks default))) _ h in and_from _ _ k.0 (labels_aimed test labels k.1)

  table_so : (words : List (List ℕ)) → IsSo (AreAimed form.TableSwitch) (table words)
  unfolding table
  table_so (word ∷ default ∷ first ∷ labels) =
      so_if (AreAimed form.TableSwitch) (list_all is_name (default ∷ first ∷ labels)) _ None (from (int_of word)) tt where
        from : (o : Option ℤ)
            → IsSo (AreAimed form.TableSwitch) (elim o [ None ↦ None | Some low ↦ option_map (λ high. table_operands default (first ∷ labels) low high) (within least_int greatest_int (Some (low +ℤ pos (length labels)))) ])
        from None = tt
        from (Some low) =
            let o : Option ℤ = within least_int greatest_int (Some (low +ℤ pos (length labels))) in
            so_mapped (λ (z : ℤ). Unit {0}) (AreAimed form.TableSwitch) (λ high. table_operands default (first ∷ labels) low high) o (λ high u. table_aimed default (first ∷ labels) low high) (so_any o)
  table_so _ = tt

  abbrev KeysAimed : List Operand → Type 0
  KeysAimed operands = (test : ℤ → Bool) → Passes test operands → list_all test (key_targets (flat_map (operand_numbers pool marks) operands)) ≡ true

  with_key_so : (key : ℤ) (label : List ℕ) (o : Option (List Operand)) → IsSo KeysAimed o → IsSo KeysAimed (with_key key label o)
  unfolding with_key target_labels operand_numbers key_targets
  with_key_so key label None h = tt
  with_key_so key label (Some operands) h = λ test e. let k = and_parts (test (pos (pc_of marks label))) _ e in and_from _ _ k.0 (h test k.1)

  keys_so : (before : Option ℤ) (words : List (List ℕ)) → IsSo KeysAimed (keys_above before words)
  unfolding keys_above key_targets
  keys_so before [] = λ test h. refl
  keys_so before (word ∷ []) = tt
  keys_so before (word ∷ label ∷ words) =
      elim (int_of word) as (λ o. IsSo KeysAimed (elim o [ None ↦ None | Some key ↦ if is_above before key && is_name label then with_key key label (keys_above (Some key) words) else None ])) [
        | None ↦ tt
        | Some key ↦
            so_if KeysAimed (is_above before key && is_name label) (with_key key label (keys_above (Some key) words)) None
            (with_key_so key label (keys_above (Some key) words) (keys_so (Some key) words)) tt
      ]

  behind_so : (default : List ℕ) (count : Option ℤ) (keys : Option (List Operand)) → IsSo KeysAimed keys → IsSo (AreAimed form.LookupSwitch) (lookup_behind default count keys)
  unfolding lookup_behind lookup_operands target_labels operand_numbers form_numbers targets_in lookup_targets
  behind_so default None keys h = tt
  behind_so default (Some count) None h = tt
  behind_so default (Some count) (Some keys) h = λ test e. let k = and_parts (test (pos (pc_of marks default))) _ e in and_from _ _ k.0 (h test k.1)

  lookup_so : (words : List (List ℕ)) → IsSo (AreAimed form.LookupSwitch) (lookup words)
  unfolding lookup
  lookup_so [] = tt
  lookup_so (default ∷ pairs) =
      let count : Option ℤ = within (pos 0) greatest_int (Some (pos (length pairs / 2))) in
      so_if (AreAimed form.LookupSwitch) (is_name default) (lookup_behind default count (keys_above None pairs)) None (behind_so default count (keys_above None pairs) (keys_so None pairs)) tt

  aimed_so : (f : Form) (r : Row) (words : List (List ℕ)) → IsSo (AreAimed f) (operands_of f r words)
  unfolding operands_of targets_in
  aimed_so form.Branch r words = target_so words
  aimed_so form.FarBranch r words = far_target_so words
  aimed_so form.TableSwitch r words = table_so words
  aimed_so form.LookupSwitch r words = lookup_so words
  aimed_so form.Wide r words = tt
  aimed_so form.LeftOut r words = tt
  aimed_so form.Unassigned r words = tt
  aimed_so f r words = always (AreAimed f) (λ operands test h. refl) (operands_of f r words)

  with_parts : (pc n : ℕ) (wide : Bool) (all : List Operand) → IsSaid (record { opcode = n; wide = wide; operands = all }) → (test : ℤ → Bool) → Passes test all
      → list_all test (targets_of (written_instr pool marks pc (record { opcode = n; wide = wide; operands = all }))) ≡ true
  unfolding targets_of written_instr form_of
  with_parts pc n true all said test h =
      ap (list_all test) (no_targets (form_at n) (form_numbers (wide_form_at n) pool marks all) (aimless_wide n said.1 said.2 all said.3))
  with_parts pc n false all said test h =
      from_so (AreAimed (form_at n)) (operands_of (form_at n) said.1 said.2) all said.3 (aimed_so (form_at n) said.1 said.2) test h

  pub instruction_aimed : (pc : ℕ) (i : Instruction) → IsSaid i → (test : ℤ → Bool) → Passes test i.operands → list_all test (targets_of (written_instr pool marks pc i)) ≡ true
  instruction_aimed pc i said test h = with_parts pc i.opcode i.wide i.operands said test h
