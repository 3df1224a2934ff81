-- Jumps lead to instructions.
use Rattle.std.proofs.Common.{◌≡◌, ℕ, zero, suc, ◌+◌, ◌⊎◌, inl, inr, Bool, true, false, List, [], ◌∷◌, ◌++◌, drop, Option, Some, None, refl, sym, ap, ◌∙◌, subst, arith}
use Rattle.std.specs.Prelude.{⊤, ℤ, pos, Contains, slice_index_or, ◌==◌, ◌-ℤ◌, int_lt, unsigned_abs, nat_le, if◌then◌else◌}
use Rattle.std.specs.Int.{w32, cast_unsigned, cast_signed}
use Rattle.std.specs.List.{list_all}
use Rattle.std.specs.Ordering.{int_eq}
use Rattle.class_grammar.specs.CodeGrammar.{target_operand, table_operands, lookup_operands, operands_part, wide_part, behind_opcode, instruction_part, table_targets, key_targets, lookup_targets, targets_in, targets_of}
use Rattle.class_grammar.specs.Opcodes.{Opcode, opcodes, unassigned, opcode_at, row_at, form_at, wide_form_of, is_left_out_wide, wide_form_at, opened_opcodes}
use Rattle.jx_base.specs.declared.class_file.ClassFile.{ClassFile}
use Rattle.jx_base.specs.declared.class_file.Instr.{Instr}
use Rattle.jx_base.specs.declared.fault.CodeKind.{CodeKind}
use Rattle.jx_base.specs.declared.fault.CodeKind.TheVariants as fault
use Rattle.jx_base.specs.declared.frame.Frame.{Frame}
use Rattle.jx_base.specs.declared.program.Plan.{Plan}
use Rattle.jx_base.specs.declared.program.System.{System}
use Rattle.jx_base.specs.declared.row.Conversion.{Conversion}
use Rattle.jx_base.specs.declared.row.Conversion.TheVariants as conversion
use Rattle.jx_base.specs.declared.row.Form.{Form}
use Rattle.jx_base.specs.declared.row.Form.TheVariants as form
use Rattle.jx_base.specs.declared.row.Kind.{Kind}
use Rattle.jx_base.specs.declared.row.Kind.TheVariants as kind
use Rattle.jx_base.specs.declared.row.Row.{Row}
use Rattle.jx_base.specs.declared.row.Row.TheVariants as row
use Rattle.jx_base.specs.declared.value.Value.{Value}
use Rattle.program_model.specs.Instructions.{Reading, instruction_at, operand, index_operand}
use Rattle.program_model.specs.Lookup.{method_at}
use Rattle.machine_model.specs.NumericRows.{Locals, Stack, NumericOutcome, depth_of, given, leaves, branches, load_row, store_row, discard_row, copy_row, swap_row, on_ints, on_longs, unless_by_zero, int_divide_row, long_divide_row, long_shift_row, negate_row, increment_row, convert_row, if_zero_row, if_ints_row, if_same_row, if_null_row, table_place, table_row, target_of, lookup_row, moving_row, arithmetic_row, branching_row, outcome_or, numeric_row}
use Rattle.machine_model.specs.NumericRows.{NumericOutcome as numeric}
use Rattle.machine_model.specs.State.{code_bytes, class_of_frame, stack_limit}
use Rattle.jx_base.proofs.BasicLaws.{both, eq_of}
use Rattle.link_model.specs.LinkFaults.{IsLinked}
use Rattle.link_laws.specs.Methods.{StartsAt}
use Rattle.link_laws.proofs.Hierarchy.{contains_among}
use Rattle.link_laws.proofs.Lists.{Among}
use Rattle.machine_laws.specs.Values.{IsPlaced}
use Rattle.sound_laws.proofs.Places.{placed, spelled_at, first_starts}

-- ---- outcomes

-- a jump of the outcome leads to such a place
abbrev pub Lands : (ℕ → Type 0) → NumericOutcome → Type 0
Lands T (numeric.Jump to locals stack) = T to
Lands T _ = ⊤

module _ (T : ℕ → Type 0) where
  given_lands : {A : Type 0} (o : Option A) (go : A → NumericOutcome) → ((x : A) → Lands T (go x)) → Lands T (given o go)
  unfolding given
  given_lands None go f = tt
  given_lands (Some x) go f = f x

  leaves_lands : (most : ℕ) (l : Locals) (k : Stack) → Lands T (leaves most l k)
  unfolding leaves
  leaves_lands most l k = by (nat_le (depth_of k) most)
    where
      by : (b : Bool) → Lands T (if b then numeric.Next l k else numeric.BadCode)
      by true = tt
      by false = tt

  branches_lands : (b : Bool) (to : ℕ) (l : Locals) (k : Stack) → T to → Lands T (branches b to l k)
  unfolding branches
  branches_lands true to l k h = h
  branches_lands false to l k h = tt

  by_zero_lands : (o : Option ℤ) (go : ℤ → NumericOutcome) → ((q : ℤ) → Lands T (go q)) → Lands T (unless_by_zero o go)
  unfolding unless_by_zero
  by_zero_lands None go f = tt
  by_zero_lands (Some q) go f = f q

  negate_lands : (most : ℕ) (k : Kind) (l : Locals) (st : Stack) → Lands T (negate_row most k l st)
  unfolding negate_row
  negate_lands most kind.Int l st = given_lands _ _ (λ a. leaves_lands most l _)
  negate_lands most kind.Long l st = given_lands _ _ (λ a. leaves_lands most l _)
  negate_lands most kind.Reference l st = given_lands _ _ (λ a. leaves_lands most l _)

  convert_lands : (most : ℕ) (c : Conversion) (l : Locals) (st : Stack) → Lands T (convert_row most c l st)
  unfolding convert_row
  convert_lands most conversion.IntToLong l st = given_lands _ _ (λ a. leaves_lands most l _)
  convert_lands most conversion.LongToInt l st = given_lands _ _ (λ a. leaves_lands most l _)
  convert_lands most conversion.IntToByte l st = given_lands _ _ (λ a. leaves_lands most l _)
  convert_lands most conversion.IntToChar l st = given_lands _ _ (λ a. leaves_lands most l _)
  convert_lands most conversion.IntToShort l st = given_lands _ _ (λ a. leaves_lands most l _)

  on_ints_lands : (most : ℕ) (f : ℤ → ℤ → Value) (l : Locals) (st : Stack) → Lands T (on_ints most f l st)
  unfolding on_ints
  on_ints_lands most f l st = given_lands _ _ (λ b. given_lands _ _ (λ a. leaves_lands most l _))

  on_longs_lands : (most : ℕ) (f : ℤ → ℤ → Value) (l : Locals) (st : Stack) → Lands T (on_longs most f l st)
  unfolding on_longs
  on_longs_lands most f l st = given_lands _ _ (λ b. given_lands _ _ (λ a. leaves_lands most l _))

  -- the rows that move values do not jump
  moving_lands : (s : System) (c most : ℕ) (r : Row) (i : Instr) (l : Locals) (st : Stack) → Lands T (moving_row s c most r i l st)
  unfolding moving_row load_row store_row discard_row copy_row swap_row
  moving_lands s c most row.Nop i l st = tt
  moving_lands s c most (row.Push v) i l st = leaves_lands most l _
  moving_lands s c most row.PushOperand i l st = leaves_lands most l _
  moving_lands s c most row.PushLong i l st = given_lands _ _ (λ v. leaves_lands most l _)
  moving_lands s c most (row.Load t place) i l st = given_lands _ _ (λ v. leaves_lands most l _)
  moving_lands s c most (row.Store t place) i l st = given_lands _ _ (λ v. given_lands _ _ (λ new. tt))
  moving_lands s c most (row.Discard n) i l st = given_lands _ _ (λ g. tt)
  moving_lands s c most (row.Copy copied under) i l st = given_lands _ _ (λ g. given_lands _ _ (λ h. leaves_lands most l _))
  moving_lands s c most row.Swap i l st = given_lands _ _ (λ g. given_lands _ _ (λ h. leaves_lands most l _))
  moving_lands s c most _ i l st = tt

  -- nor do those of arithmetic
  arithmetic_lands : (most : ℕ) (r : Row) (i : Instr) (l : Locals) (st : Stack) → Lands T (arithmetic_row most r i l st)
  unfolding arithmetic_row int_divide_row long_divide_row long_shift_row increment_row
  arithmetic_lands most (row.IntOperate o) i l st = on_ints_lands most _ l st
  arithmetic_lands most (row.LongOperate o) i l st = on_longs_lands most _ l st
  arithmetic_lands most (row.IntDivide d) i l st = given_lands _ _ (λ b. given_lands _ _ (λ a. by_zero_lands _ _ (λ q. leaves_lands most l _)))
  arithmetic_lands most (row.LongDivide d) i l st = given_lands _ _ (λ b. given_lands _ _ (λ a. by_zero_lands _ _ (λ q. leaves_lands most l _)))
  arithmetic_lands most row.IntNegate i l st = negate_lands most kind.Int l st
  arithmetic_lands most row.LongNegate i l st = negate_lands most kind.Long l st
  arithmetic_lands most (row.IntShift d) i l st = on_ints_lands most _ l st
  arithmetic_lands most (row.LongShift d) i l st = given_lands _ _ (λ b. given_lands _ _ (λ a. leaves_lands most l _))
  arithmetic_lands most row.Increment i l st = given_lands _ _ (λ k. tt)
  arithmetic_lands most (row.Convert t) i l st = convert_lands most t l st
  arithmetic_lands most row.CompareLongs i l st = on_longs_lands most _ l st
  arithmetic_lands most _ i l st = tt

-- ---- rows and forms

-- 1 for branches, 2 for tables and 3 for lookups
unfoldable row_kind : Row → ℕ
row_kind (row.IfZero c) = 1
row_kind (row.IfInts c) = 1
row_kind (row.IfSame b) = 1
row_kind (row.IfNull b) = 1
row_kind row.Goto = 1
row_kind row.TableSwitch = 2
row_kind row.LookupSwitch = 3
row_kind _ = 0

unfoldable form_kind : Form → ℕ
form_kind form.Branch = 1
form_kind form.FarBranch = 1
form_kind form.TableSwitch = 2
form_kind form.LookupSwitch = 3
form_kind _ = 0

-- they agree in the table
unfoldable agrees : Opcode → Bool
agrees o = row_kind o.row == form_kind o.form

all_agree : list_all agrees opcodes ≡ true
unfolding agrees row_kind form_kind opened_opcodes
all_agree = refl

other_agrees : agrees unassigned ≡ true
unfolding agrees row_kind form_kind opened_opcodes
other_agrees = refl

-- what passes in the table passes at each number
in_table : (xs : List Opcode) (d : Opcode) (n : ℕ) → list_all agrees xs ≡ true → agrees d ≡ true → agrees (slice_index_or xs n d) ≡ true
in_table [] d n h k = k
in_table (x ∷ xs) d zero h k = (both (agrees x) (list_all agrees xs) h).0
in_table (x ∷ xs) d (suc n) h k = in_table xs d n (both (agrees x) (list_all agrees xs) h).1 k

-- so an opcode's row and form agree
form_of_row : (n : ℕ) → row_kind (row_at n) ≡ form_kind (form_at n)
unfolding row_at form_at opcode_at agrees
form_of_row n = eq_of _ _ (in_table opcodes unassigned n all_agree other_agrees)

-- ---- shapes

-- what the operands of a switch are
abbrev IsShaped : ℕ → List ℤ → Type 0
IsShaped (suc (suc zero)) xs = (d low high : ℤ) × (more : List ℤ) × (xs ≡ d ∷ low ∷ high ∷ more)
IsShaped (suc (suc (suc zero))) xs = (d count : ℤ) × (more : List ℤ) × (xs ≡ d ∷ count ∷ more)
IsShaped _ xs = ⊤

operands_shaped : (missing : CodeKind) (pc : ℕ) (f : Form) (text : List ℕ) (xs : List ℤ) (rest : List ℕ) → (operands_part missing pc f).spells text xs rest → IsShaped (form_kind f) xs
unfolding operands_part target_operand table_operands lookup_operands form_kind
operands_shaped missing pc form.TableSwitch text xs rest h =
    (_, _, _, h.3.3.3.3.3.0, h.3.3.3.3.3.3.0 ∙ ap (λ (ys : List ℤ). ys ++ (cast_signed w32 h.3.3.0 ∷ cast_signed w32 h.3.3.3.0 ∷ h.3.3.3.3.3.0)) h.3.2.3.0)
operands_shaped missing pc form.LookupSwitch text xs rest h =
    (_, _, h.3.3.3.3.0, h.3.3.3.3.3.3.0 ∙ ap (λ (ys : List ℤ). ys ++ (cast_signed w32 h.3.3.0 ∷ h.3.3.3.3.0)) h.3.2.3.0)
operands_shaped missing pc _ text xs rest h = tt

-- behind wide stands no branch
none_wide : (r : Row) (k : ℕ) → row_kind r ≡ suc k → wide_form_of r ≡ form.Unassigned
unfolding row_kind wide_form_of
none_wide (row.IfZero c) k e = refl
none_wide (row.IfInts c) k e = refl
none_wide (row.IfSame b) k e = refl
none_wide (row.IfNull b) k e = refl
none_wide row.Goto k e = refl
none_wide row.TableSwitch k e = refl
none_wide row.LookupSwitch k e = refl
none_wide _ k e = absurd cc

no_wide : (pc n k : ℕ) (text : List ℕ) (xs : List ℤ) (rest : List ℕ) → row_kind (row_at n) ≡ suc k → (operands_part fault.BadWide pc (wide_form_at n)).spells text xs rest → ⊥
unfolding wide_form_at operands_part
no_wide pc n k text xs rest e h = by (is_left_out_wide n) h
  where
    by : (b : Bool) → (operands_part fault.BadWide pc (if b then form.LeftOut else wide_form_of (row_at n))).spells text xs rest → ⊥
    by true q = q
    by false q = subst (λ f. (operands_part fault.BadWide pc f).spells text xs rest) (none_wide (row_at n) k e) q

-- so the operands of each instruction have their shape
behind_shaped : (pc opcode : ℕ) (f : Form) (text : List ℕ) (i : Instr) (rest : List ℕ) → f ≡ form_at opcode → (behind_opcode pc opcode f).spells text i rest → IsShaped (form_kind (form_at i.opcode)) i.operands
unfolding behind_opcode wide_part
behind_shaped pc opcode form.Wide text i rest e h =
    subst (λ (x : Instr). IsShaped (form_kind (form_at x.opcode)) x.operands) (sym h.3.3.0) (by (row_kind (row_at h.0)) refl)
  where
    by : (k : ℕ) → row_kind (row_at h.0) ≡ k → IsShaped (form_kind (form_at h.0)) h.3.0
    by zero q = subst (λ n. IsShaped n h.3.0) (sym q ∙ form_of_row h.0) tt
    by (suc k) q = absurd (no_wide pc h.0 k h.1 h.3.0 h.3.1 q h.3.2)
behind_shaped pc opcode f text i rest e h =
    subst (λ (x : Instr). IsShaped (form_kind (form_at x.opcode)) x.operands) (sym h.3.0) (subst (λ (g : Form). IsShaped (form_kind g) h.0) e (operands_shaped fault.Opcode pc f text h.0 h.1 h.2))

shaped_at : (code : List ℕ) (pc : ℕ) (r : Reading) → instruction_at code pc ≡ Some r → IsShaped (form_kind (form_at r.instr.opcode)) r.instr.operands
unfolding instruction_part
shaped_at code pc r e = let x = spelled_at code pc r e in let h = x.1 in behind_shaped pc h.0 (form_at h.0) h.1 r.instr x.0 refl h.3

-- ---- targets

branch_targets : (f : Form) (xs : List ℤ) → form_kind f ≡ 1 → targets_in f xs ≡ xs
unfolding form_kind targets_in
branch_targets form.Branch xs e = refl
branch_targets form.FarBranch xs e = refl
branch_targets _ xs e = absurd cc

switch_targets : (f : Form) (xs : List ℤ) → form_kind f ≡ 2 → targets_in f xs ≡ table_targets xs
unfolding form_kind targets_in
switch_targets form.TableSwitch xs e = refl
switch_targets _ xs e = absurd cc

keyed_targets : (f : Form) (xs : List ℤ) → form_kind f ≡ 3 → targets_in f xs ≡ lookup_targets xs
unfolding form_kind targets_in
keyed_targets form.LookupSwitch xs e = refl
keyed_targets _ xs e = absurd cc

-- an item at a place, or 0 where there is none
item_at : (xs : List ℤ) (n : ℕ) → Among xs (slice_index_or xs n (pos 0)) ⊎ (slice_index_or xs n (pos 0) ≡ pos 0)
item_at [] n = inr refl
item_at (x ∷ xs) zero = inl (inl refl)
item_at (x ∷ xs) (suc n) = elim (item_at xs n) [ inl a ↦ inl (inr a) | inr e ↦ inr e ]

-- the target of a key is the default or one of the pairs
target_among : (pairs : List ℤ) (key other : ℤ) → (target_of pairs key other ≡ other) ⊎ Among (key_targets pairs) (target_of pairs key other)
unfolding target_of key_targets
target_among [] key other = inl refl
target_among (k ∷ []) key other = inl refl
target_among (k ∷ to ∷ pairs) key other = by (int_eq k key) (target_among pairs key other)
  where
    by : (b : Bool) → (target_of pairs key other ≡ other) ⊎ Among (key_targets pairs) (target_of pairs key other)
        → ((elim b as (λ _. ℤ) [ true ↦ to | false ↦ target_of pairs key other ]) ≡ other) ⊎ Among (to ∷ key_targets pairs) (elim b as (λ _. ℤ) [ true ↦ to | false ↦ target_of pairs key other ])
    by true h = inr (inl refl)
    by false (inl e) = inl e
    by false (inr a) = inr (inr a)

module _ (instrs : List Instr) (i : Instr) (all : (place : ℤ) → Contains (targets_of i) place → StartsAt instrs place) where
  -- the start of the code, or of an instruction
  abbrev IsStart : ℕ → Type 0
  IsStart to = (to ≡ 0) ⊎ StartsAt instrs (pos to)

  -- a target is one
  hit : (place : ℤ) → Among (targets_of i) place → IsStart (cast_unsigned w32 place)
  hit place a =
      let h = all place (contains_among (targets_of i) place a) in
      inr (subst (λ z. StartsAt instrs (pos (cast_unsigned w32 z))) h.2 (h.0, h.1, refl))

  -- so is an operand of a branch
  branch_hit : form_kind (form_at i.opcode) ≡ 1 → (n : ℕ) → IsStart (index_operand i n)
  unfolding index_operand operand targets_of
  branch_hit e n = elim (item_at i.operands n) [
    | inl a ↦ hit _ (subst (λ xs. Among xs (slice_index_or i.operands n (pos 0))) (sym (branch_targets (form_at i.opcode) i.operands e)) a)
    | inr z ↦ inl (ap (cast_unsigned w32) z)
  ]

  -- and the one that a table gives
  table_hit : form_kind (form_at i.opcode) ≡ 2 → IsShaped 2 i.operands → (key : ℤ) → IsStart (index_operand i (table_place (operand i 1) (operand i 2) key))
  unfolding index_operand operand targets_of table_place table_targets
  table_hit e h key = by (int_lt key (operand i 1)) (int_lt (operand i 2) key) (unsigned_abs (key -ℤ operand i 1))
    where
      mine : (place : ℤ) → Among (h.0 ∷ h.3) place → IsStart (cast_unsigned w32 place)
      mine place a = hit place (subst (λ xs. Among xs place) (sym (switch_targets (form_at i.opcode) i.operands e ∙ ap table_targets h.4)) a)

      first : IsStart (cast_unsigned w32 (slice_index_or i.operands 0 (pos 0)))
      first = subst (λ (xs : List ℤ). IsStart (cast_unsigned w32 (slice_index_or xs 0 (pos 0)))) (sym h.4) (mine h.0 (inl refl))

      later : (k : ℕ) → IsStart (cast_unsigned w32 (slice_index_or i.operands (suc (suc (suc k))) (pos 0)))
      later k = subst (λ (xs : List ℤ). IsStart (cast_unsigned w32 (slice_index_or xs (suc (suc (suc k))) (pos 0)))) (sym h.4) (elim (item_at h.3 k) [
        | inl a ↦ mine _ (inr a)
        | inr z ↦ inl (ap (cast_unsigned w32) z)
      ])

      shift : (k : ℕ) → suc (suc (suc k)) ≡ 3 + k
      shift k = omega arith

      by : (a b : Bool) (k : ℕ) → IsStart (cast_unsigned w32 (slice_index_or i.operands (if a then 0 else if b then 0 else 3 + k) (pos 0)))
      by true b k = first
      by false true k = first
      by false false k = subst (λ n. IsStart (cast_unsigned w32 (slice_index_or i.operands n (pos 0)))) (shift k) (later k)

  -- and the one of a key
  lookup_hit : form_kind (form_at i.opcode) ≡ 3 → IsShaped 3 i.operands → (key : ℤ) → IsStart (cast_unsigned w32 (target_of (drop 2 i.operands) key (operand i 0)))
  unfolding operand targets_of lookup_targets
  lookup_hit e h key =
      subst (λ (xs : List ℤ). IsStart (cast_unsigned w32 (target_of (drop 2 xs) key (slice_index_or xs 0 (pos 0))))) (sym h.3) (elim (target_among h.2 key h.0) [
        | inl z ↦ subst (λ p. IsStart (cast_unsigned w32 p)) (sym z) (mine h.0 (inl refl))
        | inr a ↦ mine _ (inr a)
      ])
    where
      mine : (place : ℤ) → Among (h.0 ∷ key_targets h.2) place → IsStart (cast_unsigned w32 place)
      mine place a = hit place (subst (λ xs. Among xs place) (sym (keyed_targets (form_at i.opcode) i.operands e ∙ ap lookup_targets h.3)) a)

  -- the rows of branches land there
  branching_lands : (r : Row) (l : Locals) (st : Stack) → row_kind r ≡ form_kind (form_at i.opcode) → IsShaped (form_kind (form_at i.opcode)) i.operands → Lands IsStart (branching_row r i l st)
  unfolding branching_row row_kind if_zero_row if_ints_row if_same_row if_null_row table_row lookup_row
  branching_lands (row.IfZero c) l st e h = given_lands IsStart _ _ (λ a. branches_lands IsStart _ _ l _ (branch_hit (sym e) 0))
  branching_lands (row.IfInts c) l st e h = given_lands IsStart _ _ (λ b. given_lands IsStart _ _ (λ a. branches_lands IsStart _ _ l _ (branch_hit (sym e) 0)))
  branching_lands (row.IfSame w) l st e h = given_lands IsStart _ _ (λ b. given_lands IsStart _ _ (λ a. branches_lands IsStart _ _ l _ (branch_hit (sym e) 0)))
  branching_lands (row.IfNull w) l st e h = given_lands IsStart _ _ (λ a. branches_lands IsStart _ _ l _ (branch_hit (sym e) 0))
  branching_lands row.Goto l st e h = branch_hit (sym e) 0
  branching_lands row.TableSwitch l st e h = given_lands IsStart _ _ (λ key. table_hit (sym e) (subst (λ n. IsShaped n i.operands) (sym e) h) key)
  branching_lands row.LookupSwitch l st e h = given_lands IsStart _ _ (λ key. lookup_hit (sym e) (subst (λ n. IsShaped n i.operands) (sym e) h) key)
  branching_lands _ l st e h = tt

-- where the first outcome lands, and the other one, either does
outcome_or_lands : (T : ℕ → Type 0) (o other : NumericOutcome) → Lands T o → Lands T other → Lands T (outcome_or o other)
unfolding outcome_or
outcome_or_lands T (numeric.Next l k) other h i = tt
outcome_or_lands T (numeric.Jump to l k) other h i = h
outcome_or_lands T (numeric.Raise c) other h i = tt
outcome_or_lands T numeric.BadCode other h i = tt
outcome_or_lands T numeric.NotMine other h i = i

module _ (plan : Plan) (files : List ClassFile) (s : System) (from : IsLinked plan files s) where
  -- a jump leads to an instruction
  pub jumps : (f g : Frame) (r : Reading) (to : ℕ) (l : Locals) (k : Stack) → IsPlaced s f → instruction_at (code_bytes s f) f.pc ≡ Some r →
      numeric_row s (class_of_frame s f) (stack_limit s f) r.instr f.locals f.stack.values ≡ numeric.Jump to l k → g.method ≡ f.method → g.pc ≡ to → IsPlaced s g
  unfolding numeric_row
  jumps f g r to l k here e q em ep = placed plan files s from g (λ m c there coded w.
      let inside = here m r (ap (method_at s) (sym em) ∙ there) e in
      let all = w.targets r.instr in
      let i = r.instr in
      inl (starts m.instrs (first_starts c m.instrs w)
      (subst (Lands (start m.instrs)) q (outcome_or_lands (start m.instrs) _ _ (moving_lands (start m.instrs) s (class_of_frame s f) (stack_limit s f) (row_at i.opcode) i f.locals f.stack.values)
      (outcome_or_lands (start m.instrs) _ _ (arithmetic_lands (start m.instrs) (stack_limit s f) (row_at i.opcode) i f.locals f.stack.values)
      (branching_lands m.instrs i (λ place a. all place inside a) (row_at i.opcode) f.locals f.stack.values (form_of_row i.opcode) (shaped_at (code_bytes s f) f.pc r e)))))))
    where
      start : List Instr → ℕ → Type 0
      start instrs to = (to ≡ 0) ⊎ StartsAt instrs (pos to)

      starts : (instrs : List Instr) → StartsAt instrs (pos 0) → (to ≡ 0) ⊎ StartsAt instrs (pos to) → StartsAt instrs (pos g.pc)
      starts instrs zeroth (inl z) = subst (λ n. StartsAt instrs (pos n)) (sym (ep ∙ z)) zeroth
      starts instrs zeroth (inr h) = subst (λ n. StartsAt instrs (pos n)) (sym ep) h
