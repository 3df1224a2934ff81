-- The rows on numbers, the stack and locals leave stacks within their limit.
use Rattle.std.proofs.Common.{◌≡◌, ℕ, ◌≤◌, ℤ, Bool, true, false, ◌∷◌, length, drop, Option, Some, None, refl, arith}
use Rattle.std.specs.Prelude.{nat_le, if◌then◌else◌}
use Rattle.std.proofs.lemmas.Bool.Decides.{nat_tests}
use Rattle.std.proofs.lemmas.List.Sums.{sum_by-take-drop}
use Rattle.class_grammar.specs.Opcodes.{row_at}
use Rattle.jx_base.specs.declared.class_file.Instr.{Instr}
use Rattle.jx_base.specs.declared.program.System.{System}
use Rattle.jx_base.specs.declared.row.Conversion.{Conversion}
use Rattle.jx_base.specs.declared.row.Conversion.TheVariants as conversion
use Rattle.jx_base.specs.declared.row.Kind.{Kind}
use Rattle.jx_base.specs.declared.row.Kind.TheVariants as kind
use Rattle.jx_base.specs.declared.row.Row.{Row}
use Rattle.jx_base.specs.declared.row.Row.TheVariants as row
use Rattle.jx_base.specs.declared.value.Value.{Value}
use Rattle.machine_model.specs.NumericRows.{Locals, Stack, NumericOutcome, depth_of, slots_of, given, leaves, branches, load_row, store_row, discard_row, copy_row, swap_row, on_ints, on_longs, unless_by_zero, int_divide_row, long_divide_row, long_shift_row, negate_row, increment_row, convert_row, if_zero_row, if_ints_row, if_same_row, if_null_row, table_row, lookup_row, moving_row, arithmetic_row, branching_row, outcome_or, numeric_row}
use Rattle.machine_model.specs.NumericRows.{NumericOutcome as numeric}

-- a stack that a row leaves is within the limit
abbrev pub LeavesWithin : ℕ → NumericOutcome → Type 0
LeavesWithin most (numeric.Next l k) = depth_of k ≤ most
LeavesWithin most (numeric.Jump to l k) = depth_of k ≤ most
LeavesWithin most _ = Unit {0}

-- what is below some values is no deeper
pub drop_within : (most n : ℕ) (st : Stack) → depth_of st ≤ most → depth_of (drop n st) ≤ most
unfolding depth_of
drop_within most n st h = omega (arith, h, sum_by-take-drop slots_of st n)

module _ (most : ℕ) where
  -- the outcome is within the limit
  abbrev Within : NumericOutcome → Type 0
  Within o = LeavesWithin most o

  given_within : {A : Type 0} (o : Option A) (go : A → NumericOutcome) → ((x : A) → Within (go x)) → Within (given o go)
  unfolding given
  given_within None go f = tt
  given_within (Some x) go f = f x

  leaves_within : (l : Locals) (k : Stack) → Within (leaves most l k)
  unfolding leaves
  leaves_within l k = by (nat_le (depth_of k) most) refl
    where
      by : (b : Bool) → nat_le (depth_of k) most ≡ b → Within (if b then numeric.Next l k else numeric.BadCode)
      by true e = grind (arith, nat_tests, e)
      by false e = tt

  branches_within : (b : Bool) (to : ℕ) (l : Locals) (k : Stack) → depth_of k ≤ most → Within (branches b to l k)
  unfolding branches
  branches_within true to l k h = h
  branches_within false to l k h = h

  by_zero_within : (o : Option ℤ) (go : ℤ → NumericOutcome) → ((q : ℤ) → Within (go q)) → Within (unless_by_zero o go)
  unfolding unless_by_zero
  by_zero_within None go f = tt
  by_zero_within (Some q) go f = f q

  module _ (l : Locals) (st : Stack) (h : depth_of st ≤ most) where
    moving_within : (s : System) (c : ℕ) (r : Row) (i : Instr) → Within (moving_row s c most r i l st)
    unfolding moving_row load_row store_row discard_row copy_row swap_row
    moving_within s c row.Nop i = h
    moving_within s c (row.Push v) i = leaves_within l (v ∷ st)
    moving_within s c row.PushOperand i = leaves_within l (_ ∷ st)
    moving_within s c row.PushLong i = given_within _ _ (λ v. leaves_within l (v ∷ st))
    moving_within s c (row.Load k place) i = given_within _ _ (λ v. leaves_within l (v ∷ st))
    moving_within s c (row.Store k place) i = given_within _ _ (λ v. given_within _ _ (λ new. drop_within most 1 st h))
    moving_within s c (row.Discard n) i = given_within _ _ (λ g. drop_within most (length g) st h)
    moving_within s c (row.Copy copied under) i = given_within _ _ (λ g. given_within _ _ (λ k. leaves_within l _))
    moving_within s c row.Swap i = given_within _ _ (λ g. given_within _ _ (λ k. leaves_within l _))
    moving_within s c _ i = tt

    on_ints_within : (f : ℤ → ℤ → Value) → Within (on_ints most f l st)
    unfolding on_ints
    on_ints_within f = given_within _ _ (λ b. given_within _ _ (λ a. leaves_within l _))

    on_longs_within : (f : ℤ → ℤ → Value) → Within (on_longs most f l st)
    unfolding on_longs
    on_longs_within f = given_within _ _ (λ b. given_within _ _ (λ a. leaves_within l _))

    negate_within : (k : Kind) → Within (negate_row most k l st)
    unfolding negate_row
    negate_within kind.Int = given_within _ _ (λ a. leaves_within l _)
    negate_within kind.Long = given_within _ _ (λ a. leaves_within l _)
    negate_within kind.Reference = given_within _ _ (λ a. leaves_within l _)

    convert_within : (c : Conversion) → Within (convert_row most c l st)
    unfolding convert_row
    convert_within conversion.IntToLong = given_within _ _ (λ a. leaves_within l _)
    convert_within conversion.LongToInt = given_within _ _ (λ a. leaves_within l _)
    convert_within conversion.IntToByte = given_within _ _ (λ a. leaves_within l _)
    convert_within conversion.IntToChar = given_within _ _ (λ a. leaves_within l _)
    convert_within conversion.IntToShort = given_within _ _ (λ a. leaves_within l _)

    arithmetic_within : (r : Row) (i : Instr) → Within (arithmetic_row most r i l st)
    unfolding arithmetic_row int_divide_row long_divide_row long_shift_row increment_row
    arithmetic_within (row.IntOperate o) i = on_ints_within _
    arithmetic_within (row.LongOperate o) i = on_longs_within _
    arithmetic_within (row.IntDivide d) i = given_within _ _ (λ b. given_within _ _ (λ a. by_zero_within _ _ (λ q. leaves_within l _)))
    arithmetic_within (row.LongDivide d) i = given_within _ _ (λ b. given_within _ _ (λ a. by_zero_within _ _ (λ q. leaves_within l _)))
    arithmetic_within row.IntNegate i = negate_within kind.Int
    arithmetic_within row.LongNegate i = negate_within kind.Long
    arithmetic_within (row.IntShift d) i = on_ints_within _
    arithmetic_within (row.LongShift d) i = given_within _ _ (λ k. given_within _ _ (λ a. leaves_within l _))
    arithmetic_within row.Increment i = given_within _ _ (λ k. h)
    arithmetic_within (row.Convert c) i = convert_within c
    arithmetic_within row.CompareLongs i = on_longs_within _
    arithmetic_within _ i = tt

    branching_within : (r : Row) (i : Instr) → Within (branching_row r i l st)
    unfolding branching_row if_zero_row if_ints_row if_same_row if_null_row table_row lookup_row
    branching_within (row.IfZero c) i = given_within _ _ (λ a. branches_within _ _ l (drop 1 st) (drop_within most 1 st h))
    branching_within (row.IfInts c) i = given_within _ _ (λ b. given_within _ _ (λ a. branches_within _ _ l (drop 2 st) (drop_within most 2 st h)))
    branching_within (row.IfSame wanted) i = given_within _ _ (λ b. given_within _ _ (λ a. branches_within _ _ l (drop 2 st) (drop_within most 2 st h)))
    branching_within (row.IfNull wanted) i = given_within _ _ (λ a. branches_within _ _ l (drop 1 st) (drop_within most 1 st h))
    branching_within row.Goto i = h
    branching_within row.TableSwitch i = given_within _ _ (λ key. drop_within most 1 st h)
    branching_within row.LookupSwitch i = given_within _ _ (λ key. drop_within most 1 st h)
    branching_within _ i = tt

  either_within : (o other : NumericOutcome) → Within o → Within other → Within (outcome_or o other)
  unfolding outcome_or
  either_within (numeric.Next l k) other h i = h
  either_within (numeric.Jump to l k) other h i = h
  either_within (numeric.Raise c) other h i = h
  either_within numeric.BadCode other h i = h
  either_within numeric.NotMine other h i = i

  -- an instruction on numbers leaves a stack within the limit
  pub numeric_within : (s : System) (c : ℕ) (i : Instr) (l : Locals) (st : Stack) → depth_of st ≤ most → Within (numeric_row s c most i l st)
  unfolding numeric_row
  numeric_within s c i l st h =
      either_within (moving_row s c most (row_at i.opcode) i l st) (outcome_or (arithmetic_row most (row_at i.opcode) i l st) (branching_row (row_at i.opcode) i l st))
      (moving_within l st h s c (row_at i.opcode) i)
      (either_within (arithmetic_row most (row_at i.opcode) i l st) (branching_row (row_at i.opcode) i l st) (arithmetic_within l st h (row_at i.opcode) i) (branching_within l st h (row_at i.opcode) i))
