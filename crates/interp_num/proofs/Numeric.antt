-- Which rows are numeric: exactly those whose outcome is not left to another.
use Rattle.std.proofs.Common.{◌≡◌, ◌⊎◌, inl, inr, ℕ, refl, Bool, true, false, Option, Some, None, ◌∷◌}
use Rattle.std.specs.Prelude.{ℤ, if◌then◌else◌}
use Rattle.jx_base.specs.declared.class_file.Instr.{Instr}
use Rattle.jx_base.specs.declared.program.System.{System}
use Rattle.jx_base.specs.declared.row.Conversion.{Conversion}
use Rattle.jx_base.specs.declared.row.Conversion.TheVariants as conversion
use Rattle.jx_base.specs.declared.row.Row.{Row}
use Rattle.jx_base.specs.declared.row.Row.TheVariants as row
use Rattle.class_grammar.specs.Opcodes.{row_at}
use Rattle.machine_model.specs.NumericRows.{NumericOutcome, Locals, Stack, given, leaves, branches, unless_by_zero, moving_row, arithmetic_row, branching_row, outcome_or, load_row, store_row, discard_row, copy_row, swap_row, on_ints, on_longs, int_divide_row, long_divide_row, long_shift_row, negate_row, increment_row, convert_row, if_zero_row, if_ints_row, if_same_row, if_null_row, table_row, lookup_row, numeric_row}
use Rattle.machine_model.specs.NumericRows.{NumericOutcome as outcome}
use Rattle.interp_num.specs.Steps.{is_numeric}

-- the outcome is not left to another row
abbrev IsMine : NumericOutcome → Type 0
IsMine outcome.NotMine = ⊥
IsMine _ = Unit {0}

or_mine : (x y : NumericOutcome) → IsMine x → IsMine (outcome_or x y)
unfolding outcome_or
or_mine (outcome.Next l k) y h = tt
or_mine (outcome.Jump to l k) y h = tt
or_mine (outcome.Raise c) y h = tt
or_mine outcome.BadCode y h = tt
or_mine outcome.NotMine y h = absurd h

given_mine : {A : Type 0} (o : Option A) (go : A → NumericOutcome) → ((x : A) → IsMine (go x)) → IsMine (given o go)
unfolding given
given_mine None go h = tt
given_mine (Some x) go h = h x

division_mine : (o : Option ℤ) (go : ℤ → NumericOutcome) → ((x : ℤ) → IsMine (go x)) → IsMine (unless_by_zero o go)
unfolding unless_by_zero
division_mine None go h = tt
division_mine (Some x) go h = h x

if_mine : (b : Bool) (x y : NumericOutcome) → IsMine x → IsMine y → IsMine (if b then x else y)
if_mine true x y h k = h
if_mine false x y h k = k

leaves_mine : (most : ℕ) (l : Locals) (k : Stack) → IsMine (leaves most l k)
unfolding leaves
leaves_mine most l k = if_mine _ (outcome.Next l k) outcome.BadCode tt tt

branches_mine : (b : Bool) (to : ℕ) (l : Locals) (k : Stack) → IsMine (branches b to l k)
unfolding branches
branches_mine b to l k = if_mine b (outcome.Jump to l k) (outcome.Next l k) tt tt

module _ (s : System) (c most : ℕ) (i : Instr) (l : Locals) (k : Stack) where
  -- the outcome of a row
  abbrev by_row : Row → NumericOutcome
  by_row r = outcome_or (moving_row s c most r i l k) (outcome_or (arithmetic_row most r i l k) (branching_row r i l k))

  convert_mine : (o : Conversion) → IsMine (convert_row most o l k)
  unfolding convert_row
  convert_mine conversion.IntToLong = given_mine _ _ (λ n. leaves_mine most l _)
  convert_mine conversion.LongToInt = given_mine _ _ (λ n. leaves_mine most l _)
  convert_mine conversion.IntToByte = given_mine _ _ (λ n. leaves_mine most l _)
  convert_mine conversion.IntToChar = given_mine _ _ (λ n. leaves_mine most l _)
  convert_mine conversion.IntToShort = given_mine _ _ (λ n. leaves_mine most l _)

  decided : (r : Row) → ((is_numeric r ≡ true) × IsMine (by_row r)) ⊎ ((is_numeric r ≡ false) × (by_row r ≡ outcome.NotMine))
  unfolding is_numeric moving_row arithmetic_row branching_row outcome_or load_row store_row discard_row copy_row swap_row on_ints on_longs int_divide_row long_divide_row long_shift_row negate_row increment_row if_zero_row if_ints_row if_same_row if_null_row table_row lookup_row
  decided row.Nop = inl (refl, tt)
  decided (row.Push v) = inl (refl, or_mine _ _ (leaves_mine most l (v ∷ k)))
  decided row.PushOperand = inl (refl, or_mine _ _ (leaves_mine most l _))
  decided row.PushLong = inl (refl, or_mine _ _ (given_mine _ _ (λ v. leaves_mine most l (v ∷ k))))
  decided (row.Load a b) = inl (refl, or_mine _ _ (given_mine _ _ (λ v. leaves_mine most l (v ∷ k))))
  decided (row.Store a b) = inl (refl, or_mine _ _ (given_mine _ _ (λ v. given_mine _ _ (λ new. tt))))
  decided (row.Discard a) = inl (refl, or_mine _ _ (given_mine _ _ (λ g. tt)))
  decided (row.Copy a b) = inl (refl, or_mine _ _ (given_mine _ _ (λ g. given_mine _ _ (λ h. leaves_mine most l _))))
  decided row.Swap = inl (refl, or_mine _ _ (given_mine _ _ (λ g. given_mine _ _ (λ h. leaves_mine most l _))))
  decided (row.IntOperate o) = inl (refl, or_mine _ _ (given_mine _ _ (λ b. given_mine _ _ (λ a. leaves_mine most l _))))
  decided (row.LongOperate o) = inl (refl, or_mine _ _ (given_mine _ _ (λ b. given_mine _ _ (λ a. leaves_mine most l _))))
  decided (row.IntDivide o) = inl (refl, or_mine _ _ (given_mine _ _ (λ b. given_mine _ _ (λ a. division_mine _ _ (λ q. leaves_mine most l _)))))
  decided (row.LongDivide o) = inl (refl, or_mine _ _ (given_mine _ _ (λ b. given_mine _ _ (λ a. division_mine _ _ (λ q. leaves_mine most l _)))))
  decided row.IntNegate = inl (refl, or_mine _ _ (given_mine _ _ (λ a. leaves_mine most l _)))
  decided row.LongNegate = inl (refl, or_mine _ _ (given_mine _ _ (λ a. leaves_mine most l _)))
  decided (row.IntShift o) = inl (refl, or_mine _ _ (given_mine _ _ (λ b. given_mine _ _ (λ a. leaves_mine most l _))))
  decided (row.LongShift o) = inl (refl, or_mine _ _ (given_mine _ _ (λ b. given_mine _ _ (λ a. leaves_mine most l _))))
  decided row.Increment = inl (refl, or_mine _ _ (given_mine _ _ (λ n. tt)))
  decided (row.Convert o) = inl (refl, or_mine _ _ (convert_mine o))
  decided row.CompareLongs = inl (refl, or_mine _ _ (given_mine _ _ (λ b. given_mine _ _ (λ a. leaves_mine most l _))))
  decided (row.IfZero o) = inl (refl, given_mine _ _ (λ a. branches_mine _ _ l _))
  decided (row.IfInts o) = inl (refl, given_mine _ _ (λ b. given_mine _ _ (λ a. branches_mine _ _ l _)))
  decided (row.IfSame o) = inl (refl, given_mine _ _ (λ b. given_mine _ _ (λ a. branches_mine _ _ l _)))
  decided (row.IfNull o) = inl (refl, given_mine _ _ (λ a. branches_mine _ _ l _))
  decided row.Goto = inl (refl, tt)
  decided row.TableSwitch = inl (refl, given_mine _ _ (λ a. tt))
  decided row.LookupSwitch = inl (refl, given_mine _ _ (λ a. tt))
  decided row.PushConstant = inr (refl, refl)
  decided (row.LoadElement e) = inr (refl, refl)
  decided (row.StoreElement e) = inr (refl, refl)
  decided (row.Return e) = inr (refl, refl)
  decided row.ReturnVoid = inr (refl, refl)
  decided row.GetStatic = inr (refl, refl)
  decided row.PutStatic = inr (refl, refl)
  decided row.GetField = inr (refl, refl)
  decided row.PutField = inr (refl, refl)
  decided (row.Invoke e) = inr (refl, refl)
  decided row.New = inr (refl, refl)
  decided row.NewArray = inr (refl, refl)
  decided row.NewReferenceArray = inr (refl, refl)
  decided row.NewMultiArray = inr (refl, refl)
  decided row.ArrayLength = inr (refl, refl)
  decided row.Throw = inr (refl, refl)
  decided row.CheckCast = inr (refl, refl)
  decided row.InstanceOf = inr (refl, refl)
  decided row.Missing = inr (refl, refl)

  is_mine_not : (r : NumericOutcome) → IsMine r → r ≡ outcome.NotMine → ⊥
  is_mine_not outcome.NotMine h e = h
  is_mine_not (outcome.Next l k) h e = cc
  is_mine_not (outcome.Jump to l k) h e = cc
  is_mine_not (outcome.Raise c) h e = cc
  is_mine_not outcome.BadCode h e = cc

  -- a row that is none on numbers is left to another
  pub left : numeric_row s c most i l k ≡ outcome.NotMine → is_numeric (row_at i.opcode) ≡ false
  unfolding numeric_row
  left e = elim (decided (row_at i.opcode)) [ inl x ↦ absurd (is_mine_not _ x.1 e) | inr x ↦ x.0 ]

  -- and no other
  pub other : is_numeric (row_at i.opcode) ≡ false → numeric_row s c most i l k ≡ outcome.NotMine
  unfolding numeric_row
  other e = elim (decided (row_at i.opcode)) [ inl x ↦ cc | inr x ↦ x.1 ]
