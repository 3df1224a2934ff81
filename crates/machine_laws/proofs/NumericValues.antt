-- The rows on numbers, the stack and locals make values of values.
use Rattle.std.proofs.Common.{◌≡◌, refl, ◌∙◌, ap, subst, ℕ, zero, suc, ◌+◌, ◌<◌, ℤ, pos, negsuc, Bool, true, false, List, [], ◌∷◌, ◌++◌, length, drop, Option, Some, None, is_some, arith, slice_get}
use Rattle.std.specs.Prelude.{FitsSigned, slice_set, nat_le, if◌then◌else◌, slice_index_or, ◌+ℤ◌}
use Rattle.std.specs.List.{AllByRecursion, list_all}
use Rattle.std.specs.Option.{option_flatten}
use Rattle.std.specs.Int.{w8, w16, w32, w64, int_wrap}
use Rattle.std.proofs.lemmas.Bool.Decides.{nat_tests}
use Rattle.std.proofs.lemmas.Int.{SFits-int_wrap}
use Rattle.class_grammar.specs.Opcodes.{Opcode, opcodes, unassigned, opcode_at, row_at, opened_opcodes}
use Rattle.jx_base.specs.declared.class_file.Instr.{Instr}
use Rattle.jx_base.specs.declared.program.Resolved.{Resolved}
use Rattle.jx_base.specs.declared.program.Resolved.TheVariants as resolved
use Rattle.jx_base.specs.declared.program.System.{System}
use Rattle.jx_base.specs.declared.row.Row.{Row}
use Rattle.jx_base.specs.declared.row.Row.TheVariants as row
use Rattle.jx_base.specs.declared.row.Kind.{Kind}
use Rattle.jx_base.specs.declared.row.Kind.TheVariants as kind
use Rattle.jx_base.specs.declared.row.Slots.{Slots}
use Rattle.jx_base.specs.declared.row.Slots.TheVariants as slots
use Rattle.jx_base.specs.declared.row.Division.{Division}
use Rattle.jx_base.specs.declared.row.Shift.{Shift}
use Rattle.jx_base.specs.declared.row.Conversion.{Conversion}
use Rattle.jx_base.specs.declared.row.Conversion.TheVariants as conversion
use Rattle.jx_base.specs.declared.row.Comparison.{Comparison}
use Rattle.jx_base.specs.declared.value.Value.{Value}
use Rattle.jx_base.specs.declared.value.Value.TheVariants as value
use Rattle.program_model.specs.Arithmetic.{operation_result, negation, quotient_or_none, int_shift_result, long_shift_result, low_bits, low_char, is_met, order_of}
use Rattle.program_model.specs.BuiltIn.{built_in_count, built_in_table, arithmetic_exception, opened_built_in}
use Rattle.jx_base.specs.Histories.{Past}
use Rattle.program_model.specs.Instructions.{operand, index_operand}
use Rattle.program_model.specs.Lookup.{constant_at}
use Rattle.machine_model.specs.NumericRows.{Locals, Stack, NumericOutcome, depth_of, slots_of, as_kind, as_reference, int_of, long_of, top, top_int, top_long, top_reference, single, double, group_of, given, leaves, branches, local_of, set_local, with_local, place_of, load_row, store_row, discard_row, copy_row, swap_row, on_ints, on_longs, unless_by_zero, int_divide_row, long_divide_row, long_shift_row, negate_row, increment_row, convert_row, is_wanted, is_same, is_null, if_zero_row, if_ints_row, if_same_row, if_null_row, table_row, lookup_row, long_constant, moving_row, arithmetic_row, branching_row, outcome_or, numeric_row}
use Rattle.machine_model.specs.NumericRows.{NumericOutcome as numeric}
use Rattle.machine_model.specs.State.{Store}
use Rattle.jx_model.specs.WellMade.{IsClass}
use Rattle.program_model.specs.Ranges.{has_bits}
use Rattle.jx_base.proofs.BasicLaws.{both}
use Rattle.machine_laws.specs.Values.{IsValueIn, IsValueInSome}
use Rattle.machine_laws.specs.Sound.{IsSound, IsResolvedIn}
use Rattle.machine_laws.proofs.Lists.{length_set, all_append, all_drop, all_get, all_set}
use Rattle.machine_laws.proofs.Ranges.{operation_fits, negation_fits, order_fits, int_is_long, quotient_fits, int_shift_fits, long_shift_fits, low_bits_32, low_bits_8, low_bits_16, low_char_fits}
use Rattle.std.specs.Option.{option_and_then, option_map}

-- ---- options and kinds

pub then_some : {A B : Type 0} (o : Option A) (f : A → Option B) (y : B) → option_and_then f o ≡ Some y → (x : A) × (o ≡ Some x) × (f x ≡ Some y)
then_some None f y h = cc
then_some (Some x) f y h = (x, refl, h)

pub mapped_some : {A B : Type 0} (f : A → B) (o : Option A) (y : B) → option_map f o ≡ Some y → (x : A) × (o ≡ Some x) × (f x ≡ y)
mapped_some f None y h = cc
mapped_some f (Some x) y h = let q : f x ≡ y = cc in (x, refl, q)

pub int_is : (v : Value) (n : ℤ) → int_of v ≡ Some n → v ≡ value.Int n
unfolding int_of
int_is (value.Int m) n h = let q : m ≡ n = cc in ap (λ (k : ℤ). value.Int k) q
int_is _ n h = cc

pub long_is : (v : Value) (n : ℤ) → long_of v ≡ Some n → v ≡ value.Long n
unfolding long_of
long_is (value.Long m) n h = let q : m ≡ n = cc in ap (λ (k : ℤ). value.Long k) q
long_is _ n h = cc

reference_same : (v x : Value) → as_reference v ≡ Some x → v ≡ x
unfolding as_reference
reference_same (value.Int m) x h = cc
reference_same (value.Long m) x h = cc
reference_same _ x h = cc

-- a value of a kind is the value
pub kind_same : (k : Kind) (v x : Value) → as_kind k v ≡ Some x → v ≡ x
unfolding as_kind
kind_same kind.Int (value.Int n) x h = cc
kind_same kind.Int _ x h = cc
kind_same kind.Long (value.Long n) x h = cc
kind_same kind.Long _ x h = cc
kind_same kind.Reference v x h = reference_same v x h

single_is : (v : Value) (g : Stack) → single v ≡ Some g → v ∷ [] ≡ g
unfolding single
single_is (value.Long n) g h = cc
single_is _ g h = cc

-- ---- the constants of the table of opcodes

-- whether the row pushes what is in its range
pushes_well : Row → Bool
pushes_well (row.Push (value.Int n)) = has_bits 31 n
pushes_well (row.Push (value.Long n)) = has_bits 63 n
pushes_well (row.Push value.Null) = true
pushes_well (row.Push _) = false
pushes_well _ = true

in_table : (p : Row → Bool) (xs : List Opcode) (d : Opcode) (n : ℕ) → list_all (λ o. p o.row) xs ≡ true → p d.row ≡ true → p (slice_index_or xs n d).row ≡ true
in_table p [] d n h k = k
in_table p (x ∷ xs) d zero h k = (both (p x.row) (list_all (λ o. p o.row) xs) h).0
in_table p (x ∷ xs) d (suc n) h k = in_table p xs d n (both (p x.row) (list_all (λ o. p o.row) xs) h).1 k

table_pushes : (n : ℕ) → pushes_well (row_at n) ≡ true
unfolding row_at opcode_at opened_opcodes pushes_well has_bits
table_pushes n = in_table pushes_well opcodes unassigned n refl refl

fits_32 : (n : ℤ) → has_bits 31 n ≡ true → FitsSigned w32 n
unfolding has_bits
fits_32 (pos n) h = record { sfits = grind (arith, nat_tests, h) }
fits_32 (negsuc n) h = record { sfits = grind (arith, nat_tests, h) }

fits_64 : (n : ℤ) → has_bits 63 n ≡ true → FitsSigned w64 n
unfolding has_bits
fits_64 (pos n) h = record { sfits = grind (arith, nat_tests, h) }
fits_64 (negsuc n) h = record { sfits = grind (arith, nat_tests, h) }

-- an exception of the machine is of a class of the system
pub built_in_class : (s : System) (c : ℕ) → IsSound s → c < built_in_count → is_some (slice_get built_in_table c) ≡ true → IsClass s c
built_in_class s c h l e = ap is_some (h.built_in c l) ∙ e

-- ---- rows

-- so many locals, which are values
abbrev pub AreLocals : Past → Store → ℕ → Locals → Type 0
AreLocals past store size locals = AllByRecursion (IsValueInSome past store) locals × (length locals ≡ size)

-- values, in what a row leaves, and as many locals
abbrev pub IsNumericIn : System → Past → Store → ℕ → NumericOutcome → Type 0
IsNumericIn s past store size (numeric.Next locals stack) = AreLocals past store size locals × AllByRecursion (IsValueIn past store) stack
IsNumericIn s past store size (numeric.Jump to locals stack) = AreLocals past store size locals × AllByRecursion (IsValueIn past store) stack
IsNumericIn s past store size (numeric.Raise c) = IsClass s c
IsNumericIn s past store size _ = Unit {0}

-- the constant that a row pushes is a value anywhere
constant_value : (past : Past) (store : Store) (v : Value) → pushes_well (row.Push v) ≡ true → IsValueIn past store v
unfolding pushes_well
constant_value past store (value.Int n) h = fits_32 n h
constant_value past store (value.Long n) h = fits_64 n h
constant_value past store value.Null h = tt
constant_value past store (value.Ref r) h = cc
constant_value past store (value.Portal k c) h = cc
constant_value past store (value.Mem m) h = cc

module _ (s : System) (past : Past) (store : Store) (size : ℕ) where
  -- all locals, and all values of a stack
  abbrev Ls : Locals → Type 0
  Ls locals = AreLocals past store size locals

  abbrev Vs : Stack → Type 0
  Vs stack = AllByRecursion (IsValueIn past store) stack

  abbrev In : NumericOutcome → Type 0
  In o = IsNumericIn s past store size o

  given_in : {A : Type 0} (o : Option A) (go : A → NumericOutcome) → ((x : A) → o ≡ Some x → In (go x)) → In (given o go)
  unfolding given
  given_in None go f = tt
  given_in (Some x) go f = f x refl

  leaves_in : (most : ℕ) (l : Locals) (k : Stack) → Ls l → Vs k → In (leaves most l k)
  unfolding leaves
  leaves_in most l k h i = by (nat_le (depth_of k) most)
    where
      by : (b : Bool) → In (if b then numeric.Next l k else numeric.BadCode)
      by true = (h, i)
      by false = tt

  branches_in : (b : Bool) (to : ℕ) (l : Locals) (k : Stack) → Ls l → Vs k → In (branches b to l k)
  unfolding branches
  branches_in true to l k h i = (h, i)
  branches_in false to l k h i = (h, i)

  top_in : (k : Stack) (v : Value) → Vs k → top k ≡ Some v → IsValueIn past store v
  unfolding top
  top_in k v h e = all_get (IsValueIn past store) k 0 v e h

  top_int_in : (k : Stack) (n : ℤ) → Vs k → top_int k ≡ Some n → FitsSigned w32 n
  unfolding top_int
  top_int_in k n h e = let x = then_some (top k) int_of n e in subst (IsValueIn past store) (int_is x.0 n x.2) (top_in k x.0 h x.1)

  top_long_in : (k : Stack) (n : ℤ) → Vs k → top_long k ≡ Some n → FitsSigned w64 n
  unfolding top_long
  top_long_in k n h e = let x = then_some (top k) long_of n e in subst (IsValueIn past store) (long_is x.0 n x.2) (top_in k x.0 h x.1)

  rest_in : (n : ℕ) (k : Stack) → Vs k → Vs (drop n k)
  rest_in n k h = all_drop (IsValueIn past store) n k h

  single_in : (v : Value) (g : Stack) → IsValueIn past store v → single v ≡ Some g → Vs g
  single_in v g h e = subst Vs (single_is v g e) (h, tt)

  double_in : (below : Stack) (v : Value) (g : Stack) → Vs below → IsValueIn past store v → double below v ≡ Some g → Vs g
  unfolding double
  double_in below (value.Long n) g b h e = let q : value.Long n ∷ [] ≡ g = cc in subst Vs q (h, tt)
  double_in below v g b h e =
      let x = mapped_some (λ others. v ∷ others) (option_and_then single (top below)) g e in
      let y = then_some (top below) single x.0 x.1 in
      subst Vs x.2 (h, single_in y.0 x.0 (top_in below y.0 b y.1) y.2)

  group_in : (n : Slots) (k g : Stack) → Vs k → group_of n k ≡ Some g → Vs g
  unfolding group_of
  group_in slots.Zero k g h e = let q : [] ≡ g = cc in subst Vs q tt
  group_in slots.One k g h e = let y = then_some (top k) single g e in single_in y.0 g (top_in k y.0 h y.1) y.2
  group_in slots.Two k g h e = let y = then_some (top k) (double (drop 1 k)) g e in double_in (drop 1 k) y.0 g (rest_in 1 k h) (top_in k y.0 h y.1) y.2

  flat_in : (o : Option (Option Value)) (v : Value) → option_flatten o ≡ Some v → o ≡ Some (Some v)
  flat_in None v e = cc
  flat_in (Some o) v e = ap (λ (x : Option Value). Some x) e

  local_in : (l : Locals) (n : ℕ) (v : Value) → Ls l → local_of l n ≡ Some v → IsValueIn past store v
  unfolding local_of
  local_in l n v h e = by (nat_le (n + slots_of x.0) (length l)) x.2
    where
      x : (x : Value) × (option_flatten (slice_get l n) ≡ Some x) × ((if nat_le (n + slots_of x) (length l) then Some x else None) ≡ Some v)
      x = then_some (option_flatten (slice_get l n)) (λ x. if nat_le (n + slots_of x) (length l) then Some x else None) v e

      there : IsValueIn past store x.0
      there = all_get (IsValueInSome past store) l n (Some x.0) (flat_in (slice_get l n) x.0 x.1) h.0

      by : (b : Bool) → (if b then Some x.0 else None) ≡ Some v → IsValueIn past store v
      by true q = let z : x.0 ≡ v = cc in subst (IsValueIn past store) z there
      by false q = cc

  set_in : (l : Locals) (n : ℕ) (v : Value) → Ls l → IsValueIn past store v → Ls (set_local l n v)
  unfolding set_local
  set_in l n (value.Long k) h i = (
    all_set (IsValueInSome past store) (slice_set l n (Some (value.Long k))) (n + 1) None tt (all_set (IsValueInSome past store) l n (Some (value.Long k)) i h.0),
    length_set (slice_set l n (Some (value.Long k))) (n + 1) None ∙ length_set l n (Some (value.Long k)) ∙ h.1,
  )
  set_in l n v h i = (all_set (IsValueInSome past store) l n (Some v) i h.0, length_set l n (Some v) ∙ h.1)

  -- locals with one more set
  pub with_local_in : (l : Locals) (n : ℕ) (v : Value) (new : Locals) → Ls l → IsValueIn past store v → with_local l n v ≡ Some new → Ls new
  unfolding with_local
  with_local_in l n v new h i e = by (nat_le (n + slots_of v) (length l)) e
    where
      by : (b : Bool) → (if b then Some (set_local l n v) else None) ≡ Some new → Ls new
      by true q = let z : set_local l n v ≡ new = cc in subst Ls z (set_in l n v h i)
      by false q = cc

  load_in : (most : ℕ) (k : Kind) (n : ℕ) (l : Locals) (st : Stack) → Ls l → Vs st → In (load_row most k n l st)
  unfolding load_row
  load_in most k n l st h i = given_in (option_and_then (as_kind k) (local_of l n)) (λ v. leaves most l (v ∷ st)) (λ v e.
      let x = then_some (local_of l n) (as_kind k) v e in
      leaves_in most l (v ∷ st) h (subst (IsValueIn past store) (kind_same k x.0 v x.2) (local_in l n x.0 h x.1), i))

  store_in : (k : Kind) (n : ℕ) (l : Locals) (st : Stack) → Ls l → Vs st → In (store_row k n l st)
  unfolding store_row
  store_in k n l st h i = given_in (option_and_then (as_kind k) (top st)) (λ v. given (with_local l n v) (λ new. numeric.Next new (drop 1 st))) (λ v e.
      given_in (with_local l n v) (λ new. numeric.Next new (drop 1 st)) (λ new q.
      let x = then_some (top st) (as_kind k) v e in
      (with_local_in l n v new h (subst (IsValueIn past store) (kind_same k x.0 v x.2) (top_in st x.0 i x.1)) q, rest_in 1 st i)))

  discard_in : (n : Slots) (l : Locals) (st : Stack) → Ls l → Vs st → In (discard_row n l st)
  unfolding discard_row
  discard_in n l st h i = given_in (group_of n st) (λ g. numeric.Next l (drop (length g) st)) (λ g e. (h, rest_in (length g) st i))

  copy_in : (most : ℕ) (copied under : Slots) (l : Locals) (st : Stack) → Ls l → Vs st → In (copy_row most copied under l st)
  unfolding copy_row
  copy_in most copied under l st h i = given_in (group_of copied st) (λ g. given (group_of under (drop (length g) st)) (λ k. leaves most l (g ++ k ++ g ++ drop (length k) (drop (length g) st)))) (λ g e.
      given_in (group_of under (drop (length g) st)) (λ k. leaves most l (g ++ k ++ g ++ drop (length k) (drop (length g) st))) (λ k q.
      let b = rest_in (length g) st i in
      let gs = group_in copied st g i e in
      let ks = group_in under (drop (length g) st) k b q in
      leaves_in most l (g ++ k ++ g ++ drop (length k) (drop (length g) st)) h
      (all_append (IsValueIn past store) (g ++ k ++ g) (drop (length k) (drop (length g) st))
      (all_append (IsValueIn past store) (g ++ k) g (all_append (IsValueIn past store) g k gs ks) gs) (rest_in (length k) (drop (length g) st) b))))

  swap_in : (most : ℕ) (l : Locals) (st : Stack) → Ls l → Vs st → In (swap_row most l st)
  unfolding swap_row
  swap_in most l st h i = given_in (group_of slots.One st) (λ g. given (group_of slots.One (drop 1 st)) (λ k. leaves most l (k ++ g ++ drop 2 st))) (λ g e.
      given_in (group_of slots.One (drop 1 st)) (λ k. leaves most l (k ++ g ++ drop 2 st)) (λ k q.
      leaves_in most l (k ++ g ++ drop 2 st) h
      (all_append (IsValueIn past store) (k ++ g) (drop 2 st)
      (all_append (IsValueIn past store) k g (group_in slots.One (drop 1 st) k (rest_in 1 st i) q) (group_in slots.One st g i e)) (rest_in 2 st i))))

  on_ints_in : (most : ℕ) (f : ℤ → ℤ → Value) (l : Locals) (st : Stack) → ((a b : ℤ) → FitsSigned w32 a → FitsSigned w32 b → IsValueIn past store (f a b)) → Ls l → Vs st → In (on_ints most f l st)
  unfolding on_ints
  on_ints_in most f l st p h i = given_in (top_int st) (λ b. given (top_int (drop 1 st)) (λ a. leaves most l (f a b ∷ drop 2 st))) (λ b e.
      given_in (top_int (drop 1 st)) (λ a. leaves most l (f a b ∷ drop 2 st)) (λ a q.
      leaves_in most l (f a b ∷ drop 2 st) h (p a b (top_int_in (drop 1 st) a (rest_in 1 st i) q) (top_int_in st b i e), rest_in 2 st i)))

  on_longs_in : (most : ℕ) (f : ℤ → ℤ → Value) (l : Locals) (st : Stack) → ((a b : ℤ) → FitsSigned w64 a → FitsSigned w64 b → IsValueIn past store (f a b)) → Ls l → Vs st → In (on_longs most f l st)
  unfolding on_longs
  on_longs_in most f l st p h i = given_in (top_long st) (λ b. given (top_long (drop 1 st)) (λ a. leaves most l (f a b ∷ drop 2 st))) (λ b e.
      given_in (top_long (drop 1 st)) (λ a. leaves most l (f a b ∷ drop 2 st)) (λ a q.
      leaves_in most l (f a b ∷ drop 2 st) h (p a b (top_long_in (drop 1 st) a (rest_in 1 st i) q) (top_long_in st b i e), rest_in 2 st i)))

  by_zero_in : (o : Option ℤ) (go : ℤ → NumericOutcome) → IsClass s arithmetic_exception → ((q : ℤ) → o ≡ Some q → In (go q)) → In (unless_by_zero o go)
  unfolding unless_by_zero
  by_zero_in None go c f = c
  by_zero_in (Some q) go c f = f q refl

  int_divide_in : (most : ℕ) (d : Division) (l : Locals) (st : Stack) → IsClass s arithmetic_exception → Ls l → Vs st → In (int_divide_row most d l st)
  unfolding int_divide_row
  int_divide_in most d l st c h i = given_in (top_int st) (λ b. given (top_int (drop 1 st)) (λ a. unless_by_zero (quotient_or_none w32 d a b) (λ q. leaves most l (value.Int q ∷ drop 2 st)))) (λ b e.
      given_in (top_int (drop 1 st)) (λ a. unless_by_zero (quotient_or_none w32 d a b) (λ q. leaves most l (value.Int q ∷ drop 2 st))) (λ a q.
      by_zero_in (quotient_or_none w32 d a b) (λ q. leaves most l (value.Int q ∷ drop 2 st)) c (λ r z.
      leaves_in most l (value.Int r ∷ drop 2 st) h (quotient_fits w32 d a b r (top_int_in (drop 1 st) a (rest_in 1 st i) q) z, rest_in 2 st i))))

  long_divide_in : (most : ℕ) (d : Division) (l : Locals) (st : Stack) → IsClass s arithmetic_exception → Ls l → Vs st → In (long_divide_row most d l st)
  unfolding long_divide_row
  long_divide_in most d l st c h i = given_in (top_long st) (λ b. given (top_long (drop 1 st)) (λ a. unless_by_zero (quotient_or_none w64 d a b) (λ q. leaves most l (value.Long q ∷ drop 2 st)))) (λ b e.
      given_in (top_long (drop 1 st)) (λ a. unless_by_zero (quotient_or_none w64 d a b) (λ q. leaves most l (value.Long q ∷ drop 2 st))) (λ a q.
      by_zero_in (quotient_or_none w64 d a b) (λ q. leaves most l (value.Long q ∷ drop 2 st)) c (λ r z.
      leaves_in most l (value.Long r ∷ drop 2 st) h (quotient_fits w64 d a b r (top_long_in (drop 1 st) a (rest_in 1 st i) q) z, rest_in 2 st i))))

  long_shift_in : (most : ℕ) (d : Shift) (l : Locals) (st : Stack) → Ls l → Vs st → In (long_shift_row most d l st)
  unfolding long_shift_row
  long_shift_in most d l st h i = given_in (top_int st) (λ k. given (top_long (drop 1 st)) (λ a. leaves most l (value.Long (long_shift_result d a k) ∷ drop 2 st))) (λ k e.
      given_in (top_long (drop 1 st)) (λ a. leaves most l (value.Long (long_shift_result d a k) ∷ drop 2 st)) (λ a q.
      leaves_in most l (value.Long (long_shift_result d a k) ∷ drop 2 st) h (long_shift_fits d a k (top_long_in (drop 1 st) a (rest_in 1 st i) q), rest_in 2 st i)))

  -- one int, or one long, makes a value
  one_int_in : (most : ℕ) (f : ℤ → Value) (l : Locals) (st : Stack) → ((a : ℤ) → FitsSigned w32 a → IsValueIn past store (f a)) → Ls l → Vs st → In (given (top_int st) (λ a. leaves most l (f a ∷ drop 1 st)))
  one_int_in most f l st p h i = given_in (top_int st) (λ a. leaves most l (f a ∷ drop 1 st)) (λ a e. leaves_in most l (f a ∷ drop 1 st) h (p a (top_int_in st a i e), rest_in 1 st i))

  one_long_in : (most : ℕ) (f : ℤ → Value) (l : Locals) (st : Stack) → ((a : ℤ) → FitsSigned w64 a → IsValueIn past store (f a)) → Ls l → Vs st → In (given (top_long st) (λ a. leaves most l (f a ∷ drop 1 st)))
  one_long_in most f l st p h i = given_in (top_long st) (λ a. leaves most l (f a ∷ drop 1 st)) (λ a e. leaves_in most l (f a ∷ drop 1 st) h (p a (top_long_in st a i e), rest_in 1 st i))

  negate_in : (most : ℕ) (k : Kind) (l : Locals) (st : Stack) → Ls l → Vs st → In (negate_row most k l st)
  unfolding negate_row
  negate_in most kind.Int l st h i = one_int_in most (λ a. value.Int (negation w32 a)) l st (λ a f. negation_fits w32 a) h i
  negate_in most kind.Long l st h i = one_long_in most (λ a. value.Long (negation w64 a)) l st (λ a f. negation_fits w64 a) h i
  negate_in most kind.Reference l st h i = one_long_in most (λ a. value.Long (negation w64 a)) l st (λ a f. negation_fits w64 a) h i

  increment_in : (n : ℕ) (more : ℤ) (l : Locals) (st : Stack) → Ls l → Vs st → In (increment_row n more l st)
  unfolding increment_row
  increment_in n more l st h i = given_in (option_and_then int_of (local_of l n)) (λ k. numeric.Next (slice_set l n (Some (value.Int (int_wrap w32 (k +ℤ more))))) st) (λ k e.
      ((all_set (IsValueInSome past store) l n (Some (value.Int (int_wrap w32 (k +ℤ more)))) (SFits-int_wrap w32 (k +ℤ more)) h.0, length_set l n (Some (value.Int (int_wrap w32 (k +ℤ more)))) ∙ h.1), i))

  convert_in : (most : ℕ) (c : Conversion) (l : Locals) (st : Stack) → Ls l → Vs st → In (convert_row most c l st)
  unfolding convert_row
  convert_in most conversion.IntToLong l st h i = one_int_in most (λ a. value.Long a) l st int_is_long h i
  convert_in most conversion.LongToInt l st h i = one_long_in most (λ a. value.Int (low_bits w32 32 a)) l st (λ a f. low_bits_32 a) h i
  convert_in most conversion.IntToByte l st h i = one_int_in most (λ a. value.Int (low_bits w8 8 a)) l st (λ a f. low_bits_8 a) h i
  convert_in most conversion.IntToChar l st h i = one_int_in most (λ a. value.Int (low_char a)) l st (λ a f. low_char_fits a) h i
  convert_in most conversion.IntToShort l st h i = one_int_in most (λ a. value.Int (low_bits w16 16 a)) l st (λ a f. low_bits_16 a) h i

  -- ---- branches

  if_zero_in : (c : Comparison) (to : ℕ) (l : Locals) (st : Stack) → Ls l → Vs st → In (if_zero_row c to l st)
  unfolding if_zero_row
  if_zero_in c to l st h i = given_in (top_int st) (λ a. branches (is_met c a (pos 0)) to l (drop 1 st)) (λ a e. branches_in (is_met c a (pos 0)) to l (drop 1 st) h (rest_in 1 st i))

  if_ints_in : (c : Comparison) (to : ℕ) (l : Locals) (st : Stack) → Ls l → Vs st → In (if_ints_row c to l st)
  unfolding if_ints_row
  if_ints_in c to l st h i = given_in (top_int st) (λ b. given (top_int (drop 1 st)) (λ a. branches (is_met c a b) to l (drop 2 st))) (λ b e.
      given_in (top_int (drop 1 st)) (λ a. branches (is_met c a b) to l (drop 2 st)) (λ a q. branches_in (is_met c a b) to l (drop 2 st) h (rest_in 2 st i)))

  if_same_in : (wanted : Bool) (to : ℕ) (l : Locals) (st : Stack) → Ls l → Vs st → In (if_same_row wanted to l st)
  unfolding if_same_row
  if_same_in wanted to l st h i = given_in (top_reference st) (λ b. given (top_reference (drop 1 st)) (λ a. branches (is_wanted wanted (is_same a b)) to l (drop 2 st))) (λ b e.
      given_in (top_reference (drop 1 st)) (λ a. branches (is_wanted wanted (is_same a b)) to l (drop 2 st)) (λ a q. branches_in (is_wanted wanted (is_same a b)) to l (drop 2 st) h (rest_in 2 st i)))

  if_null_in : (wanted : Bool) (to : ℕ) (l : Locals) (st : Stack) → Ls l → Vs st → In (if_null_row wanted to l st)
  unfolding if_null_row
  if_null_in wanted to l st h i = given_in (top_reference st) (λ a. branches (is_wanted wanted (is_null a)) to l (drop 1 st)) (λ a e. branches_in (is_wanted wanted (is_null a)) to l (drop 1 st) h (rest_in 1 st i))

  table_in : (i : Instr) (l : Locals) (st : Stack) → Ls l → Vs st → In (table_row i l st)
  unfolding table_row
  table_in i l st h k = given_in (top_int st) _ (λ a e. (h, rest_in 1 st k))

  lookup_in : (i : Instr) (l : Locals) (st : Stack) → Ls l → Vs st → In (lookup_row i l st)
  unfolding lookup_row
  lookup_in i l st h k = given_in (top_int st) _ (λ a e. (h, rest_in 1 st k))

  -- ---- all rows

  long_constant_in : (o : Option Resolved) (v : Value) → ((x : Resolved) → o ≡ Some x → IsResolvedIn s x) → long_constant o ≡ Some v → IsValueIn past store v
  unfolding long_constant
  long_constant_in (Some (resolved.Long n)) v f e = let q : value.Long n ≡ v = cc in subst (IsValueIn past store) q (f (resolved.Long n) refl)
  long_constant_in _ v f e = cc

  moving_in : (c most : ℕ) (r : Row) (i : Instr) (l : Locals) (st : Stack) → IsSound s → pushes_well r ≡ true → FitsSigned w32 (operand i 0) → Ls l → Vs st → In (moving_row s c most r i l st)
  unfolding moving_row
  moving_in c most row.Nop i l st z p o h k = (h, k)
  moving_in c most (row.Push v) i l st z p o h k = leaves_in most l (v ∷ st) h (constant_value past store v p, k)
  moving_in c most row.PushOperand i l st z p o h k = leaves_in most l (value.Int (operand i 0) ∷ st) h (o, k)
  moving_in c most row.PushLong i l st z p o h k = given_in (long_constant (constant_at s c (index_operand i 0))) (λ v. leaves most l (v ∷ st)) (λ v e.
      leaves_in most l (v ∷ st) h (long_constant_in (constant_at s c (index_operand i 0)) v (z.constants c (index_operand i 0)) e, k))
  moving_in c most (row.Load t place) i l st z p o h k = load_in most t (place_of place i) l st h k
  moving_in c most (row.Store t place) i l st z p o h k = store_in t (place_of place i) l st h k
  moving_in c most (row.Discard n) i l st z p o h k = discard_in n l st h k
  moving_in c most (row.Copy copied under) i l st z p o h k = copy_in most copied under l st h k
  moving_in c most row.Swap i l st z p o h k = swap_in most l st h k
  moving_in c most _ i l st z p o h k = tt

  arithmetic_in : (most : ℕ) (r : Row) (i : Instr) (l : Locals) (st : Stack) → IsClass s arithmetic_exception → Ls l → Vs st → In (arithmetic_row most r i l st)
  unfolding arithmetic_row
  arithmetic_in most (row.IntOperate o) i l st c h k = on_ints_in most (λ a b. value.Int (operation_result w32 o a b)) l st (operation_fits w32 o) h k
  arithmetic_in most (row.LongOperate o) i l st c h k = on_longs_in most (λ a b. value.Long (operation_result w64 o a b)) l st (operation_fits w64 o) h k
  arithmetic_in most (row.IntDivide d) i l st c h k = int_divide_in most d l st c h k
  arithmetic_in most (row.LongDivide d) i l st c h k = long_divide_in most d l st c h k
  arithmetic_in most row.IntNegate i l st c h k = negate_in most kind.Int l st h k
  arithmetic_in most row.LongNegate i l st c h k = negate_in most kind.Long l st h k
  arithmetic_in most (row.IntShift d) i l st c h k = on_ints_in most (λ a b. value.Int (int_shift_result d a b)) l st (λ a b f g. int_shift_fits d a b f) h k
  arithmetic_in most (row.LongShift d) i l st c h k = long_shift_in most d l st h k
  arithmetic_in most row.Increment i l st c h k = increment_in (index_operand i 0) (operand i 1) l st h k
  arithmetic_in most (row.Convert t) i l st c h k = convert_in most t l st h k
  arithmetic_in most row.CompareLongs i l st c h k = on_longs_in most (λ a b. value.Int (order_of a b)) l st (λ a b f g. order_fits a b) h k
  arithmetic_in most _ i l st c h k = tt

  branching_in : (r : Row) (i : Instr) (l : Locals) (st : Stack) → Ls l → Vs st → In (branching_row r i l st)
  unfolding branching_row
  branching_in (row.IfZero c) i l st h k = if_zero_in c (index_operand i 0) l st h k
  branching_in (row.IfInts c) i l st h k = if_ints_in c (index_operand i 0) l st h k
  branching_in (row.IfSame wanted) i l st h k = if_same_in wanted (index_operand i 0) l st h k
  branching_in (row.IfNull wanted) i l st h k = if_null_in wanted (index_operand i 0) l st h k
  branching_in row.Goto i l st h k = (h, k)
  branching_in row.TableSwitch i l st h k = table_in i l st h k
  branching_in row.LookupSwitch i l st h k = lookup_in i l st h k
  branching_in _ i l st h k = tt

  outcome_or_in : (o other : NumericOutcome) → In o → In other → In (outcome_or o other)
  unfolding outcome_or
  outcome_or_in (numeric.Next l k) other h i = h
  outcome_or_in (numeric.Jump to l k) other h i = h
  outcome_or_in (numeric.Raise c) other h i = h
  outcome_or_in numeric.BadCode other h i = tt
  outcome_or_in numeric.NotMine other h i = i

  arithmetic_class : IsSound s → IsClass s arithmetic_exception
  unfolding opened_built_in
  arithmetic_class z = built_in_class s 6 z (omega arith) refl

  -- an instruction on numbers makes values of values
  pub numeric_in : (c most : ℕ) (i : Instr) (l : Locals) (st : Stack) → IsSound s → FitsSigned w32 (operand i 0) → Ls l → Vs st → In (numeric_row s c most i l st)
  unfolding numeric_row
  numeric_in c most i l st z o h k =
      outcome_or_in (moving_row s c most (row_at i.opcode) i l st) (outcome_or (arithmetic_row most (row_at i.opcode) i l st) (branching_row (row_at i.opcode) i l st))
      (moving_in c most (row_at i.opcode) i l st z (table_pushes i.opcode) o h k)
      (outcome_or_in (arithmetic_row most (row_at i.opcode) i l st) (branching_row (row_at i.opcode) i l st)
      (arithmetic_in most (row_at i.opcode) i l st (arithmetic_class z) h k) (branching_in (row_at i.opcode) i l st h k))
