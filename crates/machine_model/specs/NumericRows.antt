-- The rows on numbers, the stack, locals, branches and switches. They read no heap.
use Rattle.std.specs.Prelude.{ℕ, ◌+◌, ◌++◌, ℤ, pos, Bool, true, false, not, List, [], ◌∷◌, length, drop, Option, Some, None, ◌==◌, nat_le, int_lt, ◌-ℤ◌, ◌+ℤ◌, unsigned_abs, if◌then◌else◌, slice_get, slice_set, sum_by}
use Rattle.std.specs.Ordering.{int_eq}
use Rattle.std.specs.Option.{option_flatten}
use Rattle.std.specs.Int.{w8, w16, w32, w64, int_wrap, cast_unsigned}
use Rattle.jx_base.specs.declared.value.Value.{Value}
use Rattle.jx_base.specs.declared.value.Value.TheVariants as value
use Rattle.jx_base.specs.declared.class_file.Instr.{Instr}
use Rattle.jx_base.specs.declared.program.System.{System}
use Rattle.jx_base.specs.declared.program.Resolved.{Resolved}
use Rattle.jx_base.specs.declared.program.Resolved.TheVariants as resolved
use Rattle.jx_base.specs.declared.row.Row.{Row}
use Rattle.jx_base.specs.declared.row.Row.TheVariants as row
use Rattle.jx_base.specs.declared.row.Kind.{Kind}
use Rattle.jx_base.specs.declared.row.Kind.TheVariants as kind
use Rattle.jx_base.specs.declared.row.Local.{Local}
use Rattle.jx_base.specs.declared.row.Local.TheVariants as local
use Rattle.jx_base.specs.declared.row.Slots.{Slots}
use Rattle.jx_base.specs.declared.row.Slots.TheVariants as slots
use Rattle.jx_base.specs.declared.row.Division.{Division}
use Rattle.jx_base.specs.declared.row.Shift.{Shift}
use Rattle.jx_base.specs.declared.row.Conversion.{Conversion}
use Rattle.jx_base.specs.declared.row.Conversion.TheVariants as conversion
use Rattle.jx_base.specs.declared.row.Comparison.{Comparison}
use Rattle.class_grammar.specs.Opcodes.{row_at}
use Rattle.program_model.specs.Instructions.{operand, index_operand}
use Rattle.program_model.specs.Arithmetic.{operation_result, negation, quotient_or_none, int_shift_result, long_shift_result, low_bits, low_char, is_met, order_of}
use Rattle.program_model.specs.BuiltIn.{arithmetic_exception}
use Rattle.program_model.specs.Lookup.{constant_at}
use Rattle.std.specs.Option.{option_and_then, option_map}

-- a frame's locals, of which one may be unset
abbrev pub Locals : Type 0
Locals = List (Option Value)

-- a frame's values, the top first
abbrev pub Stack : Type 0
Stack = List Value

-- what a numeric row makes of a frame's locals and stack
pub data NumericOutcome : Type 0 where
  Next : Locals → Stack → NumericOutcome
  Jump : ℕ → Locals → Stack → NumericOutcome
  Raise : ℕ → NumericOutcome
  BadCode : NumericOutcome
  NotMine : NumericOutcome

-- ---- values

-- how many slots a value fills
unfoldable pub slots_of : Value → ℕ
slots_of (value.Long n) = 2
slots_of _ = 1

-- how many slots a stack fills
unfoldable pub depth_of : Stack → ℕ
depth_of stack = sum_by slots_of stack

-- the value, where it is null, an object, a portal or a memory object
unfoldable pub as_reference : Value → Option Value
as_reference (value.Int n) = None
as_reference (value.Long n) = None
as_reference v = Some v

-- the value, where it is of that kind
unfoldable pub as_kind : Kind → Value → Option Value
as_kind kind.Int (value.Int n) = Some (value.Int n)
as_kind kind.Long (value.Long n) = Some (value.Long n)
as_kind kind.Reference v = as_reference v
as_kind _ _ = None

-- the int that a value is
unfoldable pub int_of : Value → Option ℤ
int_of (value.Int n) = Some n
int_of _ = None

-- the long that a value is
unfoldable pub long_of : Value → Option ℤ
long_of (value.Long n) = Some n
long_of _ = None

-- ---- the stack

-- the value on the top
unfoldable pub top : Stack → Option Value
top stack = slice_get stack 0

-- the int on the top
unfoldable pub top_int : Stack → Option ℤ
top_int stack = option_and_then int_of (top stack)

-- the long on the top
unfoldable pub top_long : Stack → Option ℤ
top_long stack = option_and_then long_of (top stack)

-- the reference on the top
unfoldable pub top_reference : Stack → Option Value
top_reference stack = option_and_then as_reference (top stack)

-- a value that fills one slot, as a group
unfoldable pub single : Value → Option Stack
single (value.Long n) = None
single v = Some (v ∷ [])

-- a long, or a value that fills one slot with another such below it
unfoldable pub double : Stack → Value → Option Stack
double below (value.Long n) = Some (value.Long n ∷ [])
double below v = option_map (λ others. v ∷ others) (option_and_then single (top below))

-- the values on the top that fill so many slots
unfoldable pub group_of : Slots → Stack → Option Stack
group_of slots.Zero stack = Some []
group_of slots.One stack = option_and_then single (top stack)
group_of slots.Two stack = option_and_then (double (drop 1 stack)) (top stack)

-- ---- outcomes

-- bad code where there is no value, or none of the kind that is asked for
unfoldable pub given : {A : Type 0} → Option A → (A → NumericOutcome) → NumericOutcome
given None go = BadCode
given (Some x) go = go x

-- bad code where the stack gets deeper than it may be
unfoldable pub leaves : ℕ → Locals → Stack → NumericOutcome
leaves most locals stack = if nat_le (depth_of stack) most then Next locals stack else BadCode

-- to the target where the test passes
unfoldable pub branches : Bool → ℕ → Locals → Stack → NumericOutcome
branches test to locals stack = if test then Jump to locals stack else Next locals stack

-- ---- locals

-- the value of a local: of a long the second local exists too
unfoldable pub local_of : Locals → ℕ → Option Value
local_of locals n = option_and_then (λ v. if nat_le (n + slots_of v) (length locals) then Some v else None) (option_flatten (slice_get locals n))

-- the locals with that one set: behind a long the second one is unset
unfoldable pub set_local : Locals → ℕ → Value → Locals
set_local locals n (value.Long k) = slice_set (slice_set locals n (Some (value.Long k))) (n + 1) None
set_local locals n v = slice_set locals n (Some v)

-- the same, where there are so many locals
unfoldable pub with_local : Locals → ℕ → Value → Option Locals
with_local locals n v = if nat_le (n + slots_of v) (length locals) then Some (set_local locals n v) else None

-- which local a load or a store means
unfoldable pub place_of : Local → Instr → ℕ
place_of local.Named i = index_operand i 0
place_of (local.Fixed n) i = n

-- ---- loads, stores and forms of the stack

-- a local of that kind is pushed
unfoldable pub load_row : ℕ → Kind → ℕ → Locals → Stack → NumericOutcome
load_row most k n locals stack = given (option_and_then (as_kind k) (local_of locals n)) (λ v. leaves most locals (v ∷ stack))

-- the top, of that kind, goes to a local
unfoldable pub store_row : Kind → ℕ → Locals → Stack → NumericOutcome
store_row k n locals stack =
    given (option_and_then (as_kind k) (top stack)) (λ v. given (with_local locals n v) (λ new. Next new (drop 1 stack)))

-- so many slots are taken off
unfoldable pub discard_row : Slots → Locals → Stack → NumericOutcome
discard_row s locals stack = given (group_of s stack) (λ g. Next locals (drop (length g) stack))

-- a group once more, below the group under it
unfoldable pub copy_row : ℕ → Slots → Slots → Locals → Stack → NumericOutcome
copy_row most copied under locals stack =
    given (group_of copied stack) (λ g. let below : Stack = drop (length g) stack in
    given (group_of under below) (λ h. leaves most locals (g ++ h ++ g ++ drop (length h) below)))

-- the two upper values change places
unfoldable pub swap_row : ℕ → Locals → Stack → NumericOutcome
swap_row most locals stack =
    given (group_of slots.One stack) (λ g.
    given (group_of slots.One (drop 1 stack)) (λ h. leaves most locals (h ++ g ++ drop 2 stack)))

-- ---- arithmetic

-- two ints, the second on top, give a value
unfoldable pub on_ints : ℕ → (ℤ → ℤ → Value) → Locals → Stack → NumericOutcome
on_ints most f locals stack =
    given (top_int stack) (λ b. given (top_int (drop 1 stack)) (λ a. leaves most locals (f a b ∷ drop 2 stack)))

-- two longs, the second on top, give a value
unfoldable pub on_longs : ℕ → (ℤ → ℤ → Value) → Locals → Stack → NumericOutcome
on_longs most f locals stack =
    given (top_long stack) (λ b. given (top_long (drop 1 stack)) (λ a. leaves most locals (f a b ∷ drop 2 stack)))

-- the result of a division, or the exception of one by 0
unfoldable pub unless_by_zero : Option ℤ → (ℤ → NumericOutcome) → NumericOutcome
unless_by_zero None go = Raise arithmetic_exception
unless_by_zero (Some q) go = go q

-- two ints are divided
unfoldable pub int_divide_row : ℕ → Division → Locals → Stack → NumericOutcome
int_divide_row most d locals stack =
    given (top_int stack) (λ b. given (top_int (drop 1 stack)) (λ a.
    unless_by_zero (quotient_or_none w32 d a b) (λ q. leaves most locals (value.Int q ∷ drop 2 stack))))

-- two longs are divided
unfoldable pub long_divide_row : ℕ → Division → Locals → Stack → NumericOutcome
long_divide_row most d locals stack =
    given (top_long stack) (λ b. given (top_long (drop 1 stack)) (λ a.
    unless_by_zero (quotient_or_none w64 d a b) (λ q. leaves most locals (value.Long q ∷ drop 2 stack))))

-- a long is shifted by an int on top
unfoldable pub long_shift_row : ℕ → Shift → Locals → Stack → NumericOutcome
long_shift_row most d locals stack =
    given (top_int stack) (λ count. given (top_long (drop 1 stack)) (λ a. leaves most locals (value.Long (long_shift_result d a count) ∷ drop 2 stack)))

-- the number on the top changes its sign
unfoldable pub negate_row : ℕ → Kind → Locals → Stack → NumericOutcome
negate_row most kind.Int locals stack = given (top_int stack) (λ a. leaves most locals (value.Int (negation w32 a) ∷ drop 1 stack))
negate_row most k locals stack = given (top_long stack) (λ a. leaves most locals (value.Long (negation w64 a) ∷ drop 1 stack))

-- a local int is raised by a number, and wraps
unfoldable pub increment_row : ℕ → ℤ → Locals → Stack → NumericOutcome
increment_row n by locals stack =
    given (option_and_then int_of (local_of locals n)) (λ k. Next (slice_set locals n (Some (value.Int (int_wrap w32 (k +ℤ by))))) stack)

-- the number on the top is converted
unfoldable pub convert_row : ℕ → Conversion → Locals → Stack → NumericOutcome
convert_row most conversion.IntToLong locals stack = given (top_int stack) (λ n. leaves most locals (value.Long n ∷ drop 1 stack))
convert_row most conversion.LongToInt locals stack = given (top_long stack) (λ n. leaves most locals (value.Int (low_bits w32 32 n) ∷ drop 1 stack))
convert_row most conversion.IntToByte locals stack = given (top_int stack) (λ n. leaves most locals (value.Int (low_bits w8 8 n) ∷ drop 1 stack))
convert_row most conversion.IntToChar locals stack = given (top_int stack) (λ n. leaves most locals (value.Int (low_char n) ∷ drop 1 stack))
convert_row most conversion.IntToShort locals stack = given (top_int stack) (λ n. leaves most locals (value.Int (low_bits w16 16 n) ∷ drop 1 stack))

-- ---- branches

-- whether a test came out as it is wanted
unfoldable pub is_wanted : Bool → Bool → Bool
is_wanted true b = b
is_wanted false b = not b

-- whether the value is null
unfoldable pub is_null : Value → Bool
is_null value.Null = true
is_null _ = false

-- whether two references are the same: portals by service, memory objects by number
unfoldable pub is_same : Value → Value → Bool
is_same value.Null value.Null = true
is_same (value.Ref a) (value.Ref b) = a == b
is_same (value.Portal a i) (value.Portal b j) = a.0 == b.0
is_same (value.Mem a) (value.Mem b) = a.0 == b.0
is_same _ _ = false

-- by an int against 0
unfoldable pub if_zero_row : Comparison → ℕ → Locals → Stack → NumericOutcome
if_zero_row c to locals stack = given (top_int stack) (λ a. branches (is_met c a (pos 0)) to locals (drop 1 stack))

-- by two ints
unfoldable pub if_ints_row : Comparison → ℕ → Locals → Stack → NumericOutcome
if_ints_row c to locals stack =
    given (top_int stack) (λ b. given (top_int (drop 1 stack)) (λ a. branches (is_met c a b) to locals (drop 2 stack)))

-- by two references
unfoldable pub if_same_row : Bool → ℕ → Locals → Stack → NumericOutcome
if_same_row wanted to locals stack =
    given (top_reference stack) (λ b. given (top_reference (drop 1 stack)) (λ a. branches (is_wanted wanted (is_same a b)) to locals (drop 2 stack)))

-- by a reference that may be null
unfoldable pub if_null_row : Bool → ℕ → Locals → Stack → NumericOutcome
if_null_row wanted to locals stack = given (top_reference stack) (λ a. branches (is_wanted wanted (is_null a)) to locals (drop 1 stack))

-- the operand that is a key's target: the default is operand 0, the target of the least key operand 3
unfoldable pub table_place : ℤ → ℤ → ℤ → ℕ
table_place low high key = if int_lt key low then 0 else if int_lt high key then 0 else 3 + unsigned_abs (key -ℤ low)

-- to the target of a key between the least and the greatest one, else to the default
unfoldable pub table_row : Instr → Locals → Stack → NumericOutcome
table_row i locals stack =
    given (top_int stack) (λ key. Jump (index_operand i (table_place (operand i 1) (operand i 2) key)) locals (drop 1 stack))

-- the target of a key among pairs of a key and its target
unfoldable pub target_of : List ℤ → ℤ → ℤ → ℤ
target_of (k ∷ to ∷ pairs) key other = elim (int_eq k key) [ true ↦ to | false ↦ target_of pairs key other ]
target_of _ key other = other

-- to the target of a key that is there, else to the default
unfoldable pub lookup_row : Instr → Locals → Stack → NumericOutcome
lookup_row i locals stack =
    given (top_int stack) (λ key. Jump (cast_unsigned w32 (target_of (drop 2 i.operands) key (operand i 0))) locals (drop 1 stack))

-- ---- the rows

-- the long that a constant means
unfoldable pub long_constant : Option Resolved → Option Value
long_constant (Some (resolved.Long n)) = Some (value.Long n)
long_constant _ = None

-- the rows that move values, in a method of class c whose stack has so many slots at most
unfoldable pub moving_row : System → ℕ → ℕ → Row → Instr → Locals → Stack → NumericOutcome
moving_row s c most row.Nop i locals stack = Next locals stack
moving_row s c most (row.Push v) i locals stack = leaves most locals (v ∷ stack)
moving_row s c most row.PushOperand i locals stack = leaves most locals (value.Int (operand i 0) ∷ stack)
moving_row s c most row.PushLong i locals stack =
    given (long_constant (constant_at s c (index_operand i 0))) (λ v. leaves most locals (v ∷ stack))
moving_row s c most (row.Load k place) i locals stack = load_row most k (place_of place i) locals stack
moving_row s c most (row.Store k place) i locals stack = store_row k (place_of place i) locals stack
moving_row s c most (row.Discard n) i locals stack = discard_row n locals stack
moving_row s c most (row.Copy copied under) i locals stack = copy_row most copied under locals stack
moving_row s c most row.Swap i locals stack = swap_row most locals stack
moving_row s c most _ i locals stack = NotMine

-- the rows of arithmetic
unfoldable pub arithmetic_row : ℕ → Row → Instr → Locals → Stack → NumericOutcome
arithmetic_row most (row.IntOperate o) i locals stack = on_ints most (λ a b. value.Int (operation_result w32 o a b)) locals stack
arithmetic_row most (row.LongOperate o) i locals stack = on_longs most (λ a b. value.Long (operation_result w64 o a b)) locals stack
arithmetic_row most (row.IntDivide d) i locals stack = int_divide_row most d locals stack
arithmetic_row most (row.LongDivide d) i locals stack = long_divide_row most d locals stack
arithmetic_row most row.IntNegate i locals stack = negate_row most kind.Int locals stack
arithmetic_row most row.LongNegate i locals stack = negate_row most kind.Long locals stack
arithmetic_row most (row.IntShift d) i locals stack = on_ints most (λ a b. value.Int (int_shift_result d a b)) locals stack
arithmetic_row most (row.LongShift d) i locals stack = long_shift_row most d locals stack
arithmetic_row most row.Increment i locals stack = increment_row (index_operand i 0) (operand i 1) locals stack
arithmetic_row most (row.Convert c) i locals stack = convert_row most c locals stack
arithmetic_row most row.CompareLongs i locals stack = on_longs most (λ a b. value.Int (order_of a b)) locals stack
arithmetic_row most _ i locals stack = NotMine

-- the rows of branches and switches
unfoldable pub branching_row : Row → Instr → Locals → Stack → NumericOutcome
branching_row (row.IfZero c) i locals stack = if_zero_row c (index_operand i 0) locals stack
branching_row (row.IfInts c) i locals stack = if_ints_row c (index_operand i 0) locals stack
branching_row (row.IfSame wanted) i locals stack = if_same_row wanted (index_operand i 0) locals stack
branching_row (row.IfNull wanted) i locals stack = if_null_row wanted (index_operand i 0) locals stack
branching_row row.Goto i locals stack = Jump (index_operand i 0) locals stack
branching_row row.TableSwitch i locals stack = table_row i locals stack
branching_row row.LookupSwitch i locals stack = lookup_row i locals stack
branching_row _ i locals stack = NotMine

-- another outcome where the row is not one of these
unfoldable pub outcome_or : NumericOutcome → NumericOutcome → NumericOutcome
outcome_or NotMine other = other
outcome_or outcome other = outcome

-- what an instruction does to a frame, in a method of class c whose stack has so many slots at most
unfoldable pub numeric_row : System → ℕ → ℕ → Instr → Locals → Stack → NumericOutcome
numeric_row s c most i locals stack =
    let r : Row = row_at i.opcode in
    outcome_or (moving_row s c most r i locals stack) (outcome_or (arithmetic_row most r i locals stack) (branching_row r i locals stack))

-- what a computed case opens
unfoldable pub opened_numeric_rows : Unit {0}
unfolding slots_of depth_of as_reference as_kind int_of long_of top top_int top_long top_reference single double group_of given leaves branches local_of set_local with_local place_of load_row store_row discard_row copy_row swap_row on_ints on_longs unless_by_zero int_divide_row long_divide_row long_shift_row negate_row increment_row convert_row is_wanted is_null is_same if_zero_row if_ints_row if_same_row if_null_row table_place table_row target_of lookup_row long_constant moving_row arithmetic_row branching_row outcome_or numeric_row
opened_numeric_rows = tt
