-- Numeric rows and the reading of instructions, computed.
use Rattle.std.specs.Prelude.{◌≡◌, refl, ℕ, ℤ, pos, negsuc, true, false, List, [], ◌∷◌, Some, None}
use Rattle.jx_base.specs.declared.class_file.Instr.{Instr}
use Rattle.jx_base.specs.declared.program.System.{System}
use Rattle.jx_base.specs.declared.value.Value.TheVariants as value
use Rattle.program_model.specs.Instructions.{instruction_at}
use Rattle.machine_model.specs.NumericRows.{NumericOutcome, numeric_row, Stack, Locals, Next, Jump, Raise, BadCode, NotMine}
use Rattle.opened_models.specs.Opened.{opened_model}

-- a system without classes
abbrev pub empty_system : System
empty_system =
    record {
      plan = record { granules = 1; journal = 8208; templates = []; classes = [] };
      program = record { classes = []; methods = []; selectors = [] };
    }

-- an instruction at pc 0
abbrev pub instr : ℕ → List ℤ → Instr
instr opcode operands = record { pc = 0; opcode = opcode; wide = false; operands = operands }

-- what an opcode makes of two locals and a stack of eight slots at most
abbrev pub outcome : ℕ → List ℤ → Locals → Stack → NumericOutcome
outcome opcode operands locals stack = numeric_row empty_system 0 8 (instr opcode operands) locals stack

-- what an opcode without operands makes of a stack
abbrev pub on : ℕ → Stack → NumericOutcome
on opcode stack = outcome opcode [] [] stack

-- that stack is left
abbrev pub leaving : Stack → NumericOutcome
leaving stack = Next [] stack

-- ---- arithmetic

least_int_by_minus_one : on 0x6c (value.Int (negsuc 0) ∷ value.Int (negsuc 2147483647) ∷ []) ≡ leaving (value.Int (negsuc 2147483647) ∷ [])
unfolding opened_model
least_int_by_minus_one = refl

least_int_remainder : on 0x70 (value.Int (negsuc 0) ∷ value.Int (negsuc 2147483647) ∷ []) ≡ leaving (value.Int (pos 0) ∷ [])
unfolding opened_model
least_int_remainder = refl

least_long_by_minus_one : on 0x6d (value.Long (negsuc 0) ∷ value.Long (negsuc 9223372036854775807) ∷ []) ≡ leaving (value.Long (negsuc 9223372036854775807) ∷ [])
unfolding opened_model
least_long_by_minus_one = refl

least_long_remainder : on 0x71 (value.Long (negsuc 0) ∷ value.Long (negsuc 9223372036854775807) ∷ []) ≡ leaving (value.Long (pos 0) ∷ [])
unfolding opened_model
least_long_remainder = refl

remainder_has_dividend_sign : on 0x70 (value.Int (pos 3) ∷ value.Int (negsuc 6) ∷ []) ≡ leaving (value.Int (negsuc 0) ∷ [])
unfolding opened_model
remainder_has_dividend_sign = refl

quotient_cuts_toward_zero : on 0x6c (value.Int (pos 2) ∷ value.Int (negsuc 6) ∷ []) ≡ leaving (value.Int (negsuc 2) ∷ [])
unfolding opened_model
quotient_cuts_toward_zero = refl

int_by_zero : on 0x6c (value.Int (pos 0) ∷ value.Int (pos 6) ∷ []) ≡ Raise 6
unfolding opened_model
int_by_zero = refl

long_remainder_by_zero : on 0x71 (value.Long (pos 0) ∷ value.Long (pos 6) ∷ []) ≡ Raise 6
unfolding opened_model
long_remainder_by_zero = refl

int_sum_wraps : on 0x60 (value.Int (pos 1) ∷ value.Int (pos 2147483647) ∷ []) ≡ leaving (value.Int (negsuc 2147483647) ∷ [])
unfolding opened_model
int_sum_wraps = refl

long_difference_wraps : on 0x65 (value.Long (pos 1) ∷ value.Long (negsuc 9223372036854775807) ∷ []) ≡ leaving (value.Long (pos 9223372036854775807) ∷ [])
unfolding opened_model
long_difference_wraps = refl

int_product_wraps : on 0x68 (value.Int (pos 65536) ∷ value.Int (pos 65536) ∷ []) ≡ leaving (value.Int (pos 0) ∷ [])
unfolding opened_model
int_product_wraps = refl

least_int_negated : on 0x74 (value.Int (negsuc 2147483647) ∷ []) ≡ leaving (value.Int (negsuc 2147483647) ∷ [])
unfolding opened_model
least_int_negated = refl

long_negated : on 0x75 (value.Long (pos 5) ∷ []) ≡ leaving (value.Long (negsuc 4) ∷ [])
unfolding opened_model
long_negated = refl

int_left_by_33 : on 0x78 (value.Int (pos 33) ∷ value.Int (pos 1) ∷ []) ≡ leaving (value.Int (pos 2) ∷ [])
unfolding opened_model
int_left_by_33 = refl

long_left_by_65 : on 0x79 (value.Int (pos 65) ∷ value.Long (pos 1) ∷ []) ≡ leaving (value.Long (pos 2) ∷ [])
unfolding opened_model
long_left_by_65 = refl

int_right_by_33 : on 0x7a (value.Int (pos 33) ∷ value.Int (negsuc 7) ∷ []) ≡ leaving (value.Int (negsuc 3) ∷ [])
unfolding opened_model
int_right_by_33 = refl

int_right_by_minus_one : on 0x7a (value.Int (negsuc 0) ∷ value.Int (negsuc 7) ∷ []) ≡ leaving (value.Int (negsuc 0) ∷ [])
unfolding opened_model
int_right_by_minus_one = refl

long_right_by_65 : on 0x7b (value.Int (pos 65) ∷ value.Long (negsuc 7) ∷ []) ≡ leaving (value.Long (negsuc 3) ∷ [])
unfolding opened_model
long_right_by_65 = refl

int_unsigned_right_by_one : on 0x7c (value.Int (pos 1) ∷ value.Int (negsuc 0) ∷ []) ≡ leaving (value.Int (pos 2147483647) ∷ [])
unfolding opened_model
int_unsigned_right_by_one = refl

long_unsigned_right_by_65 : on 0x7d (value.Int (pos 65) ∷ value.Long (negsuc 0) ∷ []) ≡ leaving (value.Long (pos 9223372036854775807) ∷ [])
unfolding opened_model
long_unsigned_right_by_65 = refl

-- six bits of the count
long_left_by_33 : on 0x79 (value.Int (pos 33) ∷ value.Long (pos 1) ∷ []) ≡ leaving (value.Long (pos 8589934592) ∷ [])
unfolding opened_model
long_left_by_33 = refl

long_unsigned_right_by_63 : on 0x7d (value.Int (pos 63) ∷ value.Long (negsuc 0) ∷ []) ≡ leaving (value.Long (pos 1) ∷ [])
unfolding opened_model
long_unsigned_right_by_63 = refl

int_and : on 0x7e (value.Int (pos 12) ∷ value.Int (negsuc 5) ∷ []) ≡ leaving (value.Int (pos 8) ∷ [])
unfolding opened_model
int_and = refl

int_or : on 0x80 (value.Int (pos 12) ∷ value.Int (negsuc 5) ∷ []) ≡ leaving (value.Int (negsuc 1) ∷ [])
unfolding opened_model
int_or = refl

long_xor : on 0x83 (value.Long (pos 12) ∷ value.Long (negsuc 5) ∷ []) ≡ leaving (value.Long (negsuc 9) ∷ [])
unfolding opened_model
long_xor = refl

byte_of_200 : on 0x91 (value.Int (pos 200) ∷ []) ≡ leaving (value.Int (negsuc 55) ∷ [])
unfolding opened_model
byte_of_200 = refl

char_of_minus_one : on 0x92 (value.Int (negsuc 0) ∷ []) ≡ leaving (value.Int (pos 65535) ∷ [])
unfolding opened_model
char_of_minus_one = refl

short_of_40000 : on 0x93 (value.Int (pos 40000) ∷ []) ≡ leaving (value.Int (negsuc 25535) ∷ [])
unfolding opened_model
short_of_40000 = refl

int_of_long : on 0x88 (value.Long (pos 6442450944) ∷ []) ≡ leaving (value.Int (negsuc 2147483647) ∷ [])
unfolding opened_model
int_of_long = refl

long_of_int : on 0x85 (value.Int (negsuc 6) ∷ []) ≡ leaving (value.Long (negsuc 6) ∷ [])
unfolding opened_model
long_of_int = refl

one_before_two : on 0x94 (value.Long (pos 2) ∷ value.Long (pos 1) ∷ []) ≡ leaving (value.Int (negsuc 0) ∷ [])
unfolding opened_model
one_before_two = refl

two_behind_one : on 0x94 (value.Long (pos 1) ∷ value.Long (pos 2) ∷ []) ≡ leaving (value.Int (pos 1) ∷ [])
unfolding opened_model
two_behind_one = refl

equal_longs : on 0x94 (value.Long (pos 5) ∷ value.Long (pos 5) ∷ []) ≡ leaving (value.Int (pos 0) ∷ [])
unfolding opened_model
equal_longs = refl

-- ---- pops, copies and swaps, by each form; values 1, 2, 3 from the top

pop_one : on 0x57 (value.Int (pos 1) ∷ value.Int (pos 2) ∷ []) ≡ leaving (value.Int (pos 2) ∷ [])
unfolding opened_model
pop_one = refl

pop_long : on 0x57 (value.Long (pos 1) ∷ value.Int (pos 2) ∷ []) ≡ BadCode
unfolding opened_model
pop_long = refl

pop2_two : on 0x58 (value.Int (pos 1) ∷ value.Int (pos 2) ∷ value.Int (pos 3) ∷ []) ≡ leaving (value.Int (pos 3) ∷ [])
unfolding opened_model
pop2_two = refl

pop2_long : on 0x58 (value.Long (pos 1) ∷ value.Int (pos 3) ∷ []) ≡ leaving (value.Int (pos 3) ∷ [])
unfolding opened_model
pop2_long = refl

pop2_over_long : on 0x58 (value.Int (pos 1) ∷ value.Long (pos 2) ∷ []) ≡ BadCode
unfolding opened_model
pop2_over_long = refl

dup_one : on 0x59 (value.Int (pos 1) ∷ []) ≡ leaving (value.Int (pos 1) ∷ value.Int (pos 1) ∷ [])
unfolding opened_model
dup_one = refl

dup_long : on 0x59 (value.Long (pos 1) ∷ []) ≡ BadCode
unfolding opened_model
dup_long = refl

dup_x1_ones : on 0x5a (value.Int (pos 1) ∷ value.Int (pos 2) ∷ []) ≡ leaving (value.Int (pos 1) ∷ value.Int (pos 2) ∷ value.Int (pos 1) ∷ [])
unfolding opened_model
dup_x1_ones = refl

dup_x1_over_long : on 0x5a (value.Int (pos 1) ∷ value.Long (pos 2) ∷ []) ≡ BadCode
unfolding opened_model
dup_x1_over_long = refl

dup_x1_of_long : on 0x5a (value.Long (pos 1) ∷ value.Int (pos 2) ∷ []) ≡ BadCode
unfolding opened_model
dup_x1_of_long = refl

dup_x2_ones : on 0x5b (value.Int (pos 1) ∷ value.Int (pos 2) ∷ value.Int (pos 3) ∷ []) ≡ leaving (value.Int (pos 1) ∷ value.Int (pos 2) ∷ value.Int (pos 3) ∷ value.Int (pos 1) ∷ [])
unfolding opened_model
dup_x2_ones = refl

dup_x2_over_long : on 0x5b (value.Int (pos 1) ∷ value.Long (pos 2) ∷ []) ≡ leaving (value.Int (pos 1) ∷ value.Long (pos 2) ∷ value.Int (pos 1) ∷ [])
unfolding opened_model
dup_x2_over_long = refl

dup_x2_of_long : on 0x5b (value.Long (pos 1) ∷ value.Int (pos 2) ∷ value.Int (pos 3) ∷ []) ≡ BadCode
unfolding opened_model
dup_x2_of_long = refl

dup_x2_across_long : on 0x5b (value.Int (pos 1) ∷ value.Int (pos 2) ∷ value.Long (pos 3) ∷ []) ≡ BadCode
unfolding opened_model
dup_x2_across_long = refl

dup2_ones : on 0x5c (value.Int (pos 1) ∷ value.Int (pos 2) ∷ []) ≡ leaving (value.Int (pos 1) ∷ value.Int (pos 2) ∷ value.Int (pos 1) ∷ value.Int (pos 2) ∷ [])
unfolding opened_model
dup2_ones = refl

dup2_long : on 0x5c (value.Long (pos 1) ∷ []) ≡ leaving (value.Long (pos 1) ∷ value.Long (pos 1) ∷ [])
unfolding opened_model
dup2_long = refl

dup2_across_long : on 0x5c (value.Int (pos 1) ∷ value.Long (pos 2) ∷ []) ≡ BadCode
unfolding opened_model
dup2_across_long = refl

dup2_x1_ones : on 0x5d (value.Int (pos 1) ∷ value.Int (pos 2) ∷ value.Int (pos 3) ∷ []) ≡ leaving (value.Int (pos 1) ∷ value.Int (pos 2) ∷ value.Int (pos 3) ∷ value.Int (pos 1) ∷ value.Int (pos 2) ∷ [])
unfolding opened_model
dup2_x1_ones = refl

dup2_x1_long : on 0x5d (value.Long (pos 1) ∷ value.Int (pos 2) ∷ []) ≡ leaving (value.Long (pos 1) ∷ value.Int (pos 2) ∷ value.Long (pos 1) ∷ [])
unfolding opened_model
dup2_x1_long = refl

dup2_x1_over_long : on 0x5d (value.Long (pos 1) ∷ value.Long (pos 2) ∷ []) ≡ BadCode
unfolding opened_model
dup2_x1_over_long = refl

dup2_x2_ones : on 0x5e (value.Int (pos 1) ∷ value.Int (pos 2) ∷ value.Int (pos 3) ∷ value.Int (pos 4) ∷ []) ≡ leaving (value.Int (pos 1) ∷ value.Int (pos 2) ∷ value.Int (pos 3) ∷ value.Int (pos 4) ∷ value.Int (pos 1) ∷ value.Int (pos 2) ∷ [])
unfolding opened_model
dup2_x2_ones = refl

dup2_x2_long_over_ones : on 0x5e (value.Long (pos 1) ∷ value.Int (pos 2) ∷ value.Int (pos 3) ∷ []) ≡ leaving (value.Long (pos 1) ∷ value.Int (pos 2) ∷ value.Int (pos 3) ∷ value.Long (pos 1) ∷ [])
unfolding opened_model
dup2_x2_long_over_ones = refl

dup2_x2_ones_over_long : on 0x5e (value.Int (pos 1) ∷ value.Int (pos 2) ∷ value.Long (pos 3) ∷ []) ≡ leaving (value.Int (pos 1) ∷ value.Int (pos 2) ∷ value.Long (pos 3) ∷ value.Int (pos 1) ∷ value.Int (pos 2) ∷ [])
unfolding opened_model
dup2_x2_ones_over_long = refl

dup2_x2_longs : on 0x5e (value.Long (pos 1) ∷ value.Long (pos 2) ∷ []) ≡ leaving (value.Long (pos 1) ∷ value.Long (pos 2) ∷ value.Long (pos 1) ∷ [])
unfolding opened_model
dup2_x2_longs = refl

swap_ones : on 0x5f (value.Int (pos 1) ∷ value.Int (pos 2) ∷ []) ≡ leaving (value.Int (pos 2) ∷ value.Int (pos 1) ∷ [])
unfolding opened_model
swap_ones = refl

swap_long : on 0x5f (value.Long (pos 1) ∷ value.Int (pos 2) ∷ []) ≡ BadCode
unfolding opened_model
swap_long = refl

swap_over_long : on 0x5f (value.Int (pos 1) ∷ value.Long (pos 2) ∷ []) ≡ BadCode
unfolding opened_model
swap_over_long = refl

pop_nothing : on 0x57 ([]) ≡ BadCode
unfolding opened_model
pop_nothing = refl

dup2_one : on 0x5c (value.Int (pos 1) ∷ []) ≡ BadCode
unfolding opened_model
dup2_one = refl

deep_enough : on 0x5c (value.Long (pos 1) ∷ value.Long (pos 2) ∷ value.Long (pos 3) ∷ []) ≡ leaving (value.Long (pos 1) ∷ value.Long (pos 1) ∷ value.Long (pos 2) ∷ value.Long (pos 3) ∷ [])
unfolding opened_model
deep_enough = refl

too_deep : on 0x5c (value.Long (pos 1) ∷ value.Long (pos 2) ∷ value.Long (pos 3) ∷ value.Int (pos 4) ∷ []) ≡ BadCode
unfolding opened_model
too_deep = refl

-- ---- wrong kinds

sum_of_long_and_int : on 0x60 (value.Int (pos 1) ∷ value.Long (pos 2) ∷ []) ≡ BadCode
unfolding opened_model
sum_of_long_and_int = refl

long_shift_by_long : on 0x79 (value.Long (pos 1) ∷ value.Long (pos 2) ∷ []) ≡ BadCode
unfolding opened_model
long_shift_by_long = refl

int_test_of_null : on 0x75 (value.Null ∷ []) ≡ BadCode
unfolding opened_model
int_test_of_null = refl

missing_operand : on 0x60 (value.Int (pos 1) ∷ []) ≡ BadCode
unfolding opened_model
missing_operand = refl

-- ---- locals

long_takes_two_locals : outcome 0x37 (pos 0 ∷ []) (Some (value.Int (pos 5)) ∷ Some (value.Int (pos 6)) ∷ Some (value.Int (pos 7)) ∷ []) (value.Long (pos 9) ∷ []) ≡ Next (Some (value.Long (pos 9)) ∷ None ∷ Some (value.Int (pos 7)) ∷ []) []
unfolding opened_model
long_takes_two_locals = refl

second_local_is_unset : outcome 0x15 (pos 1 ∷ []) (Some (value.Long (pos 9)) ∷ None ∷ []) ([]) ≡ BadCode
unfolding opened_model
second_local_is_unset = refl

long_in_the_last_local : outcome 0x37 (pos 1 ∷ []) (None ∷ None ∷ []) (value.Long (pos 9) ∷ []) ≡ BadCode
unfolding opened_model
long_in_the_last_local = refl

long_from_the_last_local : outcome 0x16 (pos 1 ∷ []) (None ∷ Some (value.Long (pos 9)) ∷ []) ([]) ≡ BadCode
unfolding opened_model
long_from_the_last_local = refl

int_in_the_last_local : outcome 0x36 (pos 1 ∷ []) (None ∷ None ∷ []) (value.Int (pos 9) ∷ []) ≡ Next (None ∷ Some (value.Int (pos 9)) ∷ []) []
unfolding opened_model
int_in_the_last_local = refl

local_past_the_last : outcome 0x15 (pos 2 ∷ []) (Some (value.Int (pos 1)) ∷ Some (value.Int (pos 2)) ∷ []) ([]) ≡ BadCode
unfolding opened_model
local_past_the_last = refl

store_past_the_last : outcome 0x36 (pos 2 ∷ []) (None ∷ None ∷ []) (value.Int (pos 1) ∷ []) ≡ BadCode
unfolding opened_model
store_past_the_last = refl

unset_local : outcome 0x15 (pos 0 ∷ []) (None ∷ []) ([]) ≡ BadCode
unfolding opened_model
unset_local = refl

int_from_reference : outcome 0x15 (pos 0 ∷ []) (Some (value.Null) ∷ []) ([]) ≡ BadCode
unfolding opened_model
int_from_reference = refl

reference_from_int : outcome 0x19 (pos 0 ∷ []) (Some (value.Int (pos 1)) ∷ []) ([]) ≡ BadCode
unfolding opened_model
reference_from_int = refl

long_stays_where_its_second_local_is_stored : outcome 0x16 (pos 0 ∷ []) (Some (value.Long (pos 9)) ∷ Some (value.Int (pos 1)) ∷ []) ([]) ≡ Next (Some (value.Long (pos 9)) ∷ Some (value.Int (pos 1)) ∷ []) (value.Long (pos 9) ∷ [])
unfolding opened_model
long_stays_where_its_second_local_is_stored = refl

increment_wraps : outcome 0x84 (pos 0 ∷ pos 1 ∷ []) (Some (value.Int (pos 2147483647)) ∷ []) ([]) ≡ Next (Some (value.Int (negsuc 2147483647)) ∷ []) []
unfolding opened_model
increment_wraps = refl

increment_down : outcome 0x84 (pos 0 ∷ negsuc 127 ∷ []) (Some (value.Int (pos 0)) ∷ []) ([]) ≡ Next (Some (value.Int (negsuc 127)) ∷ []) []
unfolding opened_model
increment_down = refl

increment_of_null : outcome 0x84 (pos 0 ∷ pos 1 ∷ []) (Some (value.Null) ∷ []) ([]) ≡ BadCode
unfolding opened_model
increment_of_null = refl

fixed_local : outcome 0x1d ([]) (None ∷ None ∷ None ∷ Some (value.Int (pos 4)) ∷ []) ([]) ≡ Next (None ∷ None ∷ None ∷ Some (value.Int (pos 4)) ∷ []) (value.Int (pos 4) ∷ [])
unfolding opened_model
fixed_local = refl

fixed_store : outcome 0x40 ([]) (None ∷ None ∷ None ∷ []) (value.Long (pos 4) ∷ []) ≡ Next (None ∷ Some (value.Long (pos 4)) ∷ None ∷ []) []
unfolding opened_model
fixed_store = refl

-- ---- branches

ifeq_zero : outcome 0x99 (pos 7 ∷ []) [] (value.Int (pos 0) ∷ []) ≡ Jump 7 [] ([])
unfolding opened_model
ifeq_zero = refl

ifeq_one : outcome 0x99 (pos 7 ∷ []) [] (value.Int (pos 1) ∷ []) ≡ Next [] ([])
unfolding opened_model
ifeq_one = refl

ifne_one : outcome 0x9a (pos 7 ∷ []) [] (value.Int (pos 1) ∷ []) ≡ Jump 7 [] ([])
unfolding opened_model
ifne_one = refl

iflt_minus : outcome 0x9b (pos 7 ∷ []) [] (value.Int (negsuc 0) ∷ []) ≡ Jump 7 [] ([])
unfolding opened_model
iflt_minus = refl

ifge_zero : outcome 0x9c (pos 7 ∷ []) [] (value.Int (pos 0) ∷ []) ≡ Jump 7 [] ([])
unfolding opened_model
ifge_zero = refl

ifgt_zero : outcome 0x9d (pos 7 ∷ []) [] (value.Int (pos 0) ∷ []) ≡ Next [] ([])
unfolding opened_model
ifgt_zero = refl

ifle_zero : outcome 0x9e (pos 7 ∷ []) [] (value.Int (pos 0) ∷ []) ≡ Jump 7 [] ([])
unfolding opened_model
ifle_zero = refl

icmplt : outcome 0xa1 (pos 7 ∷ []) [] (value.Int (pos 2) ∷ value.Int (pos 1) ∷ []) ≡ Jump 7 [] ([])
unfolding opened_model
icmplt = refl

icmpge : outcome 0xa2 (pos 7 ∷ []) [] (value.Int (pos 2) ∷ value.Int (pos 1) ∷ []) ≡ Next [] ([])
unfolding opened_model
icmpge = refl

icmpgt : outcome 0xa3 (pos 7 ∷ []) [] (value.Int (pos 1) ∷ value.Int (pos 2) ∷ []) ≡ Jump 7 [] ([])
unfolding opened_model
icmpgt = refl

icmple : outcome 0xa4 (pos 7 ∷ []) [] (value.Int (pos 2) ∷ value.Int (pos 2) ∷ []) ≡ Jump 7 [] ([])
unfolding opened_model
icmple = refl

icmpeq : outcome 0x9f (pos 7 ∷ []) [] (value.Int (pos 2) ∷ value.Int (pos 2) ∷ []) ≡ Jump 7 [] ([])
unfolding opened_model
icmpeq = refl

icmpne : outcome 0xa0 (pos 7 ∷ []) [] (value.Int (pos 2) ∷ value.Int (pos 2) ∷ []) ≡ Next [] ([])
unfolding opened_model
icmpne = refl

portals_of_one_service : outcome 0xa5 (pos 7 ∷ []) [] (value.Portal (record { 0 = 1 }) (record { 0 = 30 }) ∷ value.Portal (record { 0 = 1 }) (record { 0 = 18 }) ∷ []) ≡ Jump 7 [] ([])
unfolding opened_model
portals_of_one_service = refl

object_and_its_portal : outcome 0xa5 (pos 7 ∷ []) [] (value.Portal (record { 0 = 1 }) (record { 0 = 30 }) ∷ value.Ref 2 ∷ []) ≡ Next [] ([])
unfolding opened_model
object_and_its_portal = refl

acmpne_nulls : outcome 0xa6 (pos 7 ∷ []) [] (value.Null ∷ value.Null ∷ []) ≡ Next [] ([])
unfolding opened_model
acmpne_nulls = refl

ifnull_null : outcome 0xc6 (pos 7 ∷ []) [] (value.Null ∷ []) ≡ Jump 7 [] ([])
unfolding opened_model
ifnull_null = refl

ifnonnull_object : outcome 0xc7 (pos 7 ∷ []) [] (value.Ref 1 ∷ []) ≡ Jump 7 [] ([])
unfolding opened_model
ifnonnull_object = refl

goto_far : outcome 0xc8 (pos 7 ∷ []) [] ([]) ≡ Jump 7 [] ([])
unfolding opened_model
goto_far = refl

acmp_of_an_int : outcome 0xa5 (pos 7 ∷ []) [] (value.Int (pos 1) ∷ value.Ref 1 ∷ []) ≡ BadCode
unfolding opened_model
acmp_of_an_int = refl

ifnull_of_an_int : outcome 0xc6 (pos 7 ∷ []) [] (value.Int (pos 1) ∷ []) ≡ BadCode
unfolding opened_model
ifnull_of_an_int = refl

table_below : outcome 0xaa (pos 99 ∷ pos 0 ∷ pos 1 ∷ pos 30 ∷ pos 40 ∷ []) [] (value.Int (negsuc 0) ∷ []) ≡ Jump 99 [] []
unfolding opened_model
table_below = refl

table_low : outcome 0xaa (pos 99 ∷ pos 0 ∷ pos 1 ∷ pos 30 ∷ pos 40 ∷ []) [] (value.Int (pos 0) ∷ []) ≡ Jump 30 [] []
unfolding opened_model
table_low = refl

table_high : outcome 0xaa (pos 99 ∷ pos 0 ∷ pos 1 ∷ pos 30 ∷ pos 40 ∷ []) [] (value.Int (pos 1) ∷ []) ≡ Jump 40 [] []
unfolding opened_model
table_high = refl

table_above : outcome 0xaa (pos 99 ∷ pos 0 ∷ pos 1 ∷ pos 30 ∷ pos 40 ∷ []) [] (value.Int (pos 2) ∷ []) ≡ Jump 99 [] []
unfolding opened_model
table_above = refl

table_of_extremes : outcome 0xaa (pos 99 ∷ negsuc 2147483647 ∷ negsuc 2147483646 ∷ pos 30 ∷ pos 40 ∷ []) [] (value.Int (pos 2147483647) ∷ []) ≡ Jump 99 [] []
unfolding opened_model
table_of_extremes = refl

lookup_first : outcome 0xab (pos 99 ∷ pos 2 ∷ negsuc 4 ∷ pos 30 ∷ pos 7 ∷ pos 40 ∷ []) [] (value.Int (negsuc 4) ∷ []) ≡ Jump 30 [] []
unfolding opened_model
lookup_first = refl

lookup_second : outcome 0xab (pos 99 ∷ pos 2 ∷ negsuc 4 ∷ pos 30 ∷ pos 7 ∷ pos 40 ∷ []) [] (value.Int (pos 7) ∷ []) ≡ Jump 40 [] []
unfolding opened_model
lookup_second = refl

lookup_other : outcome 0xab (pos 99 ∷ pos 2 ∷ negsuc 4 ∷ pos 30 ∷ pos 7 ∷ pos 40 ∷ []) [] (value.Int (pos 0) ∷ []) ≡ Jump 99 [] []
unfolding opened_model
lookup_other = refl

lookup_of_no_keys : outcome 0xab (pos 99 ∷ pos 0 ∷ []) [] (value.Int (pos 3) ∷ []) ≡ Jump 99 [] []
unfolding opened_model
lookup_of_no_keys = refl

-- ---- constants

least_constant : on 0x02 [] ≡ leaving (value.Int (negsuc 0) ∷ [])
unfolding opened_model
least_constant = refl

greatest_constant : on 0x08 [] ≡ leaving (value.Int (pos 5) ∷ [])
unfolding opened_model
greatest_constant = refl

long_constant_one : on 0x0a [] ≡ leaving (value.Long (pos 1) ∷ [])
unfolding opened_model
long_constant_one = refl

pushed_byte : outcome 0x10 (negsuc 0 ∷ []) [] [] ≡ leaving (value.Int (negsuc 0) ∷ [])
unfolding opened_model
pushed_byte = refl

object_rows_are_not_numeric : on 0xbe [] ≡ NotMine
unfolding opened_model
object_rows_are_not_numeric = refl

left_out_rows_are_none : on 0x62 [] ≡ NotMine
unfolding opened_model
left_out_rows_are_none = refl

-- ---- reading

table_at_0 : instruction_at (0xaa ∷ 0x9 ∷ 0x9 ∷ 0x9 ∷ 0x0 ∷ 0x0 ∷ 0x0 ∷ 0x14 ∷ 0x0 ∷ 0x0 ∷ 0x0 ∷ 0x0 ∷ 0x0 ∷ 0x0 ∷ 0x0 ∷ 0x1 ∷ 0x0 ∷ 0x0 ∷ 0x0 ∷ 0x1e ∷ 0x0 ∷ 0x0 ∷ 0x0 ∷ 0x28 ∷ []) 0 ≡ Some (record { instr = record { pc = 0; opcode = 0xaa; wide = false; operands = pos 20 ∷ pos 0 ∷ pos 1 ∷ pos 30 ∷ pos 40 ∷ [] }; next = 24 })
unfolding opened_model
table_at_0 = refl

table_at_1 : instruction_at (0x0 ∷ 0xaa ∷ 0x9 ∷ 0x9 ∷ 0x0 ∷ 0x0 ∷ 0x0 ∷ 0x14 ∷ 0x0 ∷ 0x0 ∷ 0x0 ∷ 0x0 ∷ 0x0 ∷ 0x0 ∷ 0x0 ∷ 0x1 ∷ 0x0 ∷ 0x0 ∷ 0x0 ∷ 0x1e ∷ 0x0 ∷ 0x0 ∷ 0x0 ∷ 0x28 ∷ []) 1 ≡ Some (record { instr = record { pc = 1; opcode = 0xaa; wide = false; operands = pos 21 ∷ pos 0 ∷ pos 1 ∷ pos 31 ∷ pos 41 ∷ [] }; next = 24 })
unfolding opened_model
table_at_1 = refl

table_at_2 : instruction_at (0x0 ∷ 0x0 ∷ 0xaa ∷ 0x9 ∷ 0x0 ∷ 0x0 ∷ 0x0 ∷ 0x14 ∷ 0x0 ∷ 0x0 ∷ 0x0 ∷ 0x0 ∷ 0x0 ∷ 0x0 ∷ 0x0 ∷ 0x1 ∷ 0x0 ∷ 0x0 ∷ 0x0 ∷ 0x1e ∷ 0x0 ∷ 0x0 ∷ 0x0 ∷ 0x28 ∷ []) 2 ≡ Some (record { instr = record { pc = 2; opcode = 0xaa; wide = false; operands = pos 22 ∷ pos 0 ∷ pos 1 ∷ pos 32 ∷ pos 42 ∷ [] }; next = 24 })
unfolding opened_model
table_at_2 = refl

table_at_3 : instruction_at (0x0 ∷ 0x0 ∷ 0x0 ∷ 0xaa ∷ 0x0 ∷ 0x0 ∷ 0x0 ∷ 0x14 ∷ 0x0 ∷ 0x0 ∷ 0x0 ∷ 0x0 ∷ 0x0 ∷ 0x0 ∷ 0x0 ∷ 0x1 ∷ 0x0 ∷ 0x0 ∷ 0x0 ∷ 0x1e ∷ 0x0 ∷ 0x0 ∷ 0x0 ∷ 0x28 ∷ []) 3 ≡ Some (record { instr = record { pc = 3; opcode = 0xaa; wide = false; operands = pos 23 ∷ pos 0 ∷ pos 1 ∷ pos 33 ∷ pos 43 ∷ [] }; next = 24 })
unfolding opened_model
table_at_3 = refl

lookup_at_1 : instruction_at (0x0 ∷ 0xab ∷ 0x9 ∷ 0x9 ∷ 0x0 ∷ 0x0 ∷ 0x0 ∷ 0x14 ∷ 0x0 ∷ 0x0 ∷ 0x0 ∷ 0x2 ∷ 0xff ∷ 0xff ∷ 0xff ∷ 0xfb ∷ 0x0 ∷ 0x0 ∷ 0x0 ∷ 0x1e ∷ 0x0 ∷ 0x0 ∷ 0x0 ∷ 0x7 ∷ 0xff ∷ 0xff ∷ 0xff ∷ 0xff ∷ []) 1 ≡ Some (record { instr = record { pc = 1; opcode = 0xab; wide = false; operands = pos 21 ∷ pos 2 ∷ negsuc 4 ∷ pos 31 ∷ pos 7 ∷ pos 0 ∷ [] }; next = 28 })
unfolding opened_model
lookup_at_1 = refl

wide_load : instruction_at (0xc4 ∷ 0x15 ∷ 0x1 ∷ 0x0 ∷ []) 0 ≡ Some (record { instr = record { pc = 0; opcode = 0x15; wide = true; operands = pos 256 ∷ [] }; next = 4 })
unfolding opened_model
wide_load = refl

wide_store_of_a_long : instruction_at (0xc4 ∷ 0x37 ∷ 0x0 ∷ 0x3 ∷ []) 0 ≡ Some (record { instr = record { pc = 0; opcode = 0x37; wide = true; operands = pos 3 ∷ [] }; next = 4 })
unfolding opened_model
wide_store_of_a_long = refl

wide_increment : instruction_at (0xc4 ∷ 0x84 ∷ 0x1 ∷ 0x0 ∷ 0xff ∷ 0xfe ∷ []) 0 ≡ Some (record { instr = record { pc = 0; opcode = 0x84; wide = true; operands = pos 256 ∷ negsuc 1 ∷ [] }; next = 6 })
unfolding opened_model
wide_increment = refl

plain_increment : instruction_at (0x84 ∷ 0x5 ∷ 0xff ∷ []) 0 ≡ Some (record { instr = record { pc = 0; opcode = 0x84; wide = false; operands = pos 5 ∷ negsuc 0 ∷ [] }; next = 3 })
unfolding opened_model
plain_increment = refl

short_operand : instruction_at (0x11 ∷ 0x80 ∷ 0x0 ∷ []) 0 ≡ Some (record { instr = record { pc = 0; opcode = 0x11; wide = false; operands = negsuc 32767 ∷ [] }; next = 3 })
unfolding opened_model
short_operand = refl

branch_back : instruction_at (0x0 ∷ 0x0 ∷ 0xa7 ∷ 0xff ∷ 0xfe ∷ []) 2 ≡ Some (record { instr = record { pc = 2; opcode = 0xa7; wide = false; operands = pos 0 ∷ [] }; next = 5 })
unfolding opened_model
branch_back = refl

far_branch : instruction_at (0xc8 ∷ 0x0 ∷ 0x0 ∷ 0x0 ∷ 0x5 ∷ 0x0 ∷ []) 0 ≡ Some (record { instr = record { pc = 0; opcode = 0xc8; wide = false; operands = pos 5 ∷ [] }; next = 5 })
unfolding opened_model
far_branch = refl

interface_call : instruction_at (0xb9 ∷ 0x0 ∷ 0x7 ∷ 0x2 ∷ 0x0 ∷ []) 0 ≡ Some (record { instr = record { pc = 0; opcode = 0xb9; wide = false; operands = pos 7 ∷ [] }; next = 5 })
unfolding opened_model
interface_call = refl

array_of_arrays : instruction_at (0xc5 ∷ 0x0 ∷ 0x7 ∷ 0x2 ∷ []) 0 ≡ Some (record { instr = record { pc = 0; opcode = 0xc5; wide = false; operands = pos 7 ∷ pos 2 ∷ [] }; next = 4 })
unfolding opened_model
array_of_arrays = refl

array_of_ints : instruction_at (0xbc ∷ 0xa ∷ []) 0 ≡ Some (record { instr = record { pc = 0; opcode = 0xbc; wide = false; operands = pos 10 ∷ [] }; next = 2 })
unfolding opened_model
array_of_ints = refl

past_the_code : instruction_at (0x00 ∷ []) 1 ≡ None
unfolding opened_model
past_the_code = refl

wide_of_a_fixed_load : instruction_at (0xc4 ∷ 0x1a ∷ 0x00 ∷ 0x00 ∷ []) 0 ≡ None
unfolding opened_model
wide_of_a_fixed_load = refl

wide_float_load : instruction_at (0xc4 ∷ 0x17 ∷ 0x00 ∷ 0x00 ∷ []) 0 ≡ None
unfolding opened_model
wide_float_load = refl

left_out_opcode : instruction_at (0x0b ∷ []) 0 ≡ None
unfolding opened_model
left_out_opcode = refl

unassigned_opcode : instruction_at (0xcb ∷ []) 0 ≡ None
unfolding opened_model
unassigned_opcode = refl

cut_off_operand : instruction_at (0x11 ∷ 0x00 ∷ []) 0 ≡ None
unfolding opened_model
cut_off_operand = refl
