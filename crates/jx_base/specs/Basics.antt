-- Small words on numbers, options and lists.
use Rattle.std.specs.Prelude.{ℕ, zero, suc, ◌+◌, ◌-◌, ◌/◌, ◌%◌, ◌^◌, ℤ, pos, negsuc, Bool, false, List, [], ◌∷◌, ◌++◌, Option, Some, None, ◌==◌, if◌then◌else◌, slice_get}
use Rattle.std.specs.List.{range_with_len, list_any}
use Rattle.std.specs.Str.{bytes_eq}
use Rattle.std.specs.Int.{cast_unsigned, w32}

-- the numbers from 1 to n
unfoldable pub up_to : ℕ → List ℕ
up_to n = range_with_len 1 n

-- item n of a list, counted from 1
unfoldable pub numbered : {A : Type 0} → List A → ℕ → Option A
numbered xs zero = None
numbered xs (suc n) = slice_get xs n

-- whether the number is in the list
unfoldable pub contains_number : List ℕ → ℕ → Bool
contains_number xs n = list_any (λ x. x == n) xs

-- whether there is a number and it is n
unfoldable pub is_number : Option ℕ → ℕ → Bool
is_number None n = false
is_number (Some m) n = m == n

-- whether there is a value and it passes the test
unfoldable pub passes : {A : Type 0} → (A → Bool) → Option A → Bool
passes p None = false
passes p (Some x) = p x

-- the first value that f gives of the items
unfoldable pub first_some : {A B : Type 0} → (A → Option B) → List A → Option B
first_some f [] = None
first_some f (x ∷ xs) = elim (f x) [ Some y ↦ Some y | None ↦ first_some f xs ]

-- the number, or 0 for one below 0
unfoldable pub not_below_zero : ℤ → ℕ
not_below_zero (pos n) = n
not_below_zero (negsuc n) = 0

-- the items without later repeats, by a test of equality, and without those that were seen before
unfoldable pub distinct_after : {A : Type 0} → (A → A → Bool) → List A → List A → List A
distinct_after same seen [] = []
distinct_after same seen (x ∷ xs) =
    if list_any (same x) seen then distinct_after same seen xs
    else x ∷ distinct_after same (x ∷ seen) xs

-- the items without later repeats, by a test of equality
unfoldable pub distinct : {A : Type 0} → (A → A → Bool) → List A → List A
distinct same xs = distinct_after same [] xs

-- the items with one more behind them, unless it is among them, by a test of equality
unfoldable pub added : {A : Type 0} → (A → A → Bool) → List A → A → List A
added same xs x = if list_any (same x) xs then xs else xs ++ x ∷ []

-- the items with those others behind them that are new, by a test of equality
unfoldable pub all_added : {A : Type 0} → (A → A → Bool) → List A → List A → List A
all_added same xs [] = xs
all_added same xs (y ∷ ys) = all_added same (added same xs y) ys

-- whether a text is among these
unfoldable pub has_text : List (List ℕ) → List ℕ → Bool
has_text texts text = list_any (bytes_eq text) texts

-- the first fault that there is
unfoldable pub first_fault : {F : Type 0} → List (Option F) → Option F
first_fault [] = None
first_fault (None ∷ faults) = first_fault faults
first_fault (Some f ∷ faults) = Some f

-- the numbers without later repeats, and without those that were seen before
abbrev pub firsts_after : List ℕ → List ℕ → List ℕ
firsts_after seen xs = distinct_after (λ x y. y == x) seen xs

-- the numbers without later repeats
abbrev pub firsts : List ℕ → List ℕ
firsts xs = distinct (λ x y. y == x) xs

-- how many parts of that size hold n
unfoldable pub parts_of : ℕ → ℕ → ℕ
parts_of size n = (n + (size - 1)) / size

-- byte k, the lowest first, of the number as 32 bits
unfoldable pub low_byte : ℤ → ℕ → ℕ
low_byte v k = cast_unsigned w32 v / 256 ^ k % 256

-- what a computed case opens
unfoldable pub opened_basics : Unit {0}
unfolding up_to numbered contains_number is_number passes first_some not_below_zero distinct_after
    distinct added all_added has_text first_fault parts_of low_byte
opened_basics = tt
