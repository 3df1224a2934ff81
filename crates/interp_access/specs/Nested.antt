-- The lengths of an array of arrays, on a stack, and what making it answers.
use Rattle.std.specs.Prelude.{◌≡◌, ℕ, zero, suc, ◌+◌, pos, int_lt, Bool, true, false, ◌&&◌, ◌||◌, List, [], ◌∷◌, Option, Some, slice_get}
use Rattle.jx_base.specs.Basics.{not_below_zero}
use Rattle.jx_base.specs.declared.value.Value.{Value}
use Rattle.jx_base.specs.declared.value.Value.TheVariants as value
use Rattle.machine_model.specs.NumericRows.{Stack}
use Rattle.machine_model.specs.ObjectRows.{Making}
use Rattle.machine_model.specs.State.{Store}

-- whether there is an int, and whether it is below 0
unfoldable pub is_int : Option Value → Bool
is_int (Some (value.Int n)) = true
is_int _ = false

unfoldable pub is_negative : Option Value → Bool
is_negative (Some (value.Int n)) = int_lt n (pos 0)
is_negative _ = false

-- whether so many values are ints, from a place on
unfoldable pub are_ints : Stack → ℕ → ℕ → Bool
are_ints stack above zero = true
are_ints stack above (suc n) = is_int (slice_get stack above) && are_ints stack (above + 1) n

-- whether one of so many values is an int below 0
unfoldable pub has_negative : Stack → ℕ → ℕ → Bool
has_negative stack above zero = false
has_negative stack above (suc n) = is_negative (slice_get stack above) || has_negative stack (above + 1) n

-- an int as a length
unfoldable pub length_of : Option Value → ℕ
length_of (Some (value.Int n)) = not_below_zero n
length_of _ = 0

-- the uppermost lengths, so many, the lowest one first
unfoldable pub nested_lengths : Stack → ℕ → List ℕ
nested_lengths stack zero = []
nested_lengths stack (suc n) = length_of (slice_get stack n) ∷ nested_lengths stack n

-- the array that was made, if it was made whole, in the store that has it
abbrev pub MakesWhole : Option ℕ → Store → Making → Type 0
MakesWhole array new making = making ≡ record { store = new; array = array }
