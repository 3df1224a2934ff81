-- The bytes behind the operands of an instruction, by their lengths.
use Rattle.std.specs.Prelude.{ℕ, zero, suc, ◌+◌, ◌*◌, ℤ, pos, ◌-ℤ◌, int_lt, int_le, unsigned_abs, Bool, true, ◌&&◌, not, ◌==◌, List, [], ◌∷◌, length, take, drop, Option, Some, None, Result, Ok, Err, nat_lt, nat_le, if◌then◌else◌}
use Rattle.std.specs.Int.{w32, cast_signed, from_be_bytes}
use Rattle.std.specs.Option.{option_and_then, option_map}
use Rattle.class_grammar.specs.CodeGrammar.{padding_length}
use Rattle.class_grammar.specs.Opcodes.{form_at, wide_form_at}
use Rattle.jx_base.specs.declared.row.Form.{Form}
use Rattle.jx_base.specs.declared.row.Form.TheVariants as form

-- the bytes that are left where reading succeeds
unfoldable pub left_by : {A F : Type 0} → Result (A × List ℕ) F → Option (List ℕ)
left_by (Ok x) = Some x.1
left_by (Err f) = None

-- the bytes behind the first n
unfoldable pub behind_bytes : ℕ → List ℕ → Option (List ℕ)
behind_bytes n bytes = if nat_lt (length bytes) n then None else Some (drop n bytes)

-- the number of four bytes at the front, and the bytes behind it
unfoldable pub number_front : List ℕ → Option (ℤ × List ℕ)
number_front bytes =
    if nat_lt (length bytes) 4 then None
    else Some (cast_signed w32 (from_be_bytes w32 (take 4 bytes)), drop 4 bytes)

-- ---- switches

-- the targets of the keys from the least to the greatest one
unfoldable pub behind_range : ℤ → ℤ → List ℕ → Option (List ℕ)
behind_range low high bytes = if int_le low high then behind_bytes (4 * (unsigned_abs (high -ℤ low) + 1)) bytes else None

unfoldable pub behind_table : ℕ → List ℕ → Option (List ℕ)
behind_table pc bytes =
    option_and_then (λ rest. option_and_then (λ low. option_and_then (λ high. behind_range low.0 high.0 high.1)
    (number_front low.1)) (number_front rest)) (behind_bytes (padding_length pc + 4) bytes)

-- whether the key is above the one before it, if there is one
unfoldable pub is_above_last : Option ℤ → ℤ → Bool
is_above_last None key = true
is_above_last (Some last) key = int_lt last key

-- the key at the front, where it is above the last one, and the bytes behind its target
unfoldable pub key_front : Option ℤ → List ℕ → Option (ℤ × List ℕ)
key_front last bytes =
    option_and_then (λ x. if is_above_last last x.0 then option_map (λ rest. (x.0, rest)) (behind_bytes 4 x.1) else None) (number_front bytes)

-- so many rising keys, each with its target
unfoldable pub behind_keys : Option ℤ → ℕ → List ℕ → Option (List ℕ)
behind_keys last zero bytes = Some bytes
behind_keys last (suc n) bytes = option_and_then (λ x. behind_keys (Some x.0) n x.1) (key_front last bytes)

unfoldable pub behind_lookup : ℕ → List ℕ → Option (List ℕ)
behind_lookup pc bytes =
    option_and_then (λ rest. option_and_then (λ x.
    if int_lt x.0 (pos 0) then None else behind_keys None (unsigned_abs x.0) x.1)
    (number_front rest)) (behind_bytes (padding_length pc + 4) bytes)

-- ---- other forms

-- the type of an array's elements
unfoldable pub behind_array_type : List ℕ → Option (List ℕ)
behind_array_type [] = None
behind_array_type (n ∷ rest) = if nat_le 4 n && nat_le n 11 && not (n == 6) && not (n == 7) then Some rest else None

-- an index, and at least one dimension
unfoldable pub behind_dimensions : List ℕ → Option (List ℕ)
behind_dimensions (i ∷ j ∷ n ∷ rest) = if n == 0 then None else Some rest
behind_dimensions _ = None

-- the operands of a form
unfoldable pub behind_operands : ℕ → Form → List ℕ → Option (List ℕ)
behind_operands pc form.Plain bytes = Some bytes
behind_operands pc form.SignedByte bytes = behind_bytes 1 bytes
behind_operands pc form.SignedShort bytes = behind_bytes 2 bytes
behind_operands pc form.Byte bytes = behind_bytes 1 bytes
behind_operands pc form.Index bytes = behind_bytes 2 bytes
behind_operands pc form.Interface bytes = behind_bytes 4 bytes
behind_operands pc form.ArrayType bytes = behind_array_type bytes
behind_operands pc form.Dimensions bytes = behind_dimensions bytes
behind_operands pc form.Increment bytes = behind_bytes 2 bytes
behind_operands pc form.WideIncrement bytes = behind_bytes 4 bytes
behind_operands pc form.Branch bytes = behind_bytes 2 bytes
behind_operands pc form.FarBranch bytes = behind_bytes 4 bytes
behind_operands pc form.TableSwitch bytes = behind_table pc bytes
behind_operands pc form.LookupSwitch bytes = behind_lookup pc bytes
behind_operands pc form.Wide bytes = None
behind_operands pc form.LeftOut bytes = None
behind_operands pc form.Unassigned bytes = None

-- an opcode behind wide, and its operands
unfoldable pub behind_wide : ℕ → List ℕ → Option (List ℕ)
behind_wide pc [] = None
behind_wide pc (opcode ∷ rest) = behind_operands pc (wide_form_at opcode) rest

-- what stands behind an opcode of that form
unfoldable pub behind_opcode : ℕ → Form → List ℕ → Option (List ℕ)
behind_opcode pc form.Wide bytes = behind_wide pc bytes
behind_opcode pc f bytes = behind_operands pc f bytes

-- an instruction
unfoldable pub behind_instruction : ℕ → List ℕ → Option (List ℕ)
behind_instruction pc [] = None
behind_instruction pc (opcode ∷ rest) = behind_opcode pc (form_at opcode) rest
