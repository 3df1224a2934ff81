-- The indices and the bytes that constants take up.
use Rattle.std.specs.Prelude.{ℕ, ◌+◌, List, [], ◌∷◌, if◌then◌else◌}
use Rattle.class_grammar.specs.Constants.{constant_length, is_double_width}
use Rattle.jx_base.specs.declared.class_file.Constant.{Constant}
use Rattle.jx_base.specs.declared.class_file.Constant.TheVariants as constant

-- how many indices a constant takes up
unfoldable pub index_count : Constant → ℕ
index_count c = if is_double_width c then 2 else 1

-- a constant with what stands at its other index
unfoldable pub entries : Constant → List Constant
entries c = if is_double_width c then c ∷ constant.Unusable ∷ [] else c ∷ []

-- how many bytes some constants take up
unfoldable pub constants_length : List Constant → ℕ
constants_length [] = 0
constants_length (c ∷ cs) = constant_length c + constants_length cs
