-- Lines by their kind.
use Rattle.std.specs.Prelude.{ℕ, Bool, true, false, ◌||◌, List, length, filter}
use Rattle.asm_lines.specs.declared.line.Line.{Line}
use Rattle.asm_lines.specs.declared.line.Line.TheVariants as line

unfoldable pub is_class : Line → Bool
is_class (line.Class flags name super) = true
is_class _ = false

unfoldable pub is_implements : Line → Bool
is_implements (line.Implements name) = true
is_implements _ = false

unfoldable pub is_field : Line → Bool
is_field (line.Field m) = true
is_field _ = false

unfoldable pub is_abstract : Line → Bool
is_abstract (line.Abstract m) = true
is_abstract _ = false

unfoldable pub is_step : Line → Bool
is_step (line.Label name) = true
is_step (line.Instruction i) = true
is_step _ = false

unfoldable pub is_catch : Line → Bool
is_catch (line.Catch c) = true
is_catch _ = false

unfoldable pub is_method : Line → Bool
is_method (line.Method m max_stack max_locals) = true
is_method _ = false

unfoldable pub count_of : (Line → Bool) → List Line → ℕ
count_of test lines = length (filter test lines)

unfoldable pub is_member : Line → Bool
is_member l = is_abstract l || is_method l
