-- What a contract sees of an operand stack.
use Rattle.std.specs.Prelude.{ℕ, List}
use Rattle.jx_base.specs.declared.value.Value.{Value}

-- the values, the top first, and how many there is room for
pub record StackState : Type 0 where
  pub values : List Value
  pub room : ℕ
