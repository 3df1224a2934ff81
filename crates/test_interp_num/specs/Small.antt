-- A system of one method, and frames of it.
use Rattle.std.specs.Prelude.{◌≡◌, ◌≤◌, ℕ, IsSomeAnd, length}
use Rattle.jx_base.specs.declared.program.System.{System}
use Rattle.jx_base.specs.declared.frame.Frame.{Frame}
use Rattle.machine_model.specs.NumericRows.{depth_of}
use Rattle.machine_model.specs.State.{code_of}

-- the method has code, with these limits
abbrev pub HasLimits : ℕ → ℕ → System → Type 0
HasLimits stack locals s = IsSomeAnd (code_of s 0) (λ c. (c.max_stack ≡ stack) × (c.max_locals ≡ locals))

-- the frame is one of the method, within these limits
pub record IsFrameWithin (stack locals : ℕ) (f : Frame) : Type 0 where
  pub method : f.method ≡ 0
  pub count : length f.locals ≡ locals
  pub depth : depth_of f.stack.values ≤ stack
  pub room : stack ≤ f.stack.room
