-- The depths of the stacks of a domain's threads, against the limits of their frames.
use Rattle.std.specs.Prelude.{◌≡◌, ◌≤◌, drop}
use Rattle.std.specs.List.{AllByRecursion}
use Rattle.jx_base.specs.declared.frame.Frame.{Frame}
use Rattle.jx_base.specs.declared.program.System.{System}
use Rattle.machine_model.specs.NumericRows.{depth_of}
use Rattle.machine_model.specs.State.{Going, Thread, State, stack_limit}

-- the frame's stack is within its limit
abbrev pub IsWithin : System → Frame → Type 0
IsWithin s f = depth_of f.stack.values ≤ stack_limit s f

-- the stacks below the running frame's are within their limits, and all are while the thread goes on
pub record HasStacksWithin (s : System) (x : Thread) : Type 0 where
  pub below : AllByRecursion (IsWithin s) (drop 1 x.frames)
  pub going : x.stage ≡ Going → AllByRecursion (IsWithin s) x.frames

-- so it is with each thread
abbrev pub HaveStacksWithin : System → State → Type 0
HaveStacksWithin s st = AllByRecursion (HasStacksWithin s) st.threads
