-- What a numeric step answers, and what it leaves of the frame, where its row has that outcome.
use Rattle.std.specs.Prelude.{◌≡◌, ◌≤◌, ℕ, Bool, true, false, [], length, Option, Some, None}
use Rattle.jx_base.specs.declared.frame.Frame.{Frame}
use Rattle.jx_base.specs.declared.row.Row.{Row}
use Rattle.jx_base.specs.declared.row.Row.TheVariants as row
use Rattle.machine_model.specs.NumericRows.{NumericOutcome, Locals, depth_of}
use Rattle.machine_model.specs.NumericRows.{NumericOutcome as outcome}
use Rattle.interp_num.specs.declared.step.NumStep.{NumStep}
use Rattle.interp_num.specs.declared.step.NumStep.TheVariants as step

-- the answer and the frame that is left are the row's outcome: where a class is raised the locals are as before and the stack
-- is empty, after bad code the locals are as before, and of a row that is none on numbers so is the frame
abbrev pub Gives : NumStep → Frame → Frame → NumericOutcome → Type 0
Gives step.Next old new r = r ≡ outcome.Next new.locals new.stack.values
Gives (step.Jump to) old new r = r ≡ outcome.Jump to new.locals new.stack.values
Gives (step.Raise c) old new r = (r ≡ outcome.Raise c.0) × ((new.locals ≡ old.locals) × (new.stack.values ≡ []))
Gives step.BadCode old new r = (r ≡ outcome.BadCode) × (new.locals ≡ old.locals)
Gives step.NotMine old new r = (r ≡ outcome.NotMine) × (new ≡ old)

-- whether a row is one on numbers, the stack, locals, branches or switches
unfoldable pub is_numeric : Row → Bool
is_numeric row.PushConstant = false
is_numeric (row.LoadElement _) = false
is_numeric (row.StoreElement _) = false
is_numeric (row.Return _) = false
is_numeric row.ReturnVoid = false
is_numeric row.GetStatic = false
is_numeric row.PutStatic = false
is_numeric row.GetField = false
is_numeric row.PutField = false
is_numeric (row.Invoke _) = false
is_numeric row.New = false
is_numeric row.NewArray = false
is_numeric row.NewReferenceArray = false
is_numeric row.NewMultiArray = false
is_numeric row.ArrayLength = false
is_numeric row.Throw = false
is_numeric row.CheckCast = false
is_numeric row.InstanceOf = false
is_numeric row.Missing = false
is_numeric _ = true

-- a step of a row that is numeric
abbrev pub Ran : NumStep → Locals → Frame → NumericOutcome → Type 0
Ran step.Next locals f r = r ≡ outcome.Next f.locals f.stack.values
Ran (step.Jump to) locals f r = r ≡ outcome.Jump to f.locals f.stack.values
Ran (step.Raise c) locals f r = (r ≡ outcome.Raise c.0) × ((f.locals ≡ locals) × (f.stack.values ≡ []))
Ran step.BadCode locals f r = ⊥
Ran step.NotMine locals f r = ⊥

-- the same, where none stands for bad code; the locals are those before the step
abbrev pub Runs : Option NumStep → Locals → Frame → NumericOutcome → Type 0
Runs None locals f r = (r ≡ outcome.BadCode) × (f.locals ≡ locals)
Runs (Some s) locals f r = Ran s locals f r

-- the answer, where none stands for bad code, and the frame that is left are the row's outcome
abbrev pub MayGive : Option NumStep → Frame → Frame → NumericOutcome → Type 0
MayGive None old new r = Gives step.BadCode old new r
MayGive (Some s) old new r = Gives s old new r

-- the frame is at the same place of the same method, and its stack has the same room
abbrev pub IsSameCall : Frame → Frame → Type 0
IsSameCall old new = (new.method ≡ old.method) × ((new.pc ≡ old.pc) × (new.stack.room ≡ old.stack.room))

-- the frame's stack is within so many slots, and has room for as many values
abbrev pub IsWithin : ℕ → Frame → Type 0
IsWithin most f = (length f.stack.values ≤ depth_of f.stack.values) × ((depth_of f.stack.values ≤ most) × (most ≤ f.stack.room))
