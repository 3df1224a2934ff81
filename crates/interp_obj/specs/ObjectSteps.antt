-- The rows on objects, and the instruction that a step runs.
use Rattle.std.specs.Prelude.{Bool, true, false, List}
use Rattle.jx_base.specs.declared.class_file.Instr.{Instr}
use Rattle.jx_base.specs.declared.frame.Frame.{Frame}
use Rattle.jx_base.specs.declared.program.System.{System}
use Rattle.jx_base.specs.declared.row.Row.{Row}
use Rattle.jx_base.specs.declared.row.Row.TheVariants as row
use Rattle.machine_model.specs.Conditions.{IsInstrOf}
use Rattle.machine_model.specs.State.{Core}

-- the instruction is the one at the running frame, which stands above its callers
pub record IsNextInstr (s : System) (core : Core) (i : Instr) : Type 0 where
  pub frame : Frame
  pub callers : List Frame
  pub instruction : IsInstrOf s core frame callers i

-- whether a row is one on objects, arrays, fields, classes, calls or exceptions
unfoldable pub is_object_row : Row → Bool
is_object_row row.PushConstant = true
is_object_row (row.LoadElement e) = true
is_object_row (row.StoreElement e) = true
is_object_row (row.Return k) = true
is_object_row row.ReturnVoid = true
is_object_row row.GetStatic = true
is_object_row row.PutStatic = true
is_object_row row.GetField = true
is_object_row row.PutField = true
is_object_row (row.Invoke kind) = true
is_object_row row.New = true
is_object_row row.NewArray = true
is_object_row row.NewReferenceArray = true
is_object_row row.NewMultiArray = true
is_object_row row.ArrayLength = true
is_object_row row.Throw = true
is_object_row row.CheckCast = true
is_object_row row.InstanceOf = true
is_object_row _ = false
