-- What the steps of an instruction ask of a frame and of a core.
use Rattle.std.specs.Prelude.{◌≡◌, ◌≢◌, ◌<◌, ◌≤◌, ℕ, pos, ⊤, List, ◌∷◌, ◌++◌, length, Option, Some, None, IsSome, IsSomeAnd, IfSome, IfNone, All, Contains, flat_map}
use Rattle.std.specs.List.{filter_map}
use Rattle.jx_base.specs.declared.class_file.Instr.{Instr}
use Rattle.jx_base.specs.declared.program.System.{System}
use Rattle.jx_base.specs.declared.program.Resolved.{Resolved}
use Rattle.jx_base.specs.declared.program.Resolved.TheVariants as resolved
use Rattle.jx_base.specs.declared.frame.Frame.{Frame}
use Rattle.jx_base.specs.declared.value.Value.{Value}
use Rattle.jx_base.specs.declared.value.Value.TheVariants as value
use Rattle.program_model.specs.BuiltIn.{string_class, builder_class}
use Rattle.program_model.specs.Instructions.{index_operand}
use Rattle.program_model.specs.Lookup.{class_at, class_count, method_at, constant_at}
use Rattle.program_model.specs.Parcels.{HeapObject}
use Rattle.machine_model.specs.NumericRows.{depth_of}
use Rattle.machine_model.specs.State.{Store, Core, class_of_object, code_of, stack_limit, class_of_frame}
use Rattle.std.specs.Option.{option_and_then, option_map, unwrap_or}

-- ---- of a frame

-- how many locals a frame has
unfoldable pub local_count : System → Frame → ℕ
local_count s f = unwrap_or (option_map (λ c. c.max_locals) (code_of s f.method)) 0

-- the frame is of a method with code, with its locals, and with a stack that is within its limit and has room up to it
pub record IsFrameOf (s : System) (f : Frame) : Type 0 where
  pub method : IsSome (code_of s f.method)
  pub locals : length f.locals ≡ local_count s f
  pub depth : depth_of f.stack.values ≤ stack_limit s f
  pub room : stack_limit s f ≤ f.stack.room

-- the instruction is the one that the system has of the frame's method at its pc
pub record IsInstrAt (s : System) (f : Frame) (i : Instr) : Type 0 where
  pub listed : IsSomeAnd (method_at s f.method) (λ m. Contains m.instrs i)
  pub place : i.pc ≡ f.pc

-- ---- of a core

-- the values of a frame
unfoldable pub frame_values : Frame → List Value
frame_values f = filter_map (λ v. v) f.locals ++ f.stack.values

-- the values of a store
unfoldable pub store_values : Store → List Value
store_values store = flat_map (λ o. o.cells) store.objects ++ store.statics

-- the values of a core
unfoldable pub core_values : Core → List Value
core_values core = flat_map frame_values core.frames ++ store_values core.store

-- a reference is an object of the store
abbrev pub IsHeldBy : Store → Value → Type 0
IsHeldBy store (value.Ref r) = r < length store.objects
IsHeldBy store _ = ⊤

-- a portal has a class of the system
abbrev pub HasKnownInterface : System → Value → Type 0
HasKnownInterface s (value.Portal service c) = c.0 < class_count s
HasKnownInterface s _ = ⊤

-- an object that is neither an array nor a String has the cells of its class
abbrev pub HasCellsOfClass : System → HeapObject → Type 0
HasCellsOfClass s o = o.class.0 ≢ string_class → IfSome (class_at s o.class.0) (λ k. IfNone k.component (length o.cells ≡ length k.fields))

-- an int from 0 to 65,535
abbrev pub IsUnit : Value → Type 0
IsUnit (value.Int (pos n)) = n < 65536
IsUnit _ = ⊥

-- the cells of a String are units
abbrev pub HasUnits : HeapObject → Type 0
HasUnits o = o.class.0 ≡ string_class → All IsUnit o.cells

-- a String, where it is an object
abbrev pub IsTextIfObject : Store → Value → Type 0
IsTextIfObject store (value.Ref r) = class_of_object store r ≡ Some string_class
IsTextIfObject store _ = Unit {0}

-- the cell of a StringBuilder refers to a String, or to nothing
abbrev pub RefersToText : Store → HeapObject → Type 0
RefersToText store o = o.class.0 ≡ builder_class → All (IsTextIfObject store) o.cells

-- the static field that a constant is
unfoldable pub static_of : Resolved → Option ℕ
static_of (resolved.Static c i) = Some i
static_of _ = None

-- the static field that an instruction at a frame names
unfoldable pub static_named : System → Frame → Instr → Option ℕ
static_named s f i = option_and_then static_of (constant_at s (class_of_frame s f) (index_operand i 0))

-- the core is one that a domain of the system can have
pub record IsCoreOf (s : System) (core : Core) : Type 0 where
  pub frames : All (IsFrameOf s) core.frames
  pub references : All (IsHeldBy core.store) (core_values core)
  pub literals : All (λ x. x.1 < length core.store.objects) core.store.literals
  pub exports : All (λ x. x.object < length core.store.objects) core.store.exports
  pub classes : All (λ o. o.class.0 < class_count s) core.store.objects
  pub interfaces : All (HasKnownInterface s) (core_values core)
  pub cells : All (HasCellsOfClass s) core.store.objects
  pub texts : All HasUnits core.store.objects
  pub builders : All (RefersToText core.store) core.store.objects

-- the instruction is the one at the core's running frame, and the static field that it names is there
pub record IsInstrOf (s : System) (core : Core) (f : Frame) (callers : List Frame) (i : Instr) : Type 0 where
  pub running : core.frames ≡ f ∷ callers
  pub instruction : IsInstrAt s f i
  pub statics : IfSome (static_named s f i) (λ k. k < length core.store.statics)

-- what a computed case opens
unfoldable pub opened_conditions : Unit {0}
unfolding local_count frame_values store_values core_values static_of static_named
opened_conditions = tt
