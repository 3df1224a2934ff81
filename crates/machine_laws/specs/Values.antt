-- What a state of a domain holds, against the past of its system.
use Rattle.std.specs.Prelude.{pos, FitsSigned, ◌≡◌, ◌≢◌, ℕ, ◌<◌, ◌≤◌, length, Option, Some, None, IsSome, IfSome, IfNone, Contains}
use Rattle.std.specs.List.{AllByRecursion}
use Rattle.std.specs.Int.{w32, w64}
use Rattle.jx_base.specs.declared.frame.Frame.{Frame}
use Rattle.jx_base.specs.declared.states.Exported.{Exported}
use Rattle.jx_base.specs.declared.value.Value.{Value}
use Rattle.jx_base.specs.declared.value.Value.TheVariants as value
use Rattle.jx_base.specs.declared.program.Method.{Method}
use Rattle.jx_base.specs.declared.program.System.{System}
use Rattle.program_model.specs.Instructions.{Reading, instruction_at}
use Rattle.program_model.specs.Lookup.{class_at, method_at}
use Rattle.program_model.specs.BuiltIn.{string_class, builder_class}
use Rattle.jx_base.specs.Histories.{Past}
use Rattle.jx_model.specs.Moments.{HasGrown}
use Rattle.program_model.specs.Parcels.{HeapObject}
use Rattle.jx_model.specs.WellMade.{IsClass, IsPortalIn}
use Rattle.program_model.specs.Ranges.{IsId}
use Rattle.machine_model.specs.State.{Store, Stage, Returned, Threw, Thread, State, class_of_object, static_types, code_of, code_bytes, stack_limit}
use Rattle.machine_model.specs.Conditions.{local_count, IsTextIfObject}

-- the cells that a heap has at most
abbrev pub cell_limit : ℕ
cell_limit = 131072

-- the store has an object of that number
abbrev pub IsObject : Store → ℕ → Type 0
IsObject store r = IsSome (class_of_object store r)

-- a number is of its width, a portal is one of the past, a memory object has a number of 32 bits, and a reference is an object of the store
abbrev pub IsValueIn : Past → Store → Value → Type 0
IsValueIn past store (value.Int n) = FitsSigned w32 n
IsValueIn past store (value.Long n) = FitsSigned w64 n
IsValueIn past store (value.Portal k c) = IsPortalIn past k.0 c
IsValueIn past store (value.Mem m) = IsId m.0
IsValueIn past store (value.Ref r) = IsObject store r
IsValueIn past store _ = Unit {0}

-- the value, where there is one
abbrev pub IsValueInSome : Past → Store → Option Value → Type 0
IsValueInSome past store None = Unit {0}
IsValueInSome past store (Some v) = IsValueIn past store v

-- an int of sixteen bits without a sign
abbrev pub IsUnitValue : Value → Type 0
IsUnitValue (value.Int (pos n)) = n < 65536
IsUnitValue _ = ⊥

-- so many cells are those of an object of the class, where it is neither an array nor a String
abbrev pub HasCountOf : System → ℕ → ℕ → Type 0
HasCountOf s c n = c ≢ string_class → IfSome (class_at s c) (λ k. IfNone k.component (n ≡ length k.fields))

-- an object is of a class of the system, with the cells of that class, no larger than a heap, and of values; a String's are units, and what a StringBuilder refers to is a String
pub record IsObjectIn (s : System) (past : Past) (store : Store) (o : HeapObject) : Type 0 where
  pub known : IsClass s o.class.0
  pub count : HasCountOf s o.class.0 (length o.cells)
  pub small : length o.cells ≤ cell_limit
  pub cells : AllByRecursion (IsValueIn past store) o.cells
  pub units : o.class.0 ≡ string_class → AllByRecursion IsUnitValue o.cells
  pub text : o.class.0 ≡ builder_class → AllByRecursion (IsTextIfObject store) o.cells

-- an export is of an object, and its service was exported with that interface
pub record IsExportIn (past : Past) (store : Store) (x : Exported) : Type 0 where
  pub object : IsObject store x.object
  pub known : IsPortalIn past x.service.0 x.iface

-- a store: object 0 is there, to be thrown for want of room, and object 1, which main is passed; it has the static fields of all classes
pub record IsStoreIn (s : System) (past : Past) (store : Store) : Type 0 where
  pub first : IsObject store 0
  pub second : IsObject store 1
  pub room : store.left ≤ cell_limit
  pub objects : AllByRecursion (IsObjectIn s past store) store.objects
  pub count : length store.statics ≡ length (static_types s)
  pub statics : AllByRecursion (IsValueIn past store) store.statics
  pub literals : AllByRecursion (λ x. IsObject store x.1) store.literals
  pub exports : AllByRecursion (IsExportIn past store) store.exports

-- where a frame's code has an instruction at its pc, it is one of its method's
abbrev pub IsPlaced : System → Frame → Type 0
IsPlaced s f = (k : Method) (r : Reading) → method_at s f.method ≡ Some k → instruction_at (code_bytes s f) f.pc ≡ Some r → Contains k.instrs r.instr

-- a frame of a method with code, with its locals and room for its stack
pub record IsFrameIn (s : System) (past : Past) (store : Store) (f : Frame) : Type 0 where
  pub method : IsSome (code_of s f.method)
  pub place : IsPlaced s f
  pub count : length f.locals ≡ local_count s f
  pub room : stack_limit s f ≤ f.stack.room
  pub locals : AllByRecursion (IsValueInSome past store) f.locals
  pub stack : AllByRecursion (IsValueIn past store) f.stack.values

-- what a thread has come to
abbrev pub IsStageIn : Past → Store → Stage → Type 0
IsStageIn past store (Returned v) = IsValueInSome past store v
IsStageIn past store (Threw r) = IsObject store r
IsStageIn past store _ = Unit {0}

-- a thread
pub record IsThreadIn (s : System) (past : Past) (store : Store) (x : Thread) : Type 0 where
  pub frames : AllByRecursion (IsFrameIn s past store) x.frames
  pub stage : IsStageIn past store x.stage

-- a state of a domain whose system has that past
pub record IsStateIn (s : System) (past : Past) (st : State) : Type 0 where
  pub store : IsStoreIn s past st.store
  pub threads : AllByRecursion (IsThreadIn s past st.store) st.threads

-- the call that a thread serves, if any, has a number of 32 bits
abbrev pub ServesKnownCall : Thread → Type 0
ServesKnownCall x = IfSome x.call (λ c. IsId c.0)

-- so has the call of each thread
abbrev pub ServeKnownCalls : State → Type 0
ServeKnownCalls st = AllByRecursion ServesKnownCall st.threads

-- the new store has the objects of the old one, of the same classes
abbrev pub HasObjectsOf : Store → Store → Type 0
HasObjectsOf old new = (r c : ℕ) → class_of_object old r ≡ Some c → class_of_object new r ≡ Some c

-- the new past and store have all that the old ones have
pub record Grows (old : Past) (before : Store) (new : Past) (after : Store) : Type 0 where
  pub past : HasGrown old new
  pub objects : HasObjectsOf before after
