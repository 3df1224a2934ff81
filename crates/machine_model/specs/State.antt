-- The state of a domain's machine: its heap, its static fields, its frames and its threads.
use Rattle.std.specs.Prelude.{true, ℕ, ◌+◌, ◌-◌, pos, Bool, false, ◌&&◌, ◌||◌, List, [], ◌∷◌, ◌++◌, length, replicate, Option, Some, None, ◌==◌, nat_lt, nat_le, if◌then◌else◌, map, find, slice_get, slice_set, sum_by}
use Rattle.jx_base.specs.declared.value.Value.{Value}
use Rattle.jx_base.specs.declared.value.Value.TheVariants as value
use Rattle.jx_base.specs.declared.states.Exported.{Exported}
use Rattle.jx_base.specs.declared.ids.CallId.{CallId}
use Rattle.jx_base.specs.declared.class_file.Code.{Code}
use Rattle.jx_base.specs.declared.class_file.Range.{Range}
use Rattle.jx_base.specs.declared.program.System.{System}
use Rattle.jx_base.specs.declared.program.Class.{Class}
use Rattle.jx_base.specs.declared.program.Resolved.{Resolved}
use Rattle.jx_base.specs.declared.program.Resolved.TheVariants as resolved
use Rattle.jx_base.specs.declared.frame.Frame.{Frame}
use Rattle.jx_base.specs.Basics.{passes}
use Rattle.program_model.specs.Types.{is_int_type, is_long_type, cut_to_type}
use Rattle.program_model.specs.BuiltIn.{memory_class}
use Rattle.program_model.specs.Instructions.{instruction_at}
use Rattle.program_model.specs.Lookup.{class_at, method_at, class_fits, constant_at, Shape, IntShape, LongShape, NullShape, ObjectShape, PortalShape, Unknown}
use Rattle.program_model.specs.Parcels.{HeapObject}
use Rattle.machine_model.specs.NumericRows.{Locals, Stack, slots_of, depth_of, with_local}
use Rattle.std.specs.Option.{option_and_then, option_map, unwrap_or}

-- what all threads of a domain share. `left` is the cells that are left; `literals` has the String object of each text that ldc has made
pub record Store : Type 0 where
  pub objects : List HeapObject
  pub left : ℕ
  pub statics : List Value
  pub literals : List (List ℕ × ℕ)
  pub exports : List Exported

-- what an object row works on: a thread's frames, the running one first, and the store
pub record Core : Type 0 where
  pub frames : List Frame
  pub store : Store

-- how far a thread has come: it has frames or is idle, its last frame returned or threw, or it met bad code
pub data Stage : Type 0 where
  Going : Stage
  Returned : Option Value → Stage
  Threw : ℕ → Stage
  Bad : Stage

-- a thread: the call that it serves, its frames, and the methods that it runs after this one
pub record Thread : Type 0 where
  pub call : Option CallId
  pub frames : List Frame
  pub stage : Stage
  pub waiting : List ℕ

-- a domain: the fuel left, what its threads share, its threads by their numbers, and the one that runs
pub record State : Type 0 where
  pub fuel : ℕ
  pub store : Store
  pub threads : List Thread
  pub running : Option ℕ

-- ---- objects

-- the class of an object
unfoldable pub class_of_object : Store → ℕ → Option ℕ
class_of_object store r = option_map (λ o. o.class.0) (slice_get store.objects r)

-- what decides which types a value fits
unfoldable pub shape_of : Store → Value → Shape
shape_of store (value.Int n) = IntShape n
shape_of store (value.Long n) = LongShape
shape_of store value.Null = NullShape
shape_of store (value.Portal service c) = PortalShape c.0
shape_of store (value.Mem m) = ObjectShape memory_class
shape_of store (value.Ref r) = elim (class_of_object store r) [ None ↦ Unknown | Some c ↦ ObjectShape c ]

-- the class by which a method is selected: a portal's is its interface
unfoldable pub class_of_shape : Shape → Option ℕ
class_of_shape (ObjectShape c) = Some c
class_of_shape (PortalShape c) = Some c
class_of_shape _ = None

-- the value of a field or an element that was never set
unfoldable pub default_of : List ℕ → Value
default_of type = if is_int_type type then value.Int (pos 0) else if is_long_type type then value.Long (pos 0) else value.Null

-- what a field or an element of the type keeps of a value
unfoldable pub kept_value : List ℕ → Value → Value
kept_value type (value.Int n) = value.Int (cut_to_type type n)
kept_value type v = v

-- an object more and its place, where the store has room: two cells and its own
unfoldable pub new_object : Store → ℕ → List Value → Option (Store × ℕ)
new_object store c cells =
    if nat_le (length cells + 2) store.left
    then Some (
      record store {
        objects = store.objects ++ record { class = record { 0 = c }; cells = cells } ∷ [];
        left = store.left - (length cells + 2);
      },
      length store.objects,
    )
    else None

-- an array of equal elements; a length without room makes no list of them
unfoldable pub new_array : Store → ℕ → ℕ → Value → Option (Store × ℕ)
new_array store c n filling = elim (nat_le (n + 2) store.left) [ true ↦ new_object store c (replicate n filling) | false ↦ None ]

-- the cells of a new object of a class that is no array
unfoldable pub default_cells : System → ℕ → List Value
default_cells s c = elim (class_at s c) [ None ↦ [] | Some k ↦ map (λ f. default_of f.descriptor) k.fields ]

-- an exception that the machine makes, with a null message: object 0 where it has no room
unfoldable pub new_exception : System → Store → ℕ → Store × ℕ
new_exception s store c = elim (new_object store c (default_cells s c)) [ Some x ↦ x | None ↦ (store, 0) ]

-- the cells of an object
unfoldable pub cells_of : Store → ℕ → List Value
cells_of store r = elim (slice_get store.objects r) [ None ↦ [] | Some o ↦ o.cells ]

-- the store with another value in a cell
unfoldable pub with_cell : Store → ℕ → ℕ → Value → Store
with_cell store r i v =
    elim (slice_get store.objects r) [
      | None ↦ store
      | Some o ↦ record store { objects = slice_set store.objects r (record o { cells = slice_set o.cells i v }) }
    ]

-- ---- static fields

-- the types of the static fields of these classes, in their order
unfoldable pub static_types_of : List Class → List (List ℕ)
static_types_of [] = []
static_types_of (k ∷ classes) = map (λ f. f.descriptor) k.statics ++ static_types_of classes

-- the types of a domain's static fields
unfoldable pub static_types : System → List (List ℕ)
static_types s = static_types_of s.program.classes

-- ---- frames

-- the code of a method
unfoldable pub code_of : System → ℕ → Option Code
code_of s m = option_and_then (λ x. x.code) (method_at s m)

-- the bytes of a frame's code
unfoldable pub code_bytes : System → Frame → List ℕ
code_bytes s f = elim (code_of s f.method) [ None ↦ [] | Some c ↦ c.code ]

-- how many slots a frame's stack has at most
unfoldable pub stack_limit : System → Frame → ℕ
stack_limit s f = unwrap_or (option_map (λ c. c.max_stack) (code_of s f.method)) 0

-- the class whose method a frame runs
unfoldable pub class_of_frame : System → Frame → ℕ
class_of_frame s f = unwrap_or (option_map (λ m. m.class.0) (method_at s f.method)) 0

-- the place behind the instruction that a frame is at
unfoldable pub pc_behind : System → Frame → ℕ
pc_behind s f = elim (instruction_at (code_bytes s f) f.pc) [ None ↦ f.pc | Some r ↦ r.next ]

-- the frame with other values on its stack
unfoldable pub with_values : Stack → Frame → Frame
with_values stack f = record f { stack = record f.stack { values = stack } }

-- the frame behind its instruction, with other values on its stack
unfoldable pub frame_behind : System → Stack → Frame → Frame
frame_behind s stack f = record (with_values stack f) { pc = pc_behind s f }

-- the frames with the running one changed
unfoldable pub with_running : (Frame → Frame) → List Frame → List Frame
with_running change [] = []
with_running change (f ∷ frames) = change f ∷ frames

-- whether the running frame's stack is deeper than it may be
unfoldable pub is_overfull : System → List Frame → Bool
is_overfull s frames = passes (λ f. nat_lt (stack_limit s f) (depth_of f.stack.values)) (slice_get frames 0)

-- the locals with these values from place n on, where they have room
unfoldable pub locals_with : Locals → ℕ → List Value → Option Locals
locals_with locals n [] = Some locals
locals_with locals n (v ∷ vs) = elim (with_local locals n v) [ None ↦ None | Some new ↦ locals_with new (n + slots_of v) vs ]

-- a frame at the start of a method's code
unfoldable pub frame_with : ℕ → Code → Locals → Frame
frame_with m c locals = record { method = m; pc = 0; locals = locals; stack = record { values = []; room = c.max_stack } }

-- the first frame of a method, where its arguments have room in its locals
unfoldable pub frame_of : System → ℕ → List Value → Option Frame
frame_of s m args =
    option_and_then (λ c. option_map (frame_with m c) (locals_with (replicate c.max_locals None) 0 args)) (code_of s m)

-- how many slots a frame of the method fills
unfoldable pub slots_of_method : System → ℕ → ℕ
slots_of_method s m = unwrap_or (option_map (λ c. c.max_locals + c.max_stack) (code_of s m)) 0

-- how many frames a thread has at most
unfoldable pub frame_limit : ℕ
frame_limit = 256

-- how many slots a thread's frames fill at most
unfoldable pub slot_limit : ℕ
slot_limit = 65536

-- whether a frame of the method above these is one too many, or fills too many slots
unfoldable pub is_overflow : System → ℕ → List Frame → Bool
is_overflow s m frames =
    nat_le frame_limit (length frames) || nat_lt slot_limit (slots_of_method s m + sum_by (λ f. slots_of_method s f.method) frames)

-- ---- throwing

-- whether a constant is a class that the thrown object's class fits
unfoldable pub is_caught_by : System → ℕ → Option Resolved → Bool
is_caught_by s thrown (Some (resolved.Class c)) = class_fits s thrown c.0
is_caught_by s thrown _ = false

-- whether an entry of the exception table catches an object of that class at the frame's pc
unfoldable pub is_handler_for : System → ℕ → Frame → Range → Bool
is_handler_for s thrown f r =
    nat_le r.start f.pc && nat_lt f.pc r.end
    && ((r.catch_type == 0) || is_caught_by s thrown (constant_at s (class_of_frame s f) r.catch_type))

-- the first handler in a frame's method for an object of that class
unfoldable pub handler_in : System → ℕ → Frame → Option ℕ
handler_in s thrown f = option_and_then (λ c. option_map (λ r. r.handler) (find (is_handler_for s thrown f) c.table)) (code_of s f.method)

-- the frames from the first one on that catches the object, at its handler, with the object alone on its stack
unfoldable pub frames_at_handler : System → ℕ → ℕ → List Frame → List Frame
frames_at_handler s thrown r [] = []
frames_at_handler s thrown r (f ∷ frames) =
    elim (handler_in s thrown f) [
      | Some h ↦ record (with_values (value.Ref r ∷ []) f) { pc = h } ∷ frames
      | None ↦ frames_at_handler s thrown r frames
    ]

-- what a computed case opens
unfoldable pub opened_state : Unit {0}
unfolding class_of_object shape_of class_of_shape default_of kept_value new_object new_array default_cells new_exception cells_of with_cell static_types_of static_types code_of code_bytes stack_limit class_of_frame pc_behind with_values frame_behind with_running is_overfull locals_with frame_with frame_of slots_of_method frame_limit slot_limit is_overflow is_caught_by is_handler_for handler_in frames_at_handler
opened_state = tt
