-- What an entry of a domain makes of its state.
use Rattle.std.specs.Prelude.{ℕ, ◌+◌, ◌-◌, pos, false, List, [], ◌∷◌, ◌++◌, length, drop, replicate, Option, Some, None, ◌==◌, nat_le, if◌then◌else◌, map, find, slice_get, codes}
use Rattle.jx_base.specs.declared.act.Act.{Act}
use Rattle.jx_base.specs.declared.act.Act.TheVariants as act
use Rattle.jx_base.specs.declared.act.Reply.{Reply}
use Rattle.jx_base.specs.declared.act.Reply.TheVariants as reply
use Rattle.jx_base.specs.declared.act.Refusal.{Refusal}
use Rattle.jx_base.specs.declared.act.Refusal.TheVariants as refusal
use Rattle.jx_base.specs.declared.act.Entry.{Entry}
use Rattle.jx_base.specs.declared.ids.ClassId.{ClassId}
use Rattle.jx_base.specs.declared.ids.MethodId.{MethodId}
use Rattle.jx_base.specs.declared.ids.ServiceId.{ServiceId}
use Rattle.jx_base.specs.declared.class_file.Instr.{Instr}
use Rattle.jx_base.specs.declared.program.System.{System}
use Rattle.jx_base.specs.declared.program.Resolved.{Resolved}
use Rattle.jx_base.specs.declared.program.Resolved.TheVariants as resolved
use Rattle.jx_base.specs.declared.frame.Frame.{Frame}
use Rattle.jx_base.specs.declared.row.Invocation.{Invocation}
use Rattle.jx_base.specs.declared.row.Invocation.TheVariants as invocation
use Rattle.jx_base.specs.declared.row.Row.{Row}
use Rattle.jx_base.specs.declared.row.Row.TheVariants as row
use Rattle.jx_base.specs.declared.value.Parcel.{Parcel}
use Rattle.jx_base.specs.declared.value.Value.{Value}
use Rattle.jx_base.specs.declared.value.Value.TheVariants as value
use Rattle.program_model.specs.Types.{Signature, signature_of, is_void}
use Rattle.program_model.specs.BuiltIn.{throwable_class, copy_exception, ended_exception, dropped_exception, revoked_exception, range_exception, refused_exception}
use Rattle.class_grammar.specs.Opcodes.{row_at}
use Rattle.program_model.specs.Instructions.{instruction_at, index_operand}
use Rattle.class_grammar.specs.Flags.{is_abstract}
use Rattle.program_model.specs.Lookup.{class_named, method_at, selector_at, selector_of_method, selected_method, constant_at, is_built_in}
use Rattle.program_model.specs.ParcelParts.{node_cells}
use Rattle.program_model.specs.Parcels.{unpacked_objects, value_of}
use Rattle.machine_model.specs.State.{Store, Going, Returned, Threw, Bad, Thread, State, class_of_object, new_object, code_bytes, class_of_frame, frame_behind}
use Rattle.machine_model.specs.BuiltInMethods.{BuiltInOutcome, built_in_outcome}
use Rattle.machine_model.specs.BuiltInMethods.{BuiltInOutcome as built_in}
use Rattle.machine_model.specs.ObjectRows.{all_fit, fits_class, with_result}
use Rattle.machine_model.specs.MachineThreads.{thread_at, with_thread, with_store, at_rest, with_less_fuel, idle_thread, with_frames, with_stage, after_throw, after_raise, after_begin}
use Rattle.std.specs.Option.{option_and_then, option_map, unwrap_or}

-- ---- the call that a frame is at

-- what a call takes off the stack, and the type of what it leaves
pub record Site : Type 0 where
  pub takes : ℕ
  pub result : List ℕ

-- what a call of a method takes and leaves
unfoldable pub site_for : Invocation → Signature → Site
site_for invocation.Static x = record { takes = length x.parameters; result = x.result }
site_for kind x = record { takes = 1 + length x.parameters; result = x.result }

-- the call of a resolved method
unfoldable pub site_at : System → Row → Resolved → Option Site
site_at s (row.Invoke kind) (resolved.Method m) = option_map (λ y. site_for kind (signature_of y.descriptor)) (selector_of_method s m)
site_at s r x = None

-- the call that an instruction of class c is
unfoldable pub site_in : System → ℕ → Instr → Option Site
site_in s c i = option_and_then (site_at s (row_at i.opcode)) (constant_at s c (index_operand i 0))

-- the call that a frame is at
unfoldable pub site_of : System → Frame → Option Site
site_of s f = option_and_then (λ r. site_in s (class_of_frame s f) r.instr) (instruction_at (code_bytes s f) f.pc)

-- how many values it takes
unfoldable pub taken_at : System → Frame → ℕ
taken_at s f = unwrap_or (option_map (λ x. x.takes) (site_of s f)) 0

-- the type of its result, none of void
unfoldable pub result_types : System → Frame → List (List ℕ)
result_types s f = elim (site_of s f) [ None ↦ [] | Some x ↦ if is_void x.result then [] else x.result ∷ [] ]

-- ---- results

-- the call of the thread's running frame is done: its arguments go, its result comes, and the frame goes on behind it
unfoldable pub after_result : System → State → ℕ → Thread → Option Value → State
after_result s st t x v = by x.frames
  where
    by : List Frame → State
    by [] = st
    by (f ∷ frames) = with_frames s st t x (frame_behind s (with_result v (drop (taken_at s f) f.stack.values)) f ∷ frames)

-- the two halves of a split as an array, for which there may be no room
unfoldable pub after_split : System → State → ℕ → Thread → List Value → State
after_split s st t x halves =
    elim (new_object st.store (unwrap_or (class_named s (codes "[Ljx/Memory;")) 0) halves) [
      | None ↦ after_throw s st t x 0
      | Some y ↦ after_result s (with_store st y.0) t x (Some (value.Ref y.1))
    ]

-- the class of the exception that tells of a refusal
unfoldable pub exception_of : Refusal → ℕ
exception_of refusal.NotHeld = dropped_exception
exception_of refusal.Revoked = revoked_exception
exception_of refusal.Range = range_exception
exception_of refusal.Unfit = copy_exception
exception_of refusal.Gone = ended_exception
exception_of _ = refused_exception

-- the reply to an act of the running thread is its call's result
unfoldable pub after_reply : System → State → ℕ → Thread → Reply → State
after_reply s st t x (reply.Service service c) = after_result s st t x (Some (value.Portal service c))
after_reply s st t x reply.NoName = after_result s st t x (Some value.Null)
after_reply s st t x (reply.Number n) = after_result s st t x (Some (value.Int n))
after_reply s st t x (reply.Made m g) = after_result s st t x (Some (value.Mem m))
after_reply s st t x (reply.Object m) = after_result s st t x (Some (value.Mem m))
after_reply s st t x (reply.Pair a b) = after_split s st t x (value.Mem a ∷ value.Mem b ∷ [])
after_reply s st t x (reply.Domain d g) = after_result s st t x (Some (value.Int (pos d.0)))
after_reply s st t x (reply.Refused r) = after_raise s st t x (exception_of r)
after_reply s st t x _ = after_result s st t x None

-- ---- parcels

-- the store with a parcel's nodes as new objects, where they have room
unfoldable pub with_nodes : Store → Parcel → Option Store
with_nodes store p =
    if nat_le (node_cells p) store.left
    then Some (record store { objects = store.objects ++ unpacked_objects (length store.objects) p; left = store.left - node_cells p })
    else None

-- a parcel's roots as values, where its nodes are unpacked behind the objects of the store
unfoldable pub root_values : Store → Parcel → List Value
root_values store p = map (value_of (length store.objects)) p.roots

-- ---- a call is taken

-- the object of a service
unfoldable pub service_object : Store → ServiceId → Option ℕ
service_object store service = option_map (λ x. x.object) (find (λ x. x.service.0 == service.0) store.exports)

-- what a built-in method leaves of a thread that runs nothing else
unfoldable pub after_built_in : System → State → ℕ → Thread → BuiltInOutcome → State
after_built_in s st t x (built_in.Gives store v) = with_stage (with_store st store) t x (Returned v)
after_built_in s st t x (built_in.Raises c) = after_raise s st t (record x { frames = [] }) c
after_built_in s st t x built_in.HasNoRoom = with_stage st t x (Threw 0)
after_built_in s st t x _ = with_stage st t x Bad

-- the selected method begins; a built-in one has no frame and costs nothing
unfoldable pub after_selection : System → State → ℕ → Thread → ℕ → List Value → State
after_selection s st t x m arguments = elim (method_at s m) [
  | None ↦ with_stage st t x Bad
  | Some k ↦ if is_abstract k.flags then with_stage st t x Bad
      else if is_built_in k.class.0 then after_built_in s st t x (built_in_outcome s st.store k arguments)
      else after_begin s st t x m arguments
]

-- the method that a call's selector selects at the service's object, with that object
unfoldable pub selected_at : System → Store → ServiceId → MethodId → Option (ℕ × ℕ)
selected_at s store service method =
    option_and_then (λ r. option_and_then (λ c. option_map (λ m. (m, r)) (selected_method s c method.0)) (class_of_object store r)) (service_object store service)

-- the call begins with the roots as arguments
unfoldable pub after_roots : System → State → ℕ → Thread → ServiceId → MethodId → List Value → State
after_roots s st t x service method roots = elim (selected_at s st.store service method) [
  | None ↦ with_stage st t x Bad
  | Some y ↦ after_selection s st t x y.0 (value.Ref y.1 ∷ roots)
]

-- the types of a selector's parameters
unfoldable pub parameters_of : System → MethodId → List (List ℕ)
parameters_of s method = elim (selector_at s method.0) [ None ↦ [] | Some y ↦ (signature_of y.descriptor).parameters ]

-- the state after the take of a call: its nodes have room, its roots fit the parameters, and its method begins
unfoldable pub after_take : System → State → ℕ → Thread → ServiceId → MethodId → Parcel → State
after_take s st t x service method p =
    elim (with_nodes st.store p) [
      | None ↦ with_stage st t x (Threw 0)
      | Some store ↦ let roots : List Value = root_values st.store p in
          if all_fit s false store roots (parameters_of s method)
          then after_roots s (with_store st store) t x service method roots
          else after_raise s (with_store st store) t (record x { frames = [] }) copy_exception
    ]

-- ---- an answer is resumed

-- the types that the roots of a value have to fit
unfoldable pub expected_types : System → Thread → List (List ℕ)
expected_types s x = elim (slice_get x.frames 0) [ None ↦ [] | Some f ↦ result_types s f ]

-- the state after a value: its nodes have room, and its root is the result
unfoldable pub after_value : System → State → ℕ → Thread → Parcel → State
after_value s st t x p =
    elim (with_nodes st.store p) [
      | None ↦ after_throw s st t x 0
      | Some store ↦ let roots : List Value = root_values st.store p in
          if all_fit s false store roots (expected_types s x)
          then after_result s (with_store st store) t x (slice_get roots 0)
          else after_raise s (with_store st store) t x copy_exception
    ]

-- the object of a Throwable class that is the one root
unfoldable pub thrown_root : System → Store → List Value → Option ℕ
thrown_root s store (value.Ref r ∷ []) = if fits_class s store (value.Ref r) throwable_class then Some r else None
thrown_root s store _ = None

-- the state after an exception: its nodes have room, and its root is thrown
unfoldable pub after_thrown : System → State → ℕ → Thread → Parcel → State
after_thrown s st t x p =
    elim (with_nodes st.store p) [
      | None ↦ after_throw s st t x 0
      | Some store ↦ elim (thrown_root s store (root_values st.store p)) [
        | Some r ↦ after_throw s (with_store st store) t x r
        | None ↦ after_raise s (with_store st store) t x copy_exception
      ]
    ]

-- the state after the answer to a thread's call
unfoldable pub after_resume : System → State → ℕ → Thread → Reply → State
after_resume s st t x (reply.Value p) = after_value s st t x p
after_resume s st t x (reply.Thrown p) = after_thrown s st t x p
after_resume s st t x reply.CopyFailed = after_raise s st t x copy_exception
after_resume s st t x _ = after_raise s st t x ended_exception

-- ---- an export

-- the object that the value is
unfoldable pub object_of_value : Value → ℕ
object_of_value (value.Ref r) = r
object_of_value _ = 0

-- the object of an export: the first of the three arguments on the stack
unfoldable pub exported_object : Thread → ℕ
exported_object x = unwrap_or (option_and_then (λ f. option_map object_of_value (slice_get f.stack.values 2)) (slice_get x.frames 0)) 0

-- the state with a service of that object and as many idle threads
unfoldable pub with_export : State → ℕ → ServiceId → ClassId → ℕ → State
with_export st r service iface threads =
    record st {
      store = record st.store { exports = st.store.exports ++ record { object = r; service = service; iface = iface } ∷ [] };
      threads = st.threads ++ replicate threads idle_thread;
    }

-- ---- entries

-- the state in which a thread's code has ended
unfoldable pub after_end : State → ℕ → Thread → State
after_end st t x = at_rest (with_thread st t (record x { call = None; frames = []; stage = Going }))

-- the state in which thread t runs
unfoldable pub with_running_thread : State → ℕ → State
with_running_thread st t = record st { running = Some t }

-- the state after an act of thread t with its reply, where the instructions before it have run
unfoldable pub after_act : System → State → ℕ → Thread → Act → Reply → State
after_act s st t x (act.Take c) (reply.Job service method p) = after_take s (with_running_thread st t) t (record x { call = Some c; stage = Going }) service method p
after_act s st t x (act.Resume c) r = after_resume s (with_running_thread st t) t x r
after_act s st t x (act.Go k) r = with_running_thread st t
after_act s st t x (act.Call service method p) (reply.Queued c) = at_rest (with_less_fuel st)
after_act s st t x (act.Export iface threads) (reply.Service service c) =
    after_reply s (with_export (with_less_fuel st) (exported_object x) service iface threads) t x (reply.Service service c)
after_act s st t x act.Yield r = at_rest (after_result s (with_less_fuel st) t x None)
after_act s st t x (act.Return c p) r = after_end st t x
after_act s st t x (act.Throw c p) r = after_end st t x
after_act s st t x (act.EndThread c) r = after_end st t x
after_act s st t x (act.Exit code) r = after_end st t x
after_act s st t x (act.End why) r = after_end st t x
after_act s st t x a r = after_reply s (with_less_fuel st) t x r

-- the state after an entry, where the instructions before it have run
unfoldable pub after_entry : System → State → Entry → State
after_entry s st e = elim (thread_at st e.thread.0) [ None ↦ st | Some x ↦ after_act s st e.thread.0 x e.act e.reply ]

-- what a computed case opens
unfoldable pub opened_after_entry : Unit {0}
unfolding site_for site_at site_in site_of taken_at result_types after_result after_split exception_of after_reply with_nodes root_values service_object after_built_in after_selection selected_at after_roots parameters_of after_take expected_types after_value thrown_root after_thrown after_resume object_of_value exported_object with_export after_end with_running_thread after_act after_entry
opened_after_entry = tt
