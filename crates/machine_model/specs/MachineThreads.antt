-- Threads of a domain: how they begin, go on and end, and how exceptions are thrown in them.
use Rattle.std.specs.Prelude.{ℕ, ◌-◌, Bool, true, false, ◌&&◌, List, [], ◌∷◌, Option, Some, None, if◌then◌else◌, slice_get, slice_set, codes}
use Rattle.std.specs.Str.{bytes_eq}
use Rattle.jx_base.specs.declared.program.System.{System}
use Rattle.jx_base.specs.declared.program.Selector.{Selector}
use Rattle.jx_base.specs.declared.frame.Frame.{Frame}
use Rattle.jx_base.specs.declared.value.Value.{Value}
use Rattle.jx_base.specs.declared.value.Value.TheVariants as value
use Rattle.jx_base.specs.Basics.{passes}
use Rattle.program_model.specs.BuiltIn.{stack_overflow_error}
use Rattle.program_model.specs.Lookup.{selector_of_method}
use Rattle.machine_model.specs.State.{Store, Core, Stage, Going, Returned, Threw, Bad, Thread, State, class_of_object, new_exception, frame_of, is_overflow, frames_at_handler, is_overfull}
use Rattle.std.specs.Option.{unwrap_or}

-- ---- parts of a state

-- the thread of that number
unfoldable pub thread_at : State → ℕ → Option Thread
thread_at st t = slice_get st.threads t

-- the state with another thread of that number
unfoldable pub with_thread : State → ℕ → Thread → State
with_thread st t x = record st { threads = slice_set st.threads t x }

-- the state with another store
unfoldable pub with_store : State → Store → State
with_store st store = record st { store = store }

-- the state in which no thread runs
unfoldable pub at_rest : State → State
at_rest st = record st { running = None }

-- the state with one instruction less of its fuel
unfoldable pub with_less_fuel : State → State
with_less_fuel st = record st { fuel = st.fuel - 1 }

-- what a thread's object rows work on
unfoldable pub core_of : State → Thread → Core
core_of st x = record { frames = x.frames; store = st.store }

-- a thread that has no frames
unfoldable pub idle_thread : Thread
idle_thread = record { call = None; frames = []; stage = Going; waiting = [] }

-- the state in which the thread has these frames, and bad code where the running one's stack is deeper than it may be
unfoldable pub with_frames : System → State → ℕ → Thread → List Frame → State
with_frames s st t x frames =
    with_thread st t (record x { frames = frames; stage = if is_overfull s frames then Bad else Going })

-- the state in which the thread has no frames and has come to that
unfoldable pub with_stage : State → ℕ → Thread → Stage → State
with_stage st t x stage = with_thread st t (record x { frames = []; stage = stage })

-- ---- throwing

-- the state in which an object is thrown at a thread's frames
unfoldable pub after_throw : System → State → ℕ → Thread → ℕ → State
after_throw s st t x r = caught (frames_at_handler s (unwrap_or (class_of_object st.store r) 0) r x.frames)
  where
    caught : List Frame → State
    caught [] = with_stage st t x (Threw r)
    caught (f ∷ frames) = with_frames s st t x (f ∷ frames)

-- the state in which an exception of that class is made and thrown
unfoldable pub after_raise : System → State → ℕ → Thread → ℕ → State
after_raise s st t x c = thrown (new_exception s st.store c)
  where
    thrown : Store × ℕ → State
    thrown e = after_throw s (with_store st e.0) t x e.1

-- ---- methods

-- the state in which a thread without frames begins a method
unfoldable pub after_begin : System → State → ℕ → Thread → ℕ → List Value → State
after_begin s st t x m arguments =
    elim (is_overflow s m []) [
      | true ↦ after_raise s st t (record x { frames = [] }) stack_overflow_error
      | false ↦ elim (frame_of s m arguments) [
        | None ↦ with_stage st t x Bad
        | Some f ↦ with_frames s st t x (f ∷ [])
      ]
    ]

-- whether a selector is that of static initialisers
unfoldable pub is_initializer_selector : Selector → Bool
is_initializer_selector y = bytes_eq y.name (codes "<clinit>") && bytes_eq y.descriptor (codes "()V")

-- what a method that the start runs is passed: main gets the empty String[] that is object 1
unfoldable pub start_arguments : System → ℕ → List Value
start_arguments s m = if passes is_initializer_selector (selector_of_method s m) then [] else value.Ref 1 ∷ []

-- the state in which a thread goes on with the next method that waits, or has returned
unfoldable pub after_finish : System → State → ℕ → Thread → Option Value → State
after_finish s st t x v = by x.waiting
  where
    by : List ℕ → State
    by [] = with_stage st t x (Returned v)
    by (m ∷ more) = after_begin s st t (record x { waiting = more }) m (start_arguments s m)

-- what a computed case opens
unfoldable pub opened_machine_threads : Unit {0}
unfolding thread_at with_thread with_store at_rest with_less_fuel core_of idle_thread with_frames with_stage after_throw after_raise after_begin is_initializer_selector start_arguments after_finish
opened_machine_threads = tt
