-- The state in which a domain starts.
use Rattle.std.specs.Prelude.{ℕ, ◌+◌, ◌-◌, Bool, ◌&&◌, not, List, [], ◌∷◌, ◌++◌, length, reverse, Some, None, is_some, ◌==◌, map, filter, flat_map, codes}
use Rattle.std.specs.List.{range_with_len}
use Rattle.std.specs.Str.{bytes_eq}
use Rattle.jx_base.specs.declared.program.System.{System}
use Rattle.jx_base.specs.declared.program.Method.{Method}
use Rattle.jx_base.specs.declared.program.Selector.{Selector}
use Rattle.jx_base.specs.declared.program.Template.{Template}
use Rattle.jx_base.specs.declared.value.Value.{Value}
use Rattle.jx_base.specs.declared.value.Value.TheVariants as value
use Rattle.jx_base.specs.Basics.{passes, firsts}
use Rattle.program_model.specs.BuiltIn.{built_in_count, out_of_memory_error}
use Rattle.class_grammar.specs.Flags.{is_static}
use Rattle.program_model.specs.Lookup.{is_built_in, class_named, chain_of, method_at, selector_of_method}
use Rattle.program_model.specs.Parcels.{HeapObject}
use Rattle.machine_model.specs.State.{Store, State, default_of, static_types}
use Rattle.machine_model.specs.MachineThreads.{idle_thread, is_initializer_selector, after_finish}
use Rattle.std.specs.Option.{unwrap_or}

-- ---- the methods that thread 0 runs

-- the places of all methods
unfoldable pub method_places : System → List ℕ
method_places s = range_with_len 0 (length s.program.methods)

-- whether it is a static method with code that class c declares
unfoldable pub is_static_method_of : ℕ → Method → Bool
is_static_method_of c m = (m.class.0 == c) && is_static m.flags && is_some m.code

-- the class's static methods with code whose selector passes
unfoldable pub static_methods : System → (Selector → Bool) → ℕ → List ℕ
static_methods s test c =
    filter (λ m. passes (is_static_method_of c) (method_at s m) && passes test (selector_of_method s m)) (method_places s)

-- the classes of these places of the plan, each one's supers first, each class once
unfoldable pub started_classes : System → List ℕ → List ℕ
started_classes s places =
    firsts (flat_map (λ place. reverse (filter (λ c. not (is_built_in c)) (chain_of s (built_in_count + place)))) places)

-- the static initialisers of a template's classes
unfoldable pub initializers : System → Template → List ℕ
initializers s t = flat_map (static_methods s is_initializer_selector) (started_classes s t.classes)

-- whether a selector is that of main methods
unfoldable pub is_main_selector : Selector → Bool
is_main_selector y = bytes_eq y.name (codes "main") && bytes_eq y.descriptor (codes "([Ljava/lang/String;)V")

-- the main method of a template
unfoldable pub mains : System → Template → List ℕ
mains s t = static_methods s is_main_selector (built_in_count + t.main)

-- ---- the start

-- an object of a class
unfoldable pub object_of : ℕ → List Value → HeapObject
object_of c cells = record { class = record { 0 = c }; cells = cells }

-- the object that is thrown for want of room, and the empty String[] that main is passed
unfoldable pub first_objects : System → List HeapObject
first_objects s =
    object_of out_of_memory_error (value.Null ∷ []) ∷ object_of (unwrap_or (class_named s (codes "[Ljava/lang/String;")) 0) [] ∷ []

-- the first store: its objects take five cells, and each static field has its default
unfoldable pub first_store : System → Template → Store
first_store s t =
    record {
      objects = first_objects s;
      left = t.heap - 5;
      statics = map default_of (static_types s);
      literals = [];
      exports = [];
    }

-- the state in which thread 0 runs and has begun its first method
unfoldable pub start_of : System → Template → State
start_of s t = after_finish s first 0 (record idle_thread { waiting = initializers s t ++ mains s t }) None
  where
    first : State
    first = record { fuel = t.fuel; store = first_store s t; threads = idle_thread ∷ []; running = Some 0 }

-- what a computed case opens
unfoldable pub opened_start : Unit {0}
unfolding method_places is_static_method_of static_methods started_classes initializers is_main_selector mains object_of first_objects first_store start_of
opened_start = tt
