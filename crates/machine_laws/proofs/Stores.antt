-- What a store holds, as it grows and as its objects change.
use Rattle.std.proofs.Common.{◌≡◌, refl, sym, ◌∙◌, ap, subst, ℕ, zero, suc, ◌+◌, ◌-◌, ◌≤◌, pos, Bool, true, false, List, [], ◌∷◌, ◌++◌, length, map, replicate, Option, Some, None, is_some, arith, slice_get}
use Rattle.std.specs.Prelude.{slice_set, nat_le, if◌then◌else◌, IfSome, IfNone}
use Rattle.std.specs.List.{AllByRecursion}
use Rattle.std.proofs.lemmas.Bool.Decides.{nat_tests}
use Rattle.jx_base.specs.declared.frame.Frame.{Frame}
use Rattle.jx_base.specs.declared.states.Exported.{Exported}
use Rattle.jx_base.specs.declared.program.Class.{Class}
use Rattle.jx_base.specs.declared.program.Field.{Field}
use Rattle.jx_base.specs.declared.program.System.{System}
use Rattle.jx_base.specs.declared.value.Value.{Value}
use Rattle.jx_base.specs.declared.value.Value.TheVariants as value
use Rattle.program_model.specs.BuiltIn.{string_class, builder_class, opened_built_in}
use Rattle.jx_base.specs.Histories.{Past}
use Rattle.program_model.specs.Lookup.{class_at}
use Rattle.jx_model.specs.Moments.{HasGrown}
use Rattle.program_model.specs.Parcels.{HeapObject}
use Rattle.machine_model.specs.State.{Store, Stage, Going, Returned, Threw, Bad, Thread, State, class_of_object, default_of, new_object, new_array, default_cells, new_exception, cells_of, with_cell}
use Rattle.program_model.specs.Types.{is_int_type, is_long_type}
use Rattle.jx_model.specs.WellMade.{IsClass}
use Rattle.jx_model.proofs.Growing.{portal_grows}
use Rattle.machine_laws.specs.Values.{IsValueIn, IsValueInSome, IsUnitValue, IsObject, HasCountOf, IsObjectIn, IsExportIn, IsStoreIn, IsFrameIn, IsStageIn, IsThreadIn, IsStateIn, HasObjectsOf, Grows, cell_limit}
use Rattle.machine_model.specs.Conditions.{IsTextIfObject}
use Rattle.machine_laws.specs.Sound.{IsSound}
use Rattle.machine_laws.proofs.Lists.{length_set, mapped_length, all_weaken, all_append, all_get, all_set, all_images}
use Rattle.std.specs.Option.{option_map}

-- ---- growth

some_of : {X : Type 0} (o : Option X) → is_some o ≡ true → (x : X) × (o ≡ Some x)
some_of None h = cc
some_of (Some x) h = (x, refl)

pub object_there : (before after : Store) (r : ℕ) → HasObjectsOf before after → IsObject before r → IsObject after r
object_there before after r g h = let x = some_of (class_of_object before r) h in ap is_some (g r x.0 x.1)

module _ (s : System) (p : Past) (before : Store) (q : Past) (after : Store) (g : Grows p before q after) where
  pub value_grows : (v : Value) → IsValueIn p before v → IsValueIn q after v
  value_grows (value.Int n) h = h
  value_grows (value.Long n) h = h
  value_grows value.Null h = tt
  value_grows (value.Ref r) h = object_there before after r g.objects h
  value_grows (value.Portal k c) h = portal_grows p q k.0 c g.past h
  value_grows (value.Mem m) h = h

  pub some_grows : (o : Option Value) → IsValueInSome p before o → IsValueInSome q after o
  some_grows None h = tt
  some_grows (Some v) h = value_grows v h

  pub values_grow : (vs : List Value) → AllByRecursion (IsValueIn p before) vs → AllByRecursion (IsValueIn q after) vs
  values_grow vs h = all_weaken (IsValueIn p before) (IsValueIn q after) value_grows vs h

  text_grows : (v : Value) → IsTextIfObject before v → IsTextIfObject after v
  text_grows (value.Ref r) h = g.objects r string_class h
  text_grows (value.Int n) h = tt
  text_grows (value.Long n) h = tt
  text_grows value.Null h = tt
  text_grows (value.Portal k c) h = tt
  text_grows (value.Mem m) h = tt

  pub object_grows : (o : HeapObject) → IsObjectIn s p before o → IsObjectIn s q after o
  object_grows o h = record {
    known = h.known;
    count = h.count;
    small = h.small;
    cells = values_grow o.cells h.cells;
    units = h.units;
    text = λ e. all_weaken (IsTextIfObject before) (IsTextIfObject after) text_grows o.cells (h.text e);
  }

  pub export_grows : (x : Exported) → IsExportIn p before x → IsExportIn q after x
  export_grows x h = record { object = object_there before after x.object g.objects h.object; known = portal_grows p q x.service.0 x.iface g.past h.known }

  pub frame_grows : (f : Frame) → IsFrameIn s p before f → IsFrameIn s q after f
  frame_grows f h = record { method = h.method; place = h.place; count = h.count; room = h.room; locals = all_weaken (IsValueInSome p before) (IsValueInSome q after) some_grows f.locals h.locals; stack = values_grow f.stack.values h.stack }

  pub frames_grow : (fs : List Frame) → AllByRecursion (IsFrameIn s p before) fs → AllByRecursion (IsFrameIn s q after) fs
  frames_grow fs h = all_weaken (IsFrameIn s p before) (IsFrameIn s q after) frame_grows fs h

  stage_grows : (x : Stage) → IsStageIn p before x → IsStageIn q after x
  stage_grows (Returned v) h = some_grows v h
  stage_grows (Threw r) h = object_there before after r g.objects h
  stage_grows Going h = tt
  stage_grows Bad h = tt

  pub thread_grows : (x : Thread) → IsThreadIn s p before x → IsThreadIn s q after x
  thread_grows x h = record { frames = frames_grow x.frames h.frames; stage = stage_grows x.stage h.stage }

  pub threads_grow : (xs : List Thread) → AllByRecursion (IsThreadIn s p before) xs → AllByRecursion (IsThreadIn s q after) xs
  threads_grow xs h = all_weaken (IsThreadIn s p before) (IsThreadIn s q after) thread_grows xs h

  -- what a store keeps as its objects stay and others come: all but the objects
  pub literals_grow : (xs : List (List ℕ × ℕ)) → AllByRecursion (λ x. IsObject before x.1) xs → AllByRecursion (λ x. IsObject after x.1) xs
  literals_grow xs h = all_weaken (λ x. IsObject before x.1) (λ x. IsObject after x.1) (λ x i. object_there before after x.1 g.objects i) xs h

-- the same store, of a longer past
pub same_grows : (past : Past) (store : Store) → Grows past store past store
same_grows past store = record { past = ([], refl); objects = λ r c h. h }

-- a store with these objects
pub grows_to : (past : Past) (before after : Store) → HasObjectsOf before after → Grows past before past after
grows_to past before after h = record { past = ([], refl); objects = h }

-- a longer past
pub past_grows : (p q : Past) (store : Store) → HasGrown p q → Grows p store q store
past_grows p q store h = record { past = h; objects = λ r c i. i }

pub store_of_past : (s : System) (p q : Past) (store : Store) → HasGrown p q → IsStoreIn s p store → IsStoreIn s q store
store_of_past s p q store g h = let k = past_grows p q store g in record {
  first = h.first;
  second = h.second;
  room = h.room;
  count = h.count;
  objects = all_weaken (IsObjectIn s p store) (IsObjectIn s q store) (object_grows s p store q store k) store.objects h.objects;
  statics = values_grow s p store q store k store.statics h.statics;
  literals = h.literals;
  exports = all_weaken (IsExportIn p store) (IsExportIn q store) (export_grows s p store q store k) store.exports h.exports;
}

-- a state of a past is one of a longer past
pub state_of_past : (s : System) (p q : Past) (st : State) → HasGrown p q → IsStateIn s p st → IsStateIn s q st
state_of_past s p q st g h = record {
  store = store_of_past s p q st.store g h.store;
  threads = threads_grow s p st.store q st.store (past_grows p q st.store g) st.threads h.threads;
}

-- ---- a new object

get_left : (xs ys : List HeapObject) (i : ℕ) (o : HeapObject) → slice_get xs i ≡ Some o → slice_get (xs ++ ys) i ≡ Some o
get_left [] ys i o h = cc
get_left (x ∷ xs) ys zero o h = h
get_left (x ∷ xs) ys (suc i) o h = get_left xs ys i o h

get_last : (xs : List HeapObject) (o : HeapObject) → slice_get (xs ++ o ∷ []) (length xs) ≡ Some o
get_last [] o = refl
get_last (x ∷ xs) o = get_last xs o

-- the class of an object, among objects
abbrev class_in : List HeapObject → ℕ → Option ℕ
class_in os r = option_map (λ (o : HeapObject). o.class.0) (slice_get os r)

class_in_left : (xs ys : List HeapObject) (r c : ℕ) → class_in xs r ≡ Some c → class_in (xs ++ ys) r ≡ Some c
class_in_left xs ys r c h = by (slice_get xs r) refl h
  where
    by : (o : Option HeapObject) → slice_get xs r ≡ o → option_map (λ (o : HeapObject). o.class.0) o ≡ Some c → class_in (xs ++ ys) r ≡ Some c
    by None e h = cc
    by (Some x) e h = ap (option_map (λ (o : HeapObject). o.class.0)) (get_left xs ys r x e) ∙ h

-- a store has what another has, where its objects begin with the other's
pub begins_with : (before after : Store) (more : List HeapObject) → after.objects ≡ before.objects ++ more → HasObjectsOf before after
unfolding class_of_object
begins_with before after more e r c h = ap (λ (os : List HeapObject). class_in os r) e ∙ class_in_left before.objects more r c h

-- a store with an object of that class more
pub record IsMade (s : System) (past : Past) (before : Store) (c : ℕ) (x : Store × ℕ) : Type 0 where
  pub grown : HasObjectsOf before x.0
  pub store : IsStoreIn s past x.0
  pub object : class_of_object x.0 x.1 ≡ Some c

-- the cells of a new object of that class
pub record AreCellsOf (s : System) (past : Past) (store : Store) (c : ℕ) (cells : List Value) : Type 0 where
  pub count : HasCountOf s c (length cells)
  pub values : AllByRecursion (IsValueIn past store) cells
  pub units : c ≡ string_class → AllByRecursion IsUnitValue cells
  pub text : c ≡ builder_class → AllByRecursion (IsTextIfObject store) cells

-- the store with one object more
abbrev pub store_with : Store → ℕ → List Value → Store
store_with store c cells = record store {
  objects = store.objects ++ record { class = record { 0 = c }; cells = cells } ∷ [];
  left = store.left - (length cells + 2);
}

new_class : (store : Store) (c : ℕ) (cells : List Value) → class_of_object (store_with store c cells) (length store.objects) ≡ Some c
unfolding class_of_object
new_class store c cells = ap (option_map (λ (o : HeapObject). o.class.0)) (get_last store.objects (record { class = record { 0 = c }; cells = cells }))

store_with_in : (s : System) (past : Past) (store : Store) (c : ℕ) (cells : List Value) → IsStoreIn s past store → IsClass s c → AreCellsOf s past store c cells → length cells + 2 ≤ store.left →
    IsMade s past store c (store_with store c cells, length store.objects)
store_with_in s past store c cells h k d room = record {
  grown = more;
  store = record {
    first = object_there store after 0 more h.first;
    second = object_there store after 1 more h.second;
    room = omega (arith, h.room);
    count = h.count;
    objects = all_append (IsObjectIn s past after) store.objects (object ∷ [])
        (all_weaken (IsObjectIn s past store) (IsObjectIn s past after) (object_grows s past store past after g) store.objects h.objects)
        (new, tt);
    statics = values_grow s past store past after g store.statics h.statics;
    literals = literals_grow s past store past after g store.literals h.literals;
    exports = all_weaken (IsExportIn past store) (IsExportIn past after) (export_grows s past store past after g) store.exports h.exports;
  };
  object = new_class store c cells;
}
  where
    object : HeapObject
    object = record { class = record { 0 = c }; cells = cells }

    after : Store
    after = store_with store c cells

    more : HasObjectsOf store after
    more = begins_with store after (object ∷ []) refl

    g : Grows past store past after
    g = grows_to past store after more

    old : IsObjectIn s past store object
    old = record { known = k; count = d.count; small = omega (arith, h.room, room); cells = d.values; units = d.units; text = d.text }

    new : IsObjectIn s past after object
    new = object_grows s past store past after g object old

pub new_object_in : (s : System) (past : Past) (store : Store) (c : ℕ) (cells : List Value) (x : Store × ℕ) → IsStoreIn s past store → IsClass s c → AreCellsOf s past store c cells →
    new_object store c cells ≡ Some x → IsMade s past store c x
unfolding new_object
new_object_in s past store c cells x h k d e = by (nat_le (length cells + 2) store.left) refl e
  where
    by : (b : Bool) → nat_le (length cells + 2) store.left ≡ b → (if b then Some (store_with store c cells, length store.objects) else None) ≡ Some x → IsMade s past store c x
    by true q e =
        let z : (store_with store c cells, length store.objects) ≡ x = cc in
        subst (IsMade s past store c) z (store_with_in s past store c cells h k d (grind (arith, nat_tests, q)))
    by false q e = cc

-- an array of a filling
pub new_array_in : (s : System) (past : Past) (store : Store) (c n : ℕ) (v : Value) (x : Store × ℕ) → IsStoreIn s past store → IsClass s c → AreCellsOf s past store c (replicate n v) →
    new_array store c n v ≡ Some x → IsMade s past store c x
unfolding new_array
new_array_in s past store c n v x h k d e = by (nat_le (n + 2) store.left) e
  where
    by : (b : Bool) → (elim b as (λ _. Option (Store × ℕ)) [ true ↦ new_object store c (replicate n v) | false ↦ None ]) ≡ Some x → IsMade s past store c x
    by true e = new_object_in s past store c (replicate n v) x h k d e
    by false e = cc

-- ---- defaults

pub default_in : (past : Past) (store : Store) (type : List ℕ) → IsValueIn past store (default_of type)
unfolding default_of
default_in past store type = by (is_int_type type) (is_long_type type)
  where
    by : (p q : Bool) → IsValueIn past store (if p then value.Int (pos 0) else if q then value.Long (pos 0) else value.Null)
    by true q = record { sfits = omega arith }
    by false true = record { sfits = omega arith }
    by false false = tt

pub default_text : (store : Store) (type : List ℕ) → IsTextIfObject store (default_of type)
unfolding default_of
default_text store type = by (is_int_type type) (is_long_type type)
  where
    by : (p q : Bool) → IsTextIfObject store (if p then value.Int (pos 0) else if q then value.Long (pos 0) else value.Null)
    by true q = tt
    by false true = tt
    by false false = tt

string_defaults : (s : System) → IsSound s → default_cells s string_class ≡ []
unfolding default_cells opened_built_in
string_defaults s z = rw (z.built_in 1 (omega arith), default_cells) refl

defaults_of : System → ℕ → Option Class → List Value
defaults_of s c o = elim o as (λ _. List Value) [ None ↦ [] | Some k ↦ map (λ (f : Field). default_of f.descriptor) k.fields ]

defaults_values : (s : System) (c : ℕ) (past : Past) (store : Store) (o : Option Class) → AllByRecursion (IsValueIn past store) (defaults_of s c o)
unfolding defaults_of
defaults_values s c past store None = tt
defaults_values s c past store (Some k) = all_images (IsValueIn past store) (λ (f : Field). default_of f.descriptor) (λ f. default_in past store f.descriptor) k.fields

defaults_texts : (s : System) (c : ℕ) (store : Store) (o : Option Class) → AllByRecursion (IsTextIfObject store) (defaults_of s c o)
unfolding defaults_of
defaults_texts s c store None = tt
defaults_texts s c store (Some k) = all_images (IsTextIfObject store) (λ (f : Field). default_of f.descriptor) (λ f. default_text store f.descriptor) k.fields

defaults_count : (s : System) (c : ℕ) (o : Option Class) → IfSome o (λ k. IfNone k.component (length (defaults_of s c o) ≡ length k.fields))
unfolding defaults_of
defaults_count s c None = tt
defaults_count s c (Some k) = by k.component
  where
    by : (o : Option (List ℕ)) → IfNone o (length (map (λ (f : Field). default_of f.descriptor) k.fields) ≡ length k.fields)
    by None = mapped_length (λ (f : Field). default_of f.descriptor) k.fields
    by (Some type) = tt

-- the cells of a new object have their defaults
pub default_cells_in : (s : System) (past : Past) (store : Store) (c : ℕ) → IsSound s → AreCellsOf s past store c (default_cells s c)
unfolding default_cells defaults_of
default_cells_in s past store c z = record {
  count = λ e. defaults_count s c (class_at s c);
  values = defaults_values s c past store (class_at s c);
  units = λ e. subst (λ (k : ℕ). AllByRecursion IsUnitValue (default_cells s k)) (sym e) (subst (AllByRecursion IsUnitValue) (sym (string_defaults s z)) tt);
  text = λ e. defaults_texts s c store (class_at s c);
}

-- ---- another store, with what the first had

-- the store is one of the past, with all objects of the one before
pub record IsLater (s : System) (past : Past) (before after : Store) : Type 0 where
  pub grown : HasObjectsOf before after
  pub store : IsStoreIn s past after

pub later_itself : (s : System) (past : Past) (store : Store) → IsStoreIn s past store → IsLater s past store store
later_itself s past store h = record { grown = λ r c i. i; store = h }

pub later_on : (s : System) (past : Past) (a b c : Store) → IsLater s past a b → IsLater s past b c → IsLater s past a c
later_on s past a b c h k = record { grown = λ r n i. k.grown r n (h.grown r n i); store = k.store }

-- an exception that the machine makes is an object
pub record IsThrown (s : System) (past : Past) (before : Store) (x : Store × ℕ) : Type 0 where
  pub later : IsLater s past before x.0
  pub object : IsObject x.0 x.1

pub exception_in : (s : System) (past : Past) (store : Store) (c : ℕ) → IsSound s → IsStoreIn s past store → IsClass s c → IsThrown s past store (new_exception s store c)
unfolding new_exception
exception_in s past store c z h k = by (new_object store c (default_cells s c)) refl
  where
    by : (o : Option (Store × ℕ)) → new_object store c (default_cells s c) ≡ o → IsThrown s past store (elim o as (λ _. Store × ℕ) [ Some x ↦ x | None ↦ (store, 0) ])
    by None e = record { later = later_itself s past store h; object = h.first }
    by (Some x) e = let m = new_object_in s past store c (default_cells s c) x h k (default_cells_in s past store c z) e in
        record { later = record { grown = m.grown; store = m.store }; object = ap is_some m.object }

-- ---- another value in a cell

class_in_set : (os : List HeapObject) (r k : ℕ) (o y : HeapObject) → slice_get os r ≡ Some o → y.class.0 ≡ o.class.0 → class_in (slice_set os r y) k ≡ class_in os k
class_in_set [] r k o y h e = refl
class_in_set (x ∷ os) zero zero o y h e = let q : x ≡ o = cc in ap (λ (c : ℕ). Some c) (e ∙ ap (λ (o : HeapObject). o.class.0) (sym q))
class_in_set (x ∷ os) zero (suc k) o y h e = refl
class_in_set (x ∷ os) (suc r) zero o y h e = refl
class_in_set (x ∷ os) (suc r) (suc k) o y h e = class_in_set os r k o y h e

-- the value may stand in a cell of that object
pub record MayStand (past : Past) (store : Store) (r : ℕ) (v : Value) : Type 0 where
  pub value : IsValueIn past store v
  pub unit : class_of_object store r ≡ Some string_class → IsUnitValue v
  pub text : class_of_object store r ≡ Some builder_class → IsTextIfObject store v

-- the store with another object in that place
abbrev pub store_set : Store → ℕ → HeapObject → Store
store_set store r o = record store { objects = slice_set store.objects r o }

pub with_cell_in : (s : System) (past : Past) (store : Store) (r i : ℕ) (v : Value) → IsStoreIn s past store → MayStand past store r v → IsLater s past store (with_cell store r i v)
unfolding with_cell class_of_object
with_cell_in s past store r i v h m = by (slice_get store.objects r) refl
  where
    changed : (o : HeapObject) → slice_get store.objects r ≡ Some o → IsLater s past store (store_set store r (record o { cells = slice_set o.cells i v }))
    changed o e = record {
      grown = more;
      store = record {
        first = object_there store after 0 more h.first;
        second = object_there store after 1 more h.second;
        room = h.room;
        count = h.count;
        objects = all_set (IsObjectIn s past after) store.objects r new object
            (all_weaken (IsObjectIn s past store) (IsObjectIn s past after) (object_grows s past store past after g) store.objects h.objects);
        statics = values_grow s past store past after g store.statics h.statics;
        literals = literals_grow s past store past after g store.literals h.literals;
        exports = all_weaken (IsExportIn past store) (IsExportIn past after) (export_grows s past store past after g) store.exports h.exports;
      };
    }
      where
        new : HeapObject
        new = record o { cells = slice_set o.cells i v }

        after : Store
        after = store_set store r new

        more : HasObjectsOf store after
        more k c q = class_in_set store.objects r k o new e refl ∙ q

        g : Grows past store past after
        g = grows_to past store after more

        old : IsObjectIn s past store o
        old = all_get (IsObjectIn s past store) store.objects r o e h.objects

        of : class_in store.objects r ≡ Some o.class.0
        of = ap (option_map (λ (o : HeapObject). o.class.0)) e

        object : IsObjectIn s past after new
        object = object_grows s past store past after g new (record {
          known = old.known;
          count = subst (HasCountOf s o.class.0) (sym (length_set o.cells i v)) old.count;
          small = omega (arith, old.small, length_set o.cells i v);
          cells = all_set (IsValueIn past store) o.cells i v m.value old.cells;
          units = λ q. all_set IsUnitValue o.cells i v (m.unit (of ∙ ap (λ (c : ℕ). Some c) q)) (old.units q);
          text = λ q. all_set (IsTextIfObject store) o.cells i v (m.text (of ∙ ap (λ (c : ℕ). Some c) q)) (old.text q);
        })

    by : (o : Option HeapObject) → slice_get store.objects r ≡ o →
        IsLater s past store (elim o as (λ _. Store) [ None ↦ store | Some o ↦ store_set store r (record o { cells = slice_set o.cells i v }) ])
    by None e = later_itself s past store h
    by (Some o) e = changed o e

-- the cells of an object are values
pub cells_in : (s : System) (past : Past) (store : Store) (r : ℕ) → IsStoreIn s past store → AllByRecursion (IsValueIn past store) (cells_of store r)
unfolding cells_of
cells_in s past store r h = by (slice_get store.objects r) refl
  where
    by : (o : Option HeapObject) → slice_get store.objects r ≡ o → AllByRecursion (IsValueIn past store) (elim o as (λ _. List Value) [ None ↦ [] | Some o ↦ o.cells ])
    by None e = tt
    by (Some o) e = (all_get (IsObjectIn s past store) store.objects r o e h.objects).cells

pub cells_small : (s : System) (past : Past) (store : Store) (r : ℕ) → IsStoreIn s past store → length (cells_of store r) ≤ cell_limit
unfolding cells_of
cells_small s past store r h = by (slice_get store.objects r) refl
  where
    by : (o : Option HeapObject) → slice_get store.objects r ≡ o → length (elim o as (λ _. List Value) [ None ↦ [] | Some o ↦ o.cells ]) ≤ cell_limit
    by None e = omega arith
    by (Some o) e = (all_get (IsObjectIn s past store) store.objects r o e h.objects).small

-- a String's cells are units, and what a StringBuilder refers to is a String
pub cells_units : (s : System) (past : Past) (store : Store) (r : ℕ) → IsStoreIn s past store → class_of_object store r ≡ Some string_class → AllByRecursion IsUnitValue (cells_of store r)
unfolding cells_of class_of_object
cells_units s past store r h c = by (slice_get store.objects r) refl c
  where
    by : (o : Option HeapObject) → slice_get store.objects r ≡ o → option_map (λ (o : HeapObject). o.class.0) o ≡ Some string_class → AllByRecursion IsUnitValue (elim o as (λ _. List Value) [ None ↦ [] | Some o ↦ o.cells ])
    by None e q = tt
    by (Some o) e q = (all_get (IsObjectIn s past store) store.objects r o e h.objects).units (let z : o.class.0 ≡ string_class = cc in z)

pub cells_text : (s : System) (past : Past) (store : Store) (r : ℕ) → IsStoreIn s past store → class_of_object store r ≡ Some builder_class → AllByRecursion (IsTextIfObject store) (cells_of store r)
unfolding cells_of class_of_object
cells_text s past store r h c = by (slice_get store.objects r) refl c
  where
    by : (o : Option HeapObject) → slice_get store.objects r ≡ o → option_map (λ (o : HeapObject). o.class.0) o ≡ Some builder_class → AllByRecursion (IsTextIfObject store) (elim o as (λ _. List Value) [ None ↦ [] | Some o ↦ o.cells ])
    by None e q = tt
    by (Some o) e q = (all_get (IsObjectIn s past store) store.objects r o e h.objects).text (let z : o.class.0 ≡ builder_class = cc in z)

-- the class of an object is a class of the system
pub object_class_in : (s : System) (past : Past) (store : Store) (r c : ℕ) → IsStoreIn s past store → class_of_object store r ≡ Some c → IsClass s c
unfolding class_of_object
object_class_in s past store r c h e = by (slice_get store.objects r) refl e
  where
    by : (o : Option HeapObject) → slice_get store.objects r ≡ o → option_map (λ (o : HeapObject). o.class.0) o ≡ Some c → IsClass s c
    by None q e = cc
    by (Some o) q e = let z : o.class.0 ≡ c = cc in subst (IsClass s) z (all_get (IsObjectIn s past store) store.objects r o q h.objects).known

-- another store with the same objects
pub with_same_objects : (s : System) (past : Past) (before after : Store) → after.objects ≡ before.objects → IsStoreIn s past before → after.left ≤ cell_limit → length after.statics ≡ length before.statics → AllByRecursion (IsValueIn past before) after.statics →
    AllByRecursion (λ (x : List ℕ × ℕ). IsObject before x.1) after.literals → AllByRecursion (IsExportIn past before) after.exports → IsLater s past before after
unfolding class_of_object
with_same_objects s past before after e h room count statics literals exports = record {
  grown = more;
  store = record {
    first = object_there before after 0 more h.first;
    second = object_there before after 1 more h.second;
    room = room;
    count = count ∙ h.count;
    objects = subst (AllByRecursion (IsObjectIn s past after)) (sym e) (all_weaken (IsObjectIn s past before) (IsObjectIn s past after) (object_grows s past before past after g) before.objects h.objects);
    statics = values_grow s past before past after g after.statics statics;
    literals = literals_grow s past before past after g after.literals literals;
    exports = all_weaken (IsExportIn past before) (IsExportIn past after) (export_grows s past before past after g) after.exports exports;
  };
}
  where
    more : HasObjectsOf before after
    more r c i = ap (λ (os : List HeapObject). class_in os r) e ∙ i

    g : Grows past before past after
    g = grows_to past before after more
