-- Parcels: the walk of a domain's values, the parcel of a walk, and which parcels fit a domain.
use Rattle.std.specs.Prelude.{◌≡◌, ℕ, zero, suc, ◌+◌, ◌-◌, Bool, true, false, ◌&&◌, ◌||◌, List, [], ◌∷◌, ◌++◌, length, take, Option, Some, None, is_some, ◌==◌, nat_lt, nat_le, if◌then◌else◌, map, flat_map, slice_get, codes, IsTrue}
use Rattle.std.specs.List.{list_all, position}
use Rattle.jx_base.specs.declared.ids.ClassId.{ClassId}
use Rattle.jx_base.specs.declared.value.Value.{Value}
use Rattle.jx_base.specs.declared.value.Value.TheVariants as value
use Rattle.jx_base.specs.declared.value.Word.{Word}
use Rattle.jx_base.specs.declared.value.Word.TheVariants as word
use Rattle.jx_base.specs.declared.value.Node.{Node}
use Rattle.jx_base.specs.declared.value.Parcel.{Parcel}
use Rattle.jx_base.specs.declared.states.Exported.{Exported}
use Rattle.jx_base.specs.declared.program.System.{System}
use Rattle.jx_base.specs.Basics.{passes, contains_number, firsts}
use Rattle.program_model.specs.Limits.{node_limit, parcel_limit}
use Rattle.program_model.specs.ParcelParts.{parcel_words}
use Rattle.program_model.specs.Types.{lies_in_type}
use Rattle.program_model.specs.BuiltIn.{built_in_count, memory_class}
use Rattle.program_model.specs.Lookup.{class_at, lists_class, class_of_type, cell_types, Shape, IntShape, LongShape, NullShape, ObjectShape, PortalShape, Unknown, shape_fits}
use Rattle.std.specs.Option.{unwrap_or}

-- ---- the walk

-- an object of a heap: its class, and its fields, elements or units
pub record HeapObject : Type 0 where
  pub class : ClassId
  pub cells : List Value

-- of two exports that with the lesser service
unfoldable pub lesser_export : Exported → Option Exported → Exported
lesser_export x None = x
lesser_export x (Some y) = if nat_le x.service.0 y.service.0 then x else y

-- the export of the object, that of its least service
unfoldable pub export_at : List Exported → ℕ → Option Exported
export_at [] r = None
export_at (x ∷ exports) r =
    let others : Option Exported = export_at exports r in if x.object == r then Some (lesser_export x others) else others

-- the object that a value refers to, where it isn't exported
unfoldable pub reference_of : List Exported → Value → List ℕ
reference_of exports (value.Ref r) = if is_some (export_at exports r) then [] else r ∷ []
reference_of exports _ = []

-- the objects that values refer to, in order, but for exported ones
unfoldable pub references_of : List Exported → List Value → List ℕ
references_of exports values = flat_map (reference_of exports) values

-- the cells of an object
unfoldable pub cells_at : List HeapObject → ℕ → List Value
cells_at objects r = elim (slice_get objects r) [ None ↦ [] | Some o ↦ o.cells ]

-- the objects that these objects refer to
unfoldable pub object_references : List HeapObject → List Exported → List ℕ → List ℕ
object_references objects exports rs = flat_map (λ r. references_of exports (cells_at objects r)) rs

-- the list has the roots and what its members refer to, each once, in order of first mention, and each by an earlier one
pub record IsWalk (objects : List HeapObject) (exports : List Exported) (roots : List ℕ) (walk : List ℕ) : Type 0 where
  pub closed : walk ≡ firsts (roots ++ object_references objects exports walk)
  pub reached : (k r : ℕ) →
      slice_get walk k ≡ Some r → IsTrue (contains_number (roots ++ object_references objects exports (take k walk)) r)

-- so many rounds of the walk: each has what the objects of the round before it refer to
unfoldable pub walk_rounds : List HeapObject → List Exported → List ℕ → ℕ → List ℕ
walk_rounds objects exports roots zero = []
walk_rounds objects exports roots (suc k) = firsts (roots ++ object_references objects exports (walk_rounds objects exports roots k))

-- the walk of these roots: each round but the last finds one object more
unfoldable pub walk_of : List HeapObject → List Exported → List ℕ → List ℕ
walk_of objects exports roots = walk_rounds objects exports roots (length objects + 1)

-- the rounds of a walk end in a walk, and there is no other
pub record IsOnlyWalk (objects : List HeapObject) (exports : List Exported) (roots : List ℕ) : Type 0 where
  pub walk : IsWalk objects exports roots (walk_of objects exports roots)
  pub only : (other : List ℕ) → IsWalk objects exports roots other → other ≡ walk_of objects exports roots

-- the rounds of each walk end in the one walk
abbrev pub WalksEnd : Type 0
WalksEnd = (objects : List HeapObject) (exports : List Exported) (roots : List ℕ) → IsOnlyWalk objects exports roots

-- ---- the parcel

-- a value as a word: a reference is its place in the walk, or the portal of an exported object
unfoldable pub word_of : List Exported → List ℕ → Value → Word
word_of exports walk (value.Int n) = word.Int n
word_of exports walk (value.Long n) = word.Long n
word_of exports walk value.Null = word.Null
word_of exports walk (value.Portal s c) = word.Portal s c
word_of exports walk (value.Mem m) = word.Mem m
word_of exports walk (value.Ref r) =
    elim (export_at exports r) [ Some x ↦ word.Portal x.service x.iface | None ↦ word.Node (unwrap_or (position (λ y. y == r) walk) 0) ]

-- an object as a node
unfoldable pub node_of : List Exported → List ℕ → HeapObject → Node
node_of exports walk o = record { class = o.class; cells = map (word_of exports walk) o.cells }

-- the nodes of these objects
unfoldable pub nodes_of : List HeapObject → List Exported → List ℕ → List ℕ → List Node
nodes_of objects exports walk [] = []
nodes_of objects exports walk (r ∷ rs) =
    elim (slice_get objects r) [
      | None ↦ nodes_of objects exports walk rs
      | Some o ↦ node_of exports walk o ∷ nodes_of objects exports walk rs
    ]

-- the parcel of values: their words, and a node for each object of their walk
unfoldable pub parcel_of : List HeapObject → List Exported → List Value → Parcel
parcel_of objects exports roots =
    let walk : List ℕ = walk_of objects exports (references_of exports roots) in
    record { roots = map (word_of exports walk) roots; nodes = nodes_of objects exports walk walk }

-- whether a parcel is within its limits
unfoldable pub is_small_parcel : Parcel → Bool
is_small_parcel p = nat_le (length p.nodes) node_limit && nat_le (parcel_words p) parcel_limit

-- the parcel of values, where it is within its limits
unfoldable pub packed : List HeapObject → List Exported → List Value → Option Parcel
packed objects exports roots =
    let p : Parcel = parcel_of objects exports roots in
    if is_small_parcel p then Some p else None

-- ---- the way back

-- a word as a value, where the first node is that object of the heap
unfoldable pub value_of : ℕ → Word → Value
value_of first (word.Int n) = value.Int n
value_of first (word.Long n) = value.Long n
value_of first word.Null = value.Null
value_of first (word.Portal s c) = value.Portal s c
value_of first (word.Mem m) = value.Mem m
value_of first (word.Node k) = value.Ref (first + k)

-- a node as an object
unfoldable pub unpacked_object : ℕ → Node → HeapObject
unpacked_object first n = record { class = n.class; cells = map (value_of first) n.cells }

-- the nodes of a parcel as objects, where the first one is that object of the heap
unfoldable pub unpacked_objects : ℕ → Parcel → List HeapObject
unpacked_objects first p = map (unpacked_object first) p.nodes

-- ---- what fits a domain

-- a type without its dimensions
unfoldable pub base_type : List ℕ → List ℕ
base_type [] = []
base_type (u ∷ units) = elim (u == 91) [ true ↦ base_type units | false ↦ u ∷ units ]

-- whether the type is B, C, I, J, S or Z
unfoldable pub is_primitive_type : List ℕ → Bool
is_primitive_type (u ∷ []) = contains_number (codes "BCIJSZ") u
is_primitive_type _ = false

-- whether a class that is no array's is built in or in the template's list
unfoldable pub knows_plain_class : System → ℕ → ℕ → Bool
knows_plain_class s t c = nat_lt c built_in_count || lists_class s t (c - built_in_count)

-- whether the type under the dimensions of an array is primitive, built in or in the template's list
unfoldable pub knows_element : System → ℕ → List ℕ → Bool
knows_element s t type = is_primitive_type type || passes (knows_plain_class s t) (class_of_type s type)

-- whether domains of the template know the class
unfoldable pub knows_class : System → ℕ → ℕ → Bool
knows_class s t c =
    elim (class_at s c) [
      | None ↦ false
      | Some k ↦ elim k.component [ None ↦ knows_plain_class s t c | Some type ↦ knows_element s t (base_type type) ]
    ]

-- what is known of a word: its kind, and the class of what it refers to
unfoldable pub shape_of_word : List Node → Word → Shape
shape_of_word nodes (word.Int n) = IntShape n
shape_of_word nodes (word.Long n) = LongShape
shape_of_word nodes word.Null = NullShape
shape_of_word nodes (word.Portal s c) = PortalShape c.0
shape_of_word nodes (word.Mem m) = ObjectShape memory_class
shape_of_word nodes (word.Node k) = elim (slice_get nodes k) [ None ↦ Unknown | Some n ↦ ObjectShape n.class.0 ]

-- whether an int is in the range of its cell's type
unfoldable pub lies_in_cell : Shape → List ℕ → Bool
lies_in_cell (IntShape n) type = lies_in_type n type
lies_in_cell _ type = true

-- whether a word fits a cell of that type
unfoldable pub cell_fits : System → List Node → Word → List ℕ → Bool
cell_fits s nodes w type = let v : Shape = shape_of_word nodes w in shape_fits s false v type && lies_in_cell v type

-- whether words fit cells of these types, one by one
unfoldable pub cells_fit : System → List Node → List Word → List (List ℕ) → Bool
cells_fit s nodes [] [] = true
cells_fit s nodes (w ∷ ws) (t ∷ ts) = cell_fits s nodes w t && cells_fit s nodes ws ts
cells_fit s nodes _ _ = false

-- whether a node is of a class that the template's domains know, with cells that fit it
unfoldable pub node_fits : System → ℕ → List Node → Node → Bool
node_fits s t nodes n =
    knows_class s t n.class.0
    && passes (λ k. cells_fit s nodes n.cells (cell_types k n.class.0 (length n.cells))) (class_at s n.class.0)

-- whether a domain of the template can have the parcel
unfoldable pub fits_domain : System → ℕ → Parcel → Bool
fits_domain s t p = list_all (node_fits s t p.nodes) p.nodes

-- a domain of the template can have the parcel
abbrev pub FitsDomain : System → ℕ → Parcel → Type 0
FitsDomain s t p = IsTrue (fits_domain s t p)

-- what a computed case opens
unfoldable pub opened_parcels : Unit {0}
unfolding lesser_export export_at reference_of references_of cells_at object_references walk_rounds walk_of word_of node_of nodes_of parcel_of is_small_parcel packed value_of unpacked_object unpacked_objects base_type is_primitive_type knows_plain_class knows_element knows_class shape_of_word lies_in_cell cell_fits cells_fit node_fits fits_domain
opened_parcels = tt
