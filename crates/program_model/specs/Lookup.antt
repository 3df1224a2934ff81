-- Finding classes, methods and constants of a linked system, and which values fit a type.
use Rattle.std.specs.Prelude.{ℕ, zero, suc, ◌/◌, ◌%◌, ℤ, Bool, true, false, ◌&&◌, ◌||◌, not, List, [], ◌∷◌, ◌++◌, length, reverse, drop, Option, Some, None, ◌==◌, nat_lt, if◌then◌else◌, map, filter, flat_map, slice_get, replicate, codes}
use Rattle.std.specs.List.{list_any, position}
use Rattle.std.specs.Str.{bytes_eq}
use Rattle.jx_base.specs.declared.ids.ClassId.{ClassId}
use Rattle.jx_base.specs.declared.program.System.{System}
use Rattle.jx_base.specs.declared.program.Class.{Class}
use Rattle.jx_base.specs.declared.program.Method.{Method}
use Rattle.jx_base.specs.declared.program.Selector.{Selector}
use Rattle.jx_base.specs.declared.program.Resolved.{Resolved}
use Rattle.jx_base.specs.declared.program.Template.{Template}
use Rattle.class_grammar.specs.Flags.{is_static, is_interface_flag}
use Rattle.jx_base.specs.Basics.{first_some, passes, contains_number, is_number}
use Rattle.program_model.specs.Types.{is_long_type, is_int_type, is_reference_type}
use Rattle.program_model.specs.BuiltIn.{string_class, portal_class, built_in_count}
use Rattle.std.specs.Option.{option_and_then}

-- ---- classes

-- the class of that number
unfoldable pub class_at : System → ℕ → Option Class
class_at s c = slice_get s.program.classes c

-- the number of the class of that name
unfoldable pub class_named : System → List ℕ → Option ℕ
class_named s name = position (λ k. bytes_eq k.name name) s.program.classes

-- how many classes there are
unfoldable pub class_count : System → ℕ
class_count s = length s.program.classes

-- whether the class is one of the built-in ones
unfoldable pub is_built_in : ℕ → Bool
is_built_in c = nat_lt c built_in_count

-- whether the class is an interface
unfoldable pub is_interface : System → ℕ → Bool
is_interface s c = passes (λ k. is_interface_flag k.flags) (class_at s c)

-- the number of a class's parent, or none
unfoldable pub parent_list : Option ClassId → List ℕ
parent_list None = []
parent_list (Some p) = p.0 ∷ []

-- the class, its superinterfaces and its supers, as far as so many steps lead
unfoldable pub supers_within : System → ℕ → ℕ → List ℕ
supers_within s zero c = []
supers_within s (suc k) c =
    elim (class_at s c) [
      | None ↦ []
      | Some x ↦ c ∷ flat_map (supers_within s k) (map (λ i. i.0) x.interfaces ++ parent_list x.parent)
    ]

-- the class and all that it extends and implements: behind each class its superinterfaces, then its super
unfoldable pub supers_of : System → ℕ → List ℕ
supers_of s c = supers_within s (class_count s) c

-- the class, its super, and so on, as far as so many steps lead
unfoldable pub chain_within : System → ℕ → ℕ → List ℕ
chain_within s zero c = []
chain_within s (suc k) c = elim (class_at s c) [ None ↦ [] | Some x ↦ c ∷ flat_map (chain_within s k) (parent_list x.parent) ]

-- the class, its super, and so on up to java/lang/Object
unfoldable pub chain_of : System → ℕ → List ℕ
chain_of s c = chain_within s (class_count s) c

-- whether the first class is the second or extends or implements it
unfoldable pub is_below : System → ℕ → ℕ → Bool
is_below s c k = contains_number (supers_of s c) k

-- ---- types and classes

-- the class that a reference type names: of Lname; that name's, and an array's name is its descriptor
unfoldable pub class_name_of_type : List ℕ → List ℕ
class_name_of_type [] = []
class_name_of_type (u ∷ units) = if u == 76 then reverse (drop 1 (reverse units)) else u ∷ units

-- the class of a reference type, where the system has it
unfoldable pub class_of_type : System → List ℕ → Option ℕ
class_of_type s type = if is_reference_type type then class_named s (class_name_of_type type) else None

-- the type of which a class name tells: an array's descriptor is its name
unfoldable pub type_of_name : List ℕ → List ℕ
type_of_name [] = []
type_of_name (u ∷ units) = if u == 91 then u ∷ units else 76 ∷ u ∷ units ++ 59 ∷ []

-- the type of a class
unfoldable pub type_of_class : Class → List ℕ
type_of_class k = type_of_name k.name

-- the types of the cells of an object of class c, of which there are so many
unfoldable pub cell_types : Class → ℕ → ℕ → List (List ℕ)
cell_types k c n =
    elim k.component [
      | Some type ↦ replicate n type
      | None ↦ if c == string_class then replicate n (codes "C") else map (λ f. f.descriptor) k.fields
    ]

-- ---- which values fit

-- an object of class a at that type: an array at an array of what its elements fit, any object at its class and what that extends or implements
unfoldable pub fits_type : System → ℕ → List ℕ → Bool
fits_type s a [] = false
fits_type s a (u ∷ type) = elim (u == 91) [
  | true ↦ elim (option_and_then (λ x. x.component) (class_at s a)) [
    | None ↦ false
    | Some from ↦ bytes_eq from type || passes (λ c. fits_type s c type) (class_of_type s from)
  ]
  | false ↦ passes (is_below s a) (class_of_type s (u ∷ type))
]

-- what of a value decides which types it fits: its kind, and the class of an object or the interface of a portal
pub data Shape : Type 0 where
  IntShape : ℤ → Shape
  LongShape : Shape
  NullShape : Shape
  ObjectShape : ℕ → Shape
  PortalShape : ℕ → Shape
  Unknown : Shape

-- an object or a portal at a type, by the rules that hold everywhere
unfoldable pub object_fits : System → Shape → List ℕ → Bool
object_fits s (ObjectShape a) type = fits_type s a type
object_fits s (PortalShape i) type = fits_type s i type || is_number (class_of_type s type) portal_class
object_fits s _ type = false

-- a value at a declared type. Where it is loose, every object and portal fits every interface besides
unfoldable pub shape_fits : System → Bool → Shape → List ℕ → Bool
shape_fits s loose (IntShape n) type = is_int_type type
shape_fits s loose LongShape type = is_long_type type
shape_fits s loose NullShape type = is_reference_type type
shape_fits s loose Unknown type = false
shape_fits s loose v type = object_fits s v type || (loose && passes (is_interface s) (class_of_type s type))

-- a value at the type of a class, loosely or not
unfoldable pub shape_fits_class : System → Bool → Shape → ℕ → Bool
shape_fits_class s loose v b = passes (λ k. shape_fits s loose v (type_of_class k)) (class_at s b)

-- whether an object of class a fits class b
unfoldable pub class_fits : System → ℕ → ℕ → Bool
class_fits s a b = shape_fits_class s false (ObjectShape a) b

-- ---- methods and constants

-- the method of that place
unfoldable pub method_at : System → ℕ → Option Method
method_at s m = slice_get s.program.methods m

-- the selector of that number
unfoldable pub selector_at : System → ℕ → Option Selector
selector_at s n = slice_get s.program.selectors n

-- the selector of a method
unfoldable pub selector_of_method : System → ℕ → Option Selector
selector_of_method s m = option_and_then (λ x. selector_at s x.selector.0) (method_at s m)

-- what constant i of class c means
unfoldable pub constant_at : System → ℕ → ℕ → Option Resolved
constant_at s c i = option_and_then (λ x. slice_get x.constants i) (class_at s c)

-- equal name and equal descriptor
unfoldable pub same_selector : Selector → Selector → Bool
same_selector x y = bytes_eq x.name y.name && bytes_eq x.descriptor y.descriptor

-- whether it is an instance method of that selector that the class declares
unfoldable pub is_instance_method_of : ℕ → ℕ → Method → Bool
is_instance_method_of selector c m = (m.class.0 == c) && (m.selector.0 == selector) && not (is_static m.flags)

-- the place of the class's own instance method of that selector
unfoldable pub instance_method : System → ℕ → ℕ → Option ℕ
instance_method s selector c = position (is_instance_method_of selector c) s.program.methods

-- the instance method that a call of the selector runs at an object of that class
unfoldable pub selected_method : System → ℕ → ℕ → Option ℕ
selected_method s c selector = first_some (instance_method s selector) (chain_of s c)

-- whether the class declares a method of that selector
unfoldable pub has_own_method : Selector → Class → Bool
has_own_method selector k = list_any (λ m. same_selector selector m.selector) k.methods

-- whether the selector is a method that the class declares, or that an interface above it does
unfoldable pub has_method : System → ℕ → ℕ → Bool
has_method s iface selector =
    list_any (λ c. passes (λ x. passes (has_own_method x) (class_at s c)) (selector_at s selector))
    (filter (λ c. (c == iface) || is_interface s c) (supers_of s iface))

-- ---- templates

-- the template of that place in the plan
unfoldable pub template_at : System → ℕ → Option Template
template_at s t = slice_get s.plan.templates t

-- whether the class of a plan's place is in the template's list
unfoldable pub lists_class : System → ℕ → ℕ → Bool
lists_class s t place = passes (λ x. contains_number x.classes place) (template_at s t)

-- what a computed case opens
unfoldable pub opened_lookup : Unit {0}
unfolding class_at class_named class_count is_built_in is_interface parent_list supers_within supers_of chain_within chain_of is_below class_name_of_type class_of_type type_of_name type_of_class cell_types fits_type object_fits shape_fits shape_fits_class class_fits method_at selector_at selector_of_method constant_at same_selector is_instance_method_of instance_method selected_method has_own_method has_method template_at lists_class
opened_lookup = tt
