-- The first fault of linking, and which system is linked.
use Rattle.std.specs.Prelude.{◌≡◌, ℕ, zero, suc, Bool, true, false, ◌&&◌, ◌||◌, not, List, [], ◌∷◌, ◌++◌, length, map, flat_map, Option, Some, None, is_some, ◌==◌, nat_lt, if◌then◌else◌, slice_get, codes}
use Rattle.std.specs.List.{AllByRecursion, list_any, filter_map, find}
use Rattle.std.specs.Str.{bytes_eq}
use Rattle.std.specs.Fmt.{decimal}
use Rattle.class_grammar.specs.ReadFiles.{IsReadFile}
use Rattle.jx_base.specs.declared.class_file.ClassFile.{ClassFile}
use Rattle.jx_base.specs.declared.class_file.Constant.{Constant}
use Rattle.jx_base.specs.declared.class_file.Constant.TheVariants as constant
use Rattle.jx_base.specs.declared.class_file.Member.{Member}
use Rattle.jx_base.specs.declared.program.Plan.{Plan}
use Rattle.jx_base.specs.declared.program.Resolved.{Resolved}
use Rattle.jx_base.specs.declared.program.Resolved.TheVariants as resolved
use Rattle.jx_base.specs.declared.program.Selector.{Selector}
use Rattle.jx_base.specs.declared.program.System.{System}
use Rattle.jx_base.specs.declared.program.Template.{Template}
use Rattle.jx_base.specs.declared.row.Invocation.{Invocation}
use Rattle.jx_base.specs.declared.row.Invocation.TheVariants as invocation
use Rattle.jx_base.specs.Basics.{first_some, passes, contains_number, firsts}
unfoldable pub use Rattle.jx_base.specs.Basics.{first_fault, has_text}
use Rattle.link_model.specs.declared.fault.LinkFault.{LinkFault}
use Rattle.link_model.specs.declared.fault.LinkKind.{LinkKind}
use Rattle.link_model.specs.declared.fault.LinkKind.TheVariants.{NoClass, NoField, NoMethod, SuperLoop, NoMain, Twice, Abstract, BadConstant, WrongName}
use Rattle.program_model.specs.Types.{innermost_type, is_number_type}
use Rattle.program_model.specs.BuiltIn.{built_in_table, throwable_classes, string_class, zero_class, memory_class}
use Rattle.class_grammar.specs.Flags.{is_static, is_abstract, is_interface_flag}
use Rattle.program_model.specs.Lookup.{class_at, class_named, method_at, is_interface, same_selector, class_name_of_type}
use Rattle.program_model.specs.Plans.{IsPlanInRange}
use Rattle.link_model.specs.declared.uses.Use.{Use}
use Rattle.link_model.specs.declared.uses.Use.TheVariants.{AsWord, AsLong, AsField, AsMethod, AsNew, AsClass, AsArray}
use Rattle.link_model.specs.declared.uses.Used.{Used}
use Rattle.link_model.specs.ClassFiles.{constant_in, this_name, super_name, interface_names, class_of_constant, member_of_constant, member_selector, uses_of_member}
use Rattle.link_model.specs.Linking.{outline, found_field, found_method, in_class, linked_system}
use Rattle.std.specs.Option.{option_and_then, option_map}

-- a fault where a test passes
unfoldable pub fault_if : Bool → List ℕ → LinkKind → List ℕ → Option LinkFault
fault_if test class kind name = if test then Some (record { class = class; kind = kind; name = name }) else None

-- ---- the classes of a template

-- the name of the class at a place of the plan
unfoldable pub listed_name : Plan → ℕ → Option (List ℕ)
listed_name plan p = slice_get plan.classes p

-- the names of a template's classes
unfoldable pub listed_names : Plan → Template → List (List ℕ)
listed_names plan t = filter_map (listed_name plan) t.classes

-- the place of the template's class of that name
unfoldable pub listed_place : Plan → Template → List ℕ → Option ℕ
listed_place plan t name = find (λ p. passes (bytes_eq name) (listed_name plan p)) t.classes

-- whether a name is java/lang/Object
unfoldable pub is_object_name : List ℕ → Bool
is_object_name name = bytes_eq name (codes "java/lang/Object")

-- ---- the first walk: a class alone

-- whether a class may have that super; an interface has java/lang/Object
unfoldable pub may_extend : Plan → Template → ClassFile → List ℕ → Bool
may_extend plan t f name =
    is_object_name name
    || (not (is_interface_flag f.flags) && (has_text (listed_names plan t) name || has_text (map (λ k. k.name) throwable_classes) name))

-- whether a class may have that interface
unfoldable pub may_implement : Plan → List ClassFile → Template → List ℕ → Bool
may_implement plan files t name =
    bytes_eq name (codes "jx/Portal")
    || passes (λ f. is_interface_flag f.flags) (option_and_then (slice_get files) (listed_place plan t name))

-- the template's classes that a class extends or implements itself
unfoldable pub next_above : Plan → List ClassFile → Template → ℕ → List ℕ
next_above plan files t p =
    elim (slice_get files p) [ None ↦ [] | Some f ↦ filter_map (listed_place plan t) (super_name f ∷ interface_names f) ]

-- the template's classes above one, as far as so many rounds lead
unfoldable pub all_above : Plan → List ClassFile → Template → ℕ → ℕ → List ℕ
all_above plan files t p zero = []
all_above plan files t p (suc k) =
    firsts (next_above plan files t p ++ flat_map (next_above plan files t) (all_above plan files t p k))

-- whether a walk up from a class comes back to it
unfoldable pub is_above_itself : Plan → List ClassFile → Template → ℕ → Bool
is_above_itself plan files t p = contains_number (all_above plan files t p (length t.classes)) p

-- the first selector that stood before, in a list behind those that were seen
unfoldable pub repeated_after : List Selector → List Selector → Option Selector
repeated_after seen [] = None
repeated_after seen (x ∷ xs) = elim (list_any (same_selector x) seen) [ true ↦ Some x | false ↦ repeated_after (x ∷ seen) xs ]

-- the name of the first member that stood before
unfoldable pub repeated_name : List Member → Option (List ℕ)
repeated_name members = option_map (λ x. x.name) (repeated_after [] (map member_selector members))

-- the fault of the first such name
unfoldable pub named_fault : List ℕ → LinkKind → Option (List ℕ) → Option LinkFault
named_fault class kind name = option_map (λ n. record { class = class; kind = kind; name = n }) name

-- the first fault of a class alone, in the order of the tests
unfoldable pub class_fault : Plan → List ClassFile → Template → ℕ → List ℕ → ClassFile → Option LinkFault
class_fault plan files t p class f = first_fault (
    fault_if (not (bytes_eq (this_name f) class)) class WrongName (this_name f)
    ∷ fault_if (not (may_extend plan t f (super_name f))) class NoClass (super_name f)
    ∷ named_fault class NoClass (find (λ name. not (may_implement plan files t name)) (interface_names f))
    ∷ fault_if (is_above_itself plan files t p) class SuperLoop class
    ∷ named_fault class Twice (repeated_name f.fields)
    ∷ named_fault class Twice (repeated_name f.methods) ∷ []
    )

-- ---- the second walk: the main class

-- whether it is the method in which a domain starts
unfoldable pub is_main : Member → Bool
is_main m = bytes_eq m.name (codes "main") && bytes_eq m.descriptor (codes "([Ljava/lang/String;)V") && is_static m.flags && is_some m.code

-- the fault of a main class without a main method
unfoldable pub main_fault : List ℕ → ClassFile → Option LinkFault
main_fault class f = fault_if (not (list_any is_main f.methods)) class NoMain (codes "main")

-- ---- the third walk: the uses of constants

-- whether a constant is of a tag that the use can have
unfoldable pub has_tag_for : Use → Constant → Bool
has_tag_for AsWord (constant.Integer n) = true
has_tag_for AsWord (constant.Str n) = true
has_tag_for AsLong (constant.Long n) = true
has_tag_for (AsField static) (constant.Field c x) = true
has_tag_for (AsMethod invocation.Interface) (constant.InterfaceMethod c x) = true
has_tag_for (AsMethod invocation.Virtual) (constant.Method c x) = true
has_tag_for (AsMethod invocation.Special) (constant.Method c x) = true
has_tag_for (AsMethod invocation.Static) (constant.Method c x) = true
has_tag_for AsNew (constant.Class n) = true
has_tag_for AsClass (constant.Class n) = true
has_tag_for (AsArray n) (constant.Class k) = true
has_tag_for _ _ = false

-- how many dimensions a class name has
unfoldable pub dimensions_of : List ℕ → ℕ
dimensions_of [] = 0
dimensions_of (u ∷ units) = elim (u == 91) [ true ↦ suc (dimensions_of units) | false ↦ 0 ]

-- whether a class can have the use by its dimensions
unfoldable pub has_shape_for : Use → List ℕ → Bool
has_shape_for AsNew name = dimensions_of name == 0
has_shape_for (AsArray n) name = not (nat_lt (dimensions_of name) n)
has_shape_for _ name = true

-- whether a class that is no array is in the template's list or built in
unfoldable pub is_known_plain : Plan → Template → List ℕ → Bool
is_known_plain plan t name = has_text (listed_names plan t) name || has_text (map (λ k. k.name) built_in_table) name

-- whether a type is a number's, or that of such a class
unfoldable pub is_known_type : Plan → Template → List ℕ → Bool
is_known_type plan t type =
    let name : List ℕ = class_name_of_type type in
    is_number_type type || (bytes_eq type (76 ∷ name ++ 59 ∷ []) && is_known_plain plan t name)

-- whether a class is known to the template: such a class, or an array over such a type
unfoldable pub is_known : Plan → Template → List ℕ → Bool
is_known plan t name = if dimensions_of name == 0 then is_known_plain plan t name else is_known_type plan t (innermost_type name)

-- whether a field is static, or is one of instances that no interface declares
unfoldable pub is_field_for : System → Bool → Resolved → Bool
is_field_for s true (resolved.Static c i) = true
is_field_for s false (resolved.Instance c i) = not (is_interface s c.0)
is_field_for s _ _ = false

-- whether an instruction calls static methods
unfoldable pub calls_static : Invocation → Bool
calls_static invocation.Static = true
calls_static _ = false

-- whether a method is static where the call is, and only there
unfoldable pub is_method_for : System → Invocation → ℕ → Bool
is_method_for s kind m = passes (λ x. if calls_static kind then is_static x.flags else not (is_static x.flags)) (method_at s m)

-- whether a member that the use asks for is found in the class
unfoldable pub has_member : System → Use → List ℕ → Selector → Bool
has_member s (AsField static) name x = passes (is_field_for s static) (in_class s name (found_field s x))
has_member s (AsMethod kind) name x = passes (is_method_for s kind) (in_class s name (found_method s x))
has_member s _ name x = true

-- the kind of fault of a missing member
unfoldable pub missing_kind : Use → LinkKind
missing_kind (AsField static) = NoField
missing_kind _ = NoMethod

-- whether a class may not be made by new
unfoldable pub is_not_made : System → ℕ → Bool
is_not_made s c = passes (λ k. is_abstract k.flags || is_interface_flag k.flags) (class_at s c) || contains_number (string_class ∷ zero_class ∷ memory_class ∷ []) c

-- whether a method is abstract
unfoldable pub is_abstract_method : System → ℕ → Bool
is_abstract_method s m = passes (λ x. is_abstract x.flags) (method_at s m)

-- whether the use needs what is abstract: a class that is made, or a method that is run as it was found
unfoldable pub needs_abstract : System → Use → List ℕ → Selector → Bool
needs_abstract s AsNew name x = passes (is_not_made s) (class_named s name)
needs_abstract s (AsMethod invocation.Special) name x = passes (is_abstract_method s) (in_class s name (found_method s x))
needs_abstract s (AsMethod invocation.Static) name x = passes (is_abstract_method s) (in_class s name (found_method s x))
needs_abstract s _ name x = false

-- the name of what is abstract: of the class that is made, or of the method
unfoldable pub abstract_name : Use → List ℕ → Selector → List ℕ
abstract_name AsNew name x = name
abstract_name _ name x = x.name

-- the first fault of the class and the member that a constant names
unfoldable pub member_fault : System → Plan → Template → List ℕ → Use → List ℕ → Selector → Option LinkFault
member_fault s plan t class u name x = first_fault (
    fault_if (not (is_known plan t name)) class NoClass name
    ∷ fault_if (not (has_member s u name x)) class (missing_kind u) x.name
    ∷ fault_if (needs_abstract s u name x) class Abstract (abstract_name u name x) ∷ []
    )

-- the first fault of a use of a constant
unfoldable pub use_fault : System → Plan → Template → List ℕ → ClassFile → Used → Option LinkFault
use_fault s plan t class f u =
    let k : Constant = constant_in f u.index in
    let named : Option (List ℕ) = class_of_constant f k in
    first_fault (
    fault_if (not (has_tag_for u.use_of k && passes_shape named)) class BadConstant (decimal u.index)
    ∷ option_and_then (λ name. member_fault s plan t class u.use_of name (member_of_constant f k)) named ∷ []
    )
  where
    passes_shape : Option (List ℕ) → Bool
    passes_shape None = true
    passes_shape (Some name) = has_shape_for u.use_of name

-- the first fault of a class's methods, each one's instructions first and then its catch types
unfoldable pub uses_fault : System → Plan → Template → List ℕ → ClassFile → Option LinkFault
uses_fault s plan t class f = first_some (use_fault s plan t class f) (flat_map uses_of_member f.methods)

-- ---- the walks

-- a class of a template: its place in the plan, its name there, and its file
pub record Listing : Type 0 where
  pub place : ℕ
  pub name : List ℕ
  pub file : ClassFile

-- the class at a place of the plan
unfoldable pub listing_at : Plan → List ClassFile → ℕ → Option Listing
listing_at plan files p =
    option_and_then (λ name. option_map (λ f. record { place = p; name = name; file = f }) (slice_get files p)) (listed_name plan p)

-- the first fault of a template, by its three walks
unfoldable pub template_fault : System → Plan → List ClassFile → Template → Option LinkFault
template_fault s plan files t =
    let listings : List Listing = filter_map (listing_at plan files) t.classes in
    first_fault (
    first_some (λ x. class_fault plan files t x.place x.name x.file) listings
    ∷ option_and_then (λ x. main_fault x.name x.file) (listing_at plan files t.main)
    ∷ first_some (λ x. uses_fault s plan t x.name x.file) listings ∷ []
    )

-- the first fault of linking a plan with the class files of its classes
unfoldable pub first_link_fault : Plan → List ClassFile → Option LinkFault
first_link_fault plan files = first_some (template_fault (outline plan files) plan files) plan.templates

-- ---- linked systems

-- a plan with a class file for each of its classes, each of which was read
pub record HasFiles (plan : Plan) (files : List ClassFile) : Type 0 where
  pub range : IsPlanInRange plan
  pub count : length files ≡ length plan.classes
  pub read : AllByRecursion IsReadFile files

-- the system is the one that the plan and the class files of its classes link to
pub record IsLinked (plan : Plan) (files : List ClassFile) (s : System) : Type 0 where
  pub has_files : HasFiles plan files
  pub no_fault : first_link_fault plan files ≡ None
  pub system : s ≡ linked_system plan files

-- the fault is the first one
pub record IsLinkFault (plan : Plan) (files : List ClassFile) (fault : LinkFault) : Type 0 where
  pub has_files : HasFiles plan files
  pub first : first_link_fault plan files ≡ Some fault

-- what a computed case opens
unfoldable pub opened_link_faults : Unit {0}
unfolding fault_if listed_name listed_names listed_place is_object_name may_extend may_implement next_above all_above is_above_itself repeated_after repeated_name named_fault class_fault is_main main_fault has_tag_for dimensions_of has_shape_for is_known_plain is_known_type is_known is_field_for calls_static is_method_for has_member missing_kind is_not_made is_abstract_method needs_abstract abstract_name member_fault use_fault uses_fault listing_at template_fault first_link_fault
opened_link_faults = tt
