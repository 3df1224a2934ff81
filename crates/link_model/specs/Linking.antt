-- The system that a plan and its class files link to.
use Rattle.std.specs.Prelude.{ℕ, zero, suc, ◌+◌, ◌-◌, Bool, true, false, ◌&&◌, not, List, [], ◌∷◌, ◌++◌, length, take, map, filter, flat_map, Option, Some, None, unwrap_or, ◌==◌, if◌then◌else◌, slice_get, sum_by, codes}
use Rattle.std.specs.List.{list_any, position, filter_map}
use Rattle.std.specs.Str.{bytes_eq}
use Rattle.jx_base.specs.declared.class_file.ClassFile.{ClassFile}
use Rattle.jx_base.specs.declared.class_file.Code.{Code}
use Rattle.jx_base.specs.declared.class_file.Constant.{Constant}
use Rattle.jx_base.specs.declared.class_file.Constant.TheVariants as constant
use Rattle.jx_base.specs.declared.class_file.Member.{Member}
use Rattle.jx_base.specs.declared.ids.ClassId.{ClassId}
use Rattle.jx_base.specs.declared.program.Class.{Class}
use Rattle.jx_base.specs.declared.program.Declared.{Declared}
use Rattle.jx_base.specs.declared.program.Field.{Field}
use Rattle.jx_base.specs.declared.program.Method.{Method}
use Rattle.jx_base.specs.declared.program.Plan.{Plan}
use Rattle.jx_base.specs.declared.program.Resolved.{Resolved}
use Rattle.jx_base.specs.declared.program.Resolved.TheVariants as resolved
use Rattle.jx_base.specs.declared.program.Selector.{Selector}
use Rattle.jx_base.specs.declared.program.System.{System}
use Rattle.jx_base.specs.Basics.{first_some, passes, contains_number}
use Rattle.program_model.specs.BuiltIn.{built_in_count, built_in_table, array_class}
use Rattle.program_model.specs.Instructions.{instructions_of}
use Rattle.class_grammar.specs.Flags.{is_static}
use Rattle.program_model.specs.Lookup.{class_at, class_named, is_built_in, supers_of, chain_of, same_selector, selector_at}
use Rattle.program_model.specs.Plans.{first_texts}
use Rattle.link_model.specs.ClassFiles.{text_in, this_name, super_name, interface_names, class_name_in, selector_in, member_selector, uses_of, arrays_of}
use Rattle.std.specs.Option.{option_and_then, option_map}

-- ---- classes

-- the number of the class of that name, built in or of the plan
unfoldable pub class_number : Plan → List ℕ → Option ℕ
class_number plan name = position (bytes_eq name) (map (λ k. k.name) built_in_table ++ plan.classes)

-- the same as an id
unfoldable pub class_id : Plan → List ℕ → Option ClassId
class_id plan name = option_map (λ c. record { 0 = c }) (class_number plan name)

-- a field as class c declares it
unfoldable pub field_of : ℕ → Member → Field
field_of c m = record { owner = record { 0 = c }; name = m.name; descriptor = m.descriptor }

-- the static fields, or the others, that class c declares
unfoldable pub own_fields : Bool → ℕ → ClassFile → List Field
own_fields static c f = map (field_of c) (filter (λ m. if static then is_static m.flags else not (is_static m.flags)) f.fields)

-- the layout of class c, the super's fields first, as far as so many steps lead
unfoldable pub layout_within : Plan → List ClassFile → ℕ → ℕ → List Field
layout_within plan files zero c = []
layout_within plan files (suc k) c =
    elim (is_built_in c) [
      | true ↦ elim (slice_get built_in_table c) [ None ↦ [] | Some x ↦ x.fields ]
      | false ↦ elim (slice_get files (c - built_in_count)) [
        | None ↦ []
        | Some f ↦ elim (class_number plan (super_name f)) [ None ↦ [] | Some p ↦ layout_within plan files k p ] ++ own_fields false c f
      ]
    ]

-- the layout of class c
unfoldable pub layout_of : Plan → List ClassFile → ℕ → List Field
layout_of plan files c = layout_within plan files (length files + 1) c

-- a method as its class declares it
unfoldable pub declared_of : Member → Declared
declared_of m = record { flags = m.flags; selector = member_selector m }

-- class c as its file declares it, without what its constants mean
unfoldable pub class_of_file : Plan → List ClassFile → ℕ → ClassFile → Class
class_of_file plan files c f =
    record {
      name = this_name f;
      parent = class_id plan (super_name f);
      interfaces = filter_map (class_id plan) (interface_names f);
      component = None;
      fields = layout_of plan files c;
      statics = own_fields true c f;
      methods = map declared_of f.methods;
      flags = f.flags;
      constants = [];
    }

-- the classes of the files, the first of which has number c
unfoldable pub classes_from : Plan → List ClassFile → ℕ → List ClassFile → List Class
classes_from plan files c [] = []
classes_from plan files c (f ∷ more) = class_of_file plan files c f ∷ classes_from plan files (c + 1) more

-- ---- array classes

-- the files of a template's classes, in the order of its list
unfoldable pub files_of : List ClassFile → List ℕ → List ClassFile
files_of files places = filter_map (slice_get files) places

-- the array classes that all code names or makes, template by template
unfoldable pub named_arrays : Plan → List ClassFile → List (List ℕ)
named_arrays plan files = flat_map (λ t. flat_map arrays_of (files_of files t.classes)) plan.templates

-- the names of the array classes: of strings, of memory objects, then the others as they are first named or made
unfoldable pub array_names : Plan → List ClassFile → List (List ℕ)
array_names plan files = first_texts (codes "[Ljava/lang/String;" ∷ codes "[Ljx/Memory;" ∷ named_arrays plan files)

-- the array class of that name
unfoldable pub array_class_named : List ℕ → Class
array_class_named [] = array_class []
array_class_named (u ∷ component) = array_class component

-- all classes, without what their constants mean
unfoldable pub linked_classes : Plan → List ClassFile → List Class
linked_classes plan files = built_in_table ++ classes_from plan files built_in_count files ++ map array_class_named (array_names plan files)

-- ---- methods

-- a method with its class and its code, as it is declared
pub record Source : Type 0 where
  pub class : ℕ
  pub declared : Declared
  pub code : Option Code

-- the methods that a file declares
unfoldable pub file_sources : ℕ → ClassFile → List Source
file_sources c f = map source f.methods
  where
    source : Member → Source
    source m = record { class = c; declared = declared_of m; code = m.code }

-- the methods of the files, the first of which has number c
unfoldable pub file_sources_from : ℕ → List ClassFile → List Source
file_sources_from c [] = []
file_sources_from c (f ∷ files) = file_sources c f ++ file_sources_from (c + 1) files

-- the methods of the built-in classes, the first of which has number c
unfoldable pub built_in_sources_from : ℕ → List Class → List Source
built_in_sources_from c [] = []
built_in_sources_from c (k ∷ classes) = map source k.methods ++ built_in_sources_from (c + 1) classes
  where
    source : Declared → Source
    source m = record { class = c; declared = m; code = None }

-- all methods, by the order of the classes
unfoldable pub sources : List ClassFile → List Source
sources files = built_in_sources_from 0 built_in_table ++ file_sources_from built_in_count files

-- the selectors without later repeats of those that were seen
unfoldable pub first_selectors_after : List Selector → List Selector → List Selector
first_selectors_after seen [] = []
first_selectors_after seen (x ∷ xs) = elim (list_any (same_selector x) seen) [
  | true ↦ first_selectors_after seen xs
  | false ↦ x ∷ first_selectors_after (x ∷ seen) xs
]

-- the selectors in the order in which methods first have them
unfoldable pub linked_selectors : List Source → List Selector
linked_selectors xs = first_selectors_after [] (map (λ x. x.declared.selector) xs)

-- a linked method
unfoldable pub linked_method : List Selector → Source → Method
linked_method selectors x =
    record {
      class = record { 0 = x.class };
      selector = record { 0 = unwrap_or (position (same_selector x.declared.selector) selectors) 0 };
      flags = x.declared.flags;
      code = x.code;
      instrs = elim x.code [ None ↦ [] | Some c ↦ instructions_of c.code ];
    }

-- the system without what the constants mean
unfoldable pub outline : Plan → List ClassFile → System
outline plan files =
    let xs : List Source = sources files in
    let selectors : List Selector = linked_selectors xs in
    record {
      plan = plan;
      program = record { classes = linked_classes plan files; methods = map (linked_method selectors) xs; selectors = selectors };
    }

-- ---- the search for members

-- whether a field has that name and descriptor
unfoldable pub is_field : Selector → Field → Bool
is_field x f = bytes_eq f.name x.name && bytes_eq f.descriptor x.descriptor

-- the field of an instance that class c itself declares
unfoldable pub own_instance_field : Selector → ℕ → Class → Option Resolved
own_instance_field x c k = option_map (λ i. resolved.Instance (record { 0 = c }) i) (position (λ f. (f.owner.0 == c) && is_field x f) k.fields)

-- how many static fields the classes before class c declare
unfoldable pub statics_before : System → ℕ → ℕ
statics_before s c = sum_by (λ k. length k.statics) (take c s.program.classes)

-- the static field that class c itself declares
unfoldable pub own_static_field : System → Selector → ℕ → Class → Option Resolved
own_static_field s x c k = option_map (λ i. resolved.Static (record { 0 = c }) (statics_before s c + i)) (position (is_field x) k.statics)

-- the field that class c itself declares
unfoldable pub own_field : System → Selector → ℕ → Option Resolved
own_field s x c = option_and_then (λ k. elim (own_instance_field x c k) [ Some r ↦ Some r | None ↦ own_static_field s x c k ]) (class_at s c)

-- a field is sought in the class, in its superinterfaces, then in its super
unfoldable pub found_field : System → Selector → ℕ → Option Resolved
found_field s x c = first_some (own_field s x) (supers_of s c)

-- whether a method is one that class c declares, of that name and descriptor
unfoldable pub is_method_of : System → Selector → ℕ → Method → Bool
is_method_of s x c m = (m.class.0 == c) && passes (same_selector x) (selector_at s m.selector.0)

-- the place of the method that class c itself declares
unfoldable pub own_method : System → Selector → ℕ → Option ℕ
own_method s x c = position (is_method_of s x c) s.program.methods

-- a method is sought in the class and up its supers, then in the superinterfaces
unfoldable pub found_method : System → Selector → ℕ → Option ℕ
found_method s x c = first_some (own_method s x) (chain_of s c ++ supers_of s c)

-- ---- what constants mean

-- what the search gives in the class of that name
unfoldable pub in_class : {A : Type 0} → System → List ℕ → (ℕ → Option A) → Option A
in_class s name search = option_and_then search (class_named s name)

-- what a constant means in the outline of the system
unfoldable pub meaning_of : System → ClassFile → Constant → Option Resolved
meaning_of s f (constant.Integer n) = Some (resolved.Int n)
meaning_of s f (constant.Long n) = Some (resolved.Long n)
meaning_of s f (constant.Str n) = Some (resolved.Str (text_in f n))
meaning_of s f (constant.Class n) = option_map (λ c. resolved.Class (record { 0 = c })) (class_named s (text_in f n))
meaning_of s f (constant.Field c x) = in_class s (class_name_in f c) (found_field s (selector_in f x))
meaning_of s f (constant.Method c x) = option_map (λ m. resolved.Method m) (in_class s (class_name_in f c) (found_method s (selector_in f x)))
meaning_of s f (constant.InterfaceMethod c x) =
    option_map (λ m. resolved.Method m) (in_class s (class_name_in f c) (found_method s (selector_in f x)))
meaning_of s f _ = None

-- what these constants mean, the first of which has index i: unused where no instruction and no catch type uses it
unfoldable pub meanings_from : System → ClassFile → List ℕ → ℕ → List Constant → List Resolved
meanings_from s f used i [] = []
meanings_from s f used i (k ∷ constants) =
    (if contains_number used i then unwrap_or (meaning_of s f k) resolved.Unused else resolved.Unused)
    ∷ meanings_from s f used (i + 1) constants

-- what the constants of a file mean
unfoldable pub meanings_of : System → ClassFile → List Resolved
meanings_of s f = meanings_from s f (map (λ u. u.index) (uses_of f)) 0 f.constants

-- the classes with what their constants mean, the first of which has number c
unfoldable pub with_meanings : System → List ClassFile → ℕ → List Class → List Class
with_meanings s files c [] = []
with_meanings s files c (k ∷ classes) = meant ∷ with_meanings s files (c + 1) classes
  where
    of_file : ClassFile → Class
    of_file f = record k { constants = meanings_of s f }

    meant : Class
    meant = if is_built_in c then k else unwrap_or (option_map of_file (slice_get files (c - built_in_count))) k

-- the system that a plan and its class files link to, where linking has no fault
unfoldable pub linked_system : Plan → List ClassFile → System
linked_system plan files =
    let s : System = outline plan files in
    record s { program = record s.program { classes = with_meanings s files 0 s.program.classes } }

-- what a computed case opens
unfoldable pub opened_linking : Unit {0}
unfolding class_number class_id field_of own_fields layout_within layout_of declared_of class_of_file classes_from files_of named_arrays array_names array_class_named linked_classes file_sources file_sources_from built_in_sources_from sources first_selectors_after linked_selectors linked_method outline is_field own_instance_field statics_before own_static_field own_field found_field is_method_of own_method found_method in_class meaning_of meanings_from meanings_of with_meanings linked_system
opened_linking = tt
