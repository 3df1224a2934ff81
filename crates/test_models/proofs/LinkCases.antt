-- Linking, computed: first faults, layouts, array classes and the built-in table.
use Rattle.std.specs.Prelude.{◌≡◌, refl, ℕ, ◌+◌, pos, negsuc, true, false, List, [], ◌∷◌, ◌++◌, length, drop, map, Option, Some, None, codes}
use Rattle.jx_base.specs.declared.class_file.ClassFile.{ClassFile}
use Rattle.jx_base.specs.declared.class_file.Constant.{Constant}
use Rattle.jx_base.specs.declared.class_file.Constant.TheVariants as constant
use Rattle.jx_base.specs.declared.class_file.Member.{Member}
use Rattle.jx_base.specs.declared.ids.ClassId.{ClassId}
use Rattle.jx_base.specs.declared.program.Class.{Class}
use Rattle.jx_base.specs.declared.program.Declared.{Declared}
use Rattle.jx_base.specs.declared.program.Plan.{Plan}
use Rattle.jx_base.specs.declared.program.Resolved.TheVariants as resolved
use Rattle.jx_base.specs.declared.program.System.{System}
use Rattle.program_model.specs.BuiltIn.{built_in_table}
use Rattle.machine_model.specs.BuiltInMethods.{BuiltInMethod, effects_of}
use Rattle.program_model.specs.Lookup.{class_at, constant_at, fits_type, shape_fits, ObjectShape, PortalShape, IntShape, NullShape, has_method, lists_class}
use Rattle.program_model.specs.Types.{parameter_types, result_type, lies_in_type}
use Rattle.link_model.specs.Linking.{linked_system}
use Rattle.machine_model.specs.Start.{initializers}
use Rattle.link_model.specs.declared.fault.LinkFault.{LinkFault}
use Rattle.link_model.specs.declared.fault.LinkKind.{LinkKind}
use Rattle.link_model.specs.declared.fault.LinkKind.TheVariants.{NoClass, NoField, NoMethod, SuperLoop, NoMain, Twice, Abstract, BadConstant}
use Rattle.link_model.specs.LinkFaults.{first_link_fault}
use Rattle.opened_models.specs.Opened.{opened_model}

-- ---- files and plans

-- a file whose constant 2 is the class, 4 its super, and the others begin at 5
abbrev pub file_of : List ℕ → List ℕ → List Constant → ClassFile
file_of name super more =
    record {
      minor = 0;
      major = 52;
      constants = constant.Unusable ∷ constant.Utf8 name ∷ constant.Class 1 ∷ constant.Utf8 super ∷ constant.Class 3 ∷ more;
      flags = 0x0021;
      this_class = 2;
      super_class = 4;
      interfaces = [];
      fields = [];
      methods = [];
    }

-- a member without code
abbrev pub member : ℕ → List ℕ → List ℕ → Member
member flags name descriptor = record { flags = flags; name = name; descriptor = descriptor; code = None }

-- a method with that code
abbrev pub method : ℕ → List ℕ → List ℕ → List ℕ → Member
method flags name descriptor bytes =
    record (member flags name descriptor) { code = Some (record { max_stack = 2; max_locals = 2; at = 0; code = bytes; table = [] }) }

-- a main method with that code
abbrev pub main : List ℕ → Member
main bytes = method 9 (codes "main") (codes "([Ljava/lang/String;)V") bytes

-- a class with a main method
abbrev pub main_file : List ℕ → List ℕ → List Constant → List ℕ → ClassFile
main_file name super more bytes = record (file_of name super more) { methods = main bytes ∷ [] }

-- the plan of one template with these classes, of which the first has the main method
abbrev pub plan_of : List (List ℕ) → List ℕ → Plan
plan_of names places =
    record {
      granules = 64;
      journal = 1048576;
      templates = record { name = codes "a"; main = 0; classes = places; heap = 64; fuel = 100; boot = true } ∷ [];
      classes = names;
    }

-- the first fault of class A alone
abbrev pub alone : ClassFile → Option LinkFault
alone f = first_link_fault (plan_of (codes "A" ∷ []) (0 ∷ [])) (f ∷ [])

-- the first fault of class A with class B
abbrev pub with_b : ClassFile → ClassFile → Option LinkFault
with_b f g = first_link_fault (plan_of (codes "A" ∷ codes "B" ∷ []) (0 ∷ 1 ∷ [])) (f ∷ g ∷ [])

-- a fault
abbrev pub fault : List ℕ → LinkKind → List ℕ → Option LinkFault
fault class kind name = Some (record { class = class; kind = kind; name = name })

-- the name of the class of all objects
abbrev pub object : List ℕ
object = codes "java/lang/Object"

-- a class, from that index on
abbrev pub class_constants : ℕ → List ℕ → List Constant
class_constants i name = constant.Utf8 name ∷ constant.Class i ∷ []

-- a name and a descriptor, from that index on
abbrev pub name_constants : ℕ → List ℕ → List ℕ → List Constant
name_constants i name descriptor = constant.Utf8 name ∷ constant.Utf8 descriptor ∷ constant.NameAndType i (i + 1) ∷ []

-- a field of a class, at index 10
abbrev pub field_constants : List ℕ → List ℕ → List ℕ → List Constant
field_constants class name descriptor = class_constants 5 class ++ name_constants 7 name descriptor ++ constant.Field 6 9 ∷ []

-- a method of a class, at index 10
abbrev pub method_constants : List ℕ → List ℕ → List ℕ → List Constant
method_constants class name descriptor = class_constants 5 class ++ name_constants 7 name descriptor ++ constant.Method 6 9 ∷ []

-- ---- first faults
good_class : alone (main_file (codes "A") object ([]) (0xb1 ∷ [])) ≡ None
unfolding opened_model
good_class = refl

supers_loop : with_b (main_file (codes "A") (codes "B") ([]) (0xb1 ∷ [])) (file_of (codes "B") (codes "A") []) ≡ fault (codes "A") SuperLoop (codes "A")
unfolding opened_model
supers_loop = refl

-- A stands above a loop that it is not in
loop_above_a_class : first_link_fault (plan_of (codes "A" ∷ codes "B" ∷ codes "C" ∷ []) (0 ∷ 1 ∷ 2 ∷ [])) ((main_file (codes "A") (codes "B") ([]) (0xb1 ∷ [])) ∷ file_of (codes "B") (codes "C") [] ∷ file_of (codes "C") (codes "B") [] ∷ []) ≡ fault (codes "B") SuperLoop (codes "B")
unfolding opened_model
loop_above_a_class = refl

super_out_of_the_list : alone (main_file (codes "A") (codes "B") ([]) (0xb1 ∷ [])) ≡ fault (codes "A") NoClass (codes "B")
unfolding opened_model
super_out_of_the_list = refl

super_is_a_builder : alone (main_file (codes "A") (codes "java/lang/StringBuilder") ([]) (0xb1 ∷ [])) ≡ fault (codes "A") NoClass (codes "java/lang/StringBuilder")
unfolding opened_model
super_is_a_builder = refl

super_is_an_exception : alone (main_file (codes "A") (codes "jx/CopyException") ([]) (0xb1 ∷ [])) ≡ None
unfolding opened_model
super_is_an_exception = refl

super_of_an_interface : with_b (main_file (codes "A") object ([]) (0xb1 ∷ [])) (record (file_of (codes "B") (codes "A") []) { flags = 0x0601 }) ≡ fault (codes "B") NoClass (codes "A")
unfolding opened_model
super_of_an_interface = refl

interface_that_is_a_class : with_b (record (main_file (codes "A") object (class_constants 5 (codes "B")) (0xb1 ∷ [])) { interfaces = 6 ∷ [] }) (file_of (codes "B") object []) ≡ fault (codes "A") NoClass (codes "B")
unfolding opened_model
interface_that_is_a_class = refl

interface_further_on : with_b (record (main_file (codes "A") object (class_constants 5 (codes "B")) (0xb1 ∷ [])) { interfaces = 6 ∷ [] }) (record (file_of (codes "B") object []) { flags = 0x0601 }) ≡ None
unfolding opened_model
interface_further_on = refl

field_twice : alone (record (main_file (codes "A") object ([]) (0xb1 ∷ [])) { fields = member 0 (codes "x") (codes "I") ∷ member 8 (codes "x") (codes "I") ∷ [] }) ≡ fault (codes "A") Twice (codes "x")
unfolding opened_model
field_twice = refl

field_of_two_types : alone (record (main_file (codes "A") object ([]) (0xb1 ∷ [])) { fields = member 0 (codes "x") (codes "I") ∷ member 8 (codes "x") (codes "J") ∷ [] }) ≡ None
unfolding opened_model
field_of_two_types = refl

method_twice : alone (record (main_file (codes "A") object ([]) (0xb1 ∷ [])) { methods = main (0xb1 ∷ []) ∷ main (0xb1 ∷ []) ∷ [] }) ≡ fault (codes "A") Twice (codes "main")
unfolding opened_model
method_twice = refl

wrong_tag : alone (main_file (codes "A") object (class_constants 5 (codes "java/lang/String")) (0x12 ∷ 0x06 ∷ 0x57 ∷ 0xb1 ∷ [])) ≡ fault (codes "A") BadConstant (codes "6")
unfolding opened_model
wrong_tag = refl

index_past_the_constants : alone (main_file (codes "A") object ([]) (0x12 ∷ 0x63 ∷ 0x57 ∷ 0xb1 ∷ [])) ≡ fault (codes "A") BadConstant (codes "99")
unfolding opened_model
index_past_the_constants = refl

new_of_an_array : alone (main_file (codes "A") object (class_constants 5 (codes "[I")) (0xbb ∷ 0x00 ∷ 0x06 ∷ 0x57 ∷ 0xb1 ∷ [])) ≡ fault (codes "A") BadConstant (codes "6")
unfolding opened_model
new_of_an_array = refl

-- before the missing class is looked for
too_few_dimensions : alone (main_file (codes "A") object (class_constants 5 (codes "[LNope;")) (0xc5 ∷ 0x00 ∷ 0x06 ∷ 0x02 ∷ 0x57 ∷ 0xb1 ∷ [])) ≡ fault (codes "A") BadConstant (codes "6")
unfolding opened_model
too_few_dimensions = refl

array_of_a_missing_class : alone (main_file (codes "A") object (class_constants 5 (codes "[LNope;")) (0xc5 ∷ 0x00 ∷ 0x06 ∷ 0x01 ∷ 0x57 ∷ 0xb1 ∷ [])) ≡ fault (codes "A") NoClass (codes "[LNope;")
unfolding opened_model
array_of_a_missing_class = refl

array_of_floats : alone (main_file (codes "A") object (class_constants 5 (codes "[F")) (0xc0 ∷ 0x00 ∷ 0x06 ∷ 0xb1 ∷ [])) ≡ fault (codes "A") NoClass (codes "[F")
unfolding opened_model
array_of_floats = refl

static_field_as_one_of_instances : alone (record (main_file (codes "A") object (field_constants (codes "A") (codes "x") (codes "I")) (0xb4 ∷ 0x00 ∷ 0x0a ∷ 0xb1 ∷ [])) { fields = member 8 (codes "x") (codes "I") ∷ [] }) ≡ fault (codes "A") NoField (codes "x")
unfolding opened_model
static_field_as_one_of_instances = refl

field_of_another_type : alone (record (main_file (codes "A") object (field_constants (codes "A") (codes "x") (codes "J")) (0xb2 ∷ 0x00 ∷ 0x0a ∷ 0xb1 ∷ [])) { fields = member 8 (codes "x") (codes "I") ∷ [] }) ≡ fault (codes "A") NoField (codes "x")
unfolding opened_model
field_of_another_type = refl

field_that_an_interface_declares : with_b (main_file (codes "A") object (field_constants (codes "B") (codes "x") (codes "I")) (0xb4 ∷ 0x00 ∷ 0x0a ∷ 0xb1 ∷ [])) (record (file_of (codes "B") object []) { flags = 0x0601; fields = member 1 (codes "x") (codes "I") ∷ [] }) ≡ fault (codes "A") NoField (codes "x")
unfolding opened_model
field_that_an_interface_declares = refl

static_field_of_an_interface : with_b (main_file (codes "A") object (field_constants (codes "B") (codes "x") (codes "I")) (0xb2 ∷ 0x00 ∷ 0x0a ∷ 0xb1 ∷ [])) (record (file_of (codes "B") object []) { flags = 0x0601; fields = member 9 (codes "x") (codes "I") ∷ [] }) ≡ None
unfolding opened_model
static_field_of_an_interface = refl

message_field : alone (main_file (codes "A") object (field_constants (codes "java/lang/Error") (codes "message") (codes "Ljava/lang/String;")) (0xb4 ∷ 0x00 ∷ 0x0a ∷ 0xb1 ∷ [])) ≡ None
unfolding opened_model
message_field = refl

static_call_of_an_instance_method : alone (main_file (codes "A") object (method_constants (codes "java/lang/String") (codes "length") (codes "()I")) (0xb8 ∷ 0x00 ∷ 0x0a ∷ 0x57 ∷ 0xb1 ∷ [])) ≡ fault (codes "A") NoMethod (codes "length")
unfolding opened_model
static_call_of_an_instance_method = refl

inherited_method : alone (main_file (codes "A") object (method_constants (codes "java/lang/StringBuilder") (codes "equals") (codes "(Ljava/lang/Object;)Z")) (0xb6 ∷ 0x00 ∷ 0x0a ∷ 0x57 ∷ 0xb1 ∷ [])) ≡ None
unfolding opened_model
inherited_method = refl

interface_call_by_a_method_constant : alone (main_file (codes "A") object (method_constants (codes "java/lang/String") (codes "length") (codes "()I")) (0xb9 ∷ 0x00 ∷ 0x0a ∷ 0x01 ∷ 0x00 ∷ 0x57 ∷ 0xb1 ∷ [])) ≡ fault (codes "A") BadConstant (codes "10")
unfolding opened_model
interface_call_by_a_method_constant = refl

new_of_a_text : alone (main_file (codes "A") object (class_constants 5 (codes "java/lang/String")) (0xbb ∷ 0x00 ∷ 0x06 ∷ 0x57 ∷ 0xb1 ∷ [])) ≡ fault (codes "A") Abstract (codes "java/lang/String")
unfolding opened_model
new_of_a_text = refl

new_of_an_abstract_class : with_b (main_file (codes "A") object (class_constants 5 (codes "B")) (0xbb ∷ 0x00 ∷ 0x06 ∷ 0x57 ∷ 0xb1 ∷ [])) (record (file_of (codes "B") object []) { flags = 0x0421 }) ≡ fault (codes "A") Abstract (codes "B")
unfolding opened_model
new_of_an_abstract_class = refl

special_call_of_an_abstract_method : with_b (main_file (codes "A") object (method_constants (codes "B") (codes "f") (codes "()V")) (0xb7 ∷ 0x00 ∷ 0x0a ∷ 0xb1 ∷ [])) (record (file_of (codes "B") object []) { flags = 0x0421; methods = member 0x0401 (codes "f") (codes "()V") ∷ [] }) ≡ fault (codes "A") Abstract (codes "f")
unfolding opened_model
special_call_of_an_abstract_method = refl

virtual_call_of_an_abstract_method : with_b (main_file (codes "A") object (method_constants (codes "B") (codes "f") (codes "()V")) (0xb6 ∷ 0x00 ∷ 0x0a ∷ 0xb1 ∷ [])) (record (file_of (codes "B") object []) { flags = 0x0421; methods = member 0x0401 (codes "f") (codes "()V") ∷ [] }) ≡ None
unfolding opened_model
virtual_call_of_an_abstract_method = refl

catch_type_of_a_missing_class : alone (record (main_file (codes "A") object (class_constants 5 (codes "Nope")) (0xb1 ∷ [])) { methods = record (main (0xb1 ∷ [])) { code = Some (record { max_stack = 1; max_locals = 1; at = 0; code = 0xb1 ∷ []; table = record { start = 0; end = 1; handler = 0; catch_type = 6 } ∷ [] }) } ∷ [] }) ≡ fault (codes "A") NoClass (codes "Nope")
unfolding opened_model
catch_type_of_a_missing_class = refl

-- a fault of the second class alone comes before one in the code of the first
first_walk_comes_first : with_b (main_file (codes "A") object (class_constants 5 (codes "Nope")) (0xbb ∷ 0x00 ∷ 0x06 ∷ 0x57 ∷ 0xb1 ∷ [])) (file_of (codes "B") (codes "C") []) ≡ fault (codes "B") NoClass (codes "C")
unfolding opened_model
first_walk_comes_first = refl

main_comes_before_code : alone (record (main_file (codes "A") object (class_constants 5 (codes "Nope")) (0xbb ∷ 0x00 ∷ 0x06 ∷ 0x57 ∷ 0xb1 ∷ [])) { methods = method 9 (codes "f") (codes "()V") (0xbb ∷ 0x00 ∷ 0x06 ∷ 0xb1 ∷ []) ∷ [] }) ≡ fault (codes "A") NoMain (codes "main")
unfolding opened_model
main_comes_before_code = refl

-- ---- linked systems

-- a class below another, with a field each, a static field, and code that makes arrays
abbrev pub family : System
family =
    linked_system (plan_of (codes "A" ∷ codes "B" ∷ []) (0 ∷ 1 ∷ [])) (
    record (main_file (codes "A") (codes "B") (class_constants 5 (codes "[[Ljava/lang/String;") ++ class_constants 7 (codes "A")) (0xbc ∷ 0x0a ∷ 0x57 ∷ 0xc0 ∷ 0x00 ∷ 0x06 ∷ 0xbd ∷ 0x00 ∷ 0x08 ∷ 0xbd ∷ 0x00 ∷ 0x06 ∷ 0xb1 ∷ [])) { fields = member 0 (codes "x") (codes "I") ∷ member 8 (codes "n") (codes "S") ∷ [] }
    ∷ record (file_of (codes "B") object []) { fields = member 0 (codes "y") (codes "J") ∷ [] } ∷ []
    )

-- the names of a class's fields
abbrev pub field_names : Option Class → List (List ℕ)
field_names None = []
field_names (Some k) = map (λ f. f.name) k.fields

-- an int[], then the component of String[][] stands already, then A[], then String[][][]
array_classes_in_order : map (λ k. k.name) (drop 29 family.program.classes) ≡ codes "[Ljava/lang/String;" ∷ codes "[Ljx/Memory;" ∷ codes "[I" ∷ codes "[[Ljava/lang/String;" ∷ codes "[LA;" ∷ codes "[[[Ljava/lang/String;" ∷ []
unfolding opened_model
array_classes_in_order = refl

super_fields_first : field_names (class_at family 27) ≡ codes "y" ∷ codes "x" ∷ []
unfolding opened_model
super_fields_first = refl

-- a class whose code casts to int[][][] alone
abbrev pub deep_arrays : System
deep_arrays =
    linked_system (plan_of (codes "A" ∷ []) (0 ∷ [])) (main_file (codes "A") object (class_constants 5 (codes "[[[I")) (0x01 ∷ 0xc0 ∷ 0x00 ∷ 0x06 ∷ 0xb1 ∷ []) ∷ [])

dimensions_in_order : map (λ k. k.name) (drop 30 deep_arrays.program.classes) ≡ codes "[I" ∷ codes "[[I" ∷ codes "[[[I" ∷ []
unfolding opened_model
dimensions_in_order = refl

-- class A below B, each with a static initialiser
abbrev pub initialized : System
initialized =
    linked_system (plan_of (codes "A" ∷ codes "B" ∷ []) (0 ∷ 1 ∷ [])) (
    record (file_of (codes "A") (codes "B") []) { methods = main (0xb1 ∷ []) ∷ method 9 (codes "<clinit>") (codes "()V") (0xb1 ∷ []) ∷ [] }
    ∷ record (file_of (codes "B") object []) { methods = method 9 (codes "<clinit>") (codes "()V") (0xb1 ∷ []) ∷ [] } ∷ []
    )

super_is_initialized_first : map (initializers initialized) initialized.plan.templates ≡ (81 ∷ 80 ∷ []) ∷ []
unfolding opened_model
super_is_initialized_first = refl

-- class A below B with the interface C, of which B and C have a method f, that A calls
abbrev pub inherited : System
inherited =
    linked_system (plan_of (codes "A" ∷ codes "B" ∷ codes "C" ∷ []) (0 ∷ 1 ∷ 2 ∷ [])) (
    record (main_file (codes "A") (codes "B") (method_constants (codes "A") (codes "f") (codes "()V") ++ class_constants 11 (codes "C")) (0x01 ∷ 0xb6 ∷ 0x00 ∷ 0x0a ∷ 0xb1 ∷ [])) { interfaces = 12 ∷ [] }
    ∷ record (file_of (codes "B") object []) { methods = method 1 (codes "f") (codes "()V") (0xb1 ∷ []) ∷ [] }
    ∷ record (file_of (codes "C") object []) { flags = 0x0601; methods = member 0x0401 (codes "f") (codes "()V") ∷ [] }
    ∷ []
    )

-- methods 79, 80 and 81 are those of A, B and C
super_before_interface : constant_at inherited 27 10 ≡ Some (resolved.Method 80)
unfolding opened_model
super_before_interface = refl

unused_constant : constant_at inherited 27 6 ≡ Some resolved.Unused
unfolding opened_model
unused_constant = refl

-- ---- the built-in table

-- the name and descriptor of each method that the table declares, by class
abbrev pub declared_in : List Class → List (List (List ℕ × List ℕ))
declared_in [] = []
declared_in (k ∷ ks) = declared_pairs k.methods ∷ declared_in ks
  where
    pair : Declared → List ℕ × List ℕ
    pair m = (m.selector.name, m.selector.descriptor)

    declared_pairs : List Declared → List (List ℕ × List ℕ)
    declared_pairs ms = map pair ms

-- the name and descriptor of each method that has an effect, by class
abbrev pub effects_in : ℕ → List Class → List (List (List ℕ × List ℕ))
effects_in c [] = []
effects_in c (k ∷ ks) = map pair (effects_of c) ∷ effects_in (c + 1) ks
  where
    pair : BuiltInMethod → List ℕ × List ℕ
    pair m = (m.name, m.descriptor)

each_built_in_method_has_its_effect : effects_in 0 built_in_table ≡ declared_in built_in_table
unfolding opened_model
each_built_in_method_has_its_effect = refl

there_are_27 : length built_in_table ≡ 27
unfolding opened_model
there_are_27 = refl

-- the names and parents of the built-in classes, by their places
abbrev pub parents_in : List Class → List (List ℕ × Option ℕ)
parents_in [] = []
parents_in (k ∷ ks) = (k.name, number k.parent) ∷ parents_in ks
  where
    number : Option ClassId → Option ℕ
    number None = None
    number (Some c) = Some c.0

names_and_parents : parents_in built_in_table ≡
    (codes "java/lang/Object", None)
    ∷ (codes "java/lang/String", Some 0)
    ∷ (codes "java/lang/StringBuilder", Some 0)
    ∷ (codes "java/lang/Throwable", Some 0)
    ∷ (codes "java/lang/Exception", Some 3)
    ∷ (codes "java/lang/RuntimeException", Some 4)
    ∷ (codes "java/lang/ArithmeticException", Some 5)
    ∷ (codes "java/lang/NullPointerException", Some 5)
    ∷ (codes "java/lang/IndexOutOfBoundsException", Some 5)
    ∷ (codes "java/lang/ArrayIndexOutOfBoundsException", Some 8)
    ∷ (codes "java/lang/StringIndexOutOfBoundsException", Some 8)
    ∷ (codes "java/lang/NegativeArraySizeException", Some 5)
    ∷ (codes "java/lang/ClassCastException", Some 5)
    ∷ (codes "java/lang/ArrayStoreException", Some 5)
    ∷ (codes "java/lang/Error", Some 3)
    ∷ (codes "java/lang/VirtualMachineError", Some 14)
    ∷ (codes "java/lang/OutOfMemoryError", Some 15)
    ∷ (codes "java/lang/StackOverflowError", Some 15)
    ∷ (codes "jx/Portal", Some 0)
    ∷ (codes "jx/Zero", Some 0)
    ∷ (codes "jx/Memory", Some 0)
    ∷ (codes "jx/CopyException", Some 5)
    ∷ (codes "jx/EndedException", Some 5)
    ∷ (codes "jx/RevokedException", Some 5)
    ∷ (codes "jx/DroppedException", Some 5)
    ∷ (codes "jx/RangeException", Some 5)
    ∷ (codes "jx/RefusedException", Some 5) ∷ []
unfolding opened_model
names_and_parents = refl

-- ---- types

-- a parenthesis may stand in a class name
parameters_of_a_descriptor : parameter_types (codes "(I[JLA)B;[[LC;Z)V") ≡ codes "I" ∷ codes "[J" ∷ codes "LA)B;" ∷ codes "[[LC;" ∷ codes "Z" ∷ []
unfolding opened_model
parameters_of_a_descriptor = refl

result_of_a_descriptor : result_type (codes "(I[JLA)B;[[LC;Z)[LC;") ≡ codes "[LC;"
unfolding opened_model
result_of_a_descriptor = refl

-- String[][][] is below Object[] even if no class is named so
array_fits_object_array : fits_type family 34 (codes "[Ljava/lang/Object;") ≡ true
unfolding opened_model
array_fits_object_array = refl

array_fits_deep : fits_type family 34 (codes "[[[Ljava/lang/Object;") ≡ true
unfolding opened_model
array_fits_deep = refl

array_fits_no_deeper : fits_type family 34 (codes "[[[[Ljava/lang/Object;") ≡ false
unfolding opened_model
array_fits_no_deeper = refl

int_array_fits_object : fits_type family 31 (codes "Ljava/lang/Object;") ≡ true
unfolding opened_model
int_array_fits_object = refl

int_array_fits_no_object_array : fits_type family 31 (codes "[Ljava/lang/Object;") ≡ false
unfolding opened_model
int_array_fits_no_object_array = refl

class_fits_its_super : fits_type family 27 (codes "LB;") ≡ true
unfolding opened_model
class_fits_its_super = refl

super_does_not_fit_its_class : fits_type family 28 (codes "LA;") ≡ false
unfolding opened_model
super_does_not_fit_its_class = refl

portal_fits_jx_portal : shape_fits family false (PortalShape 27) (codes "Ljx/Portal;") ≡ true
unfolding opened_model
portal_fits_jx_portal = refl

portal_fits_object : shape_fits family false (PortalShape 27) (codes "Ljava/lang/Object;") ≡ true
unfolding opened_model
portal_fits_object = refl

object_is_no_portal : shape_fits family false (ObjectShape 27) (codes "Ljx/Portal;") ≡ false
unfolding opened_model
object_is_no_portal = refl

object_is_loosely_a_portal : shape_fits family true (ObjectShape 27) (codes "Ljx/Portal;") ≡ true
unfolding opened_model
object_is_loosely_a_portal = refl

int_fits_boolean : shape_fits family false (IntShape (pos 7)) (codes "Z") ≡ true
unfolding opened_model
int_fits_boolean = refl

null_fits_no_number : shape_fits family false NullShape (codes "I") ≡ false
unfolding opened_model
null_fits_no_number = refl

-- ---- small numbers

byte_least_lies : lies_in_type (negsuc 127) (codes "B") ≡ true
unfolding opened_model
byte_least_lies = refl

byte_above_lies : lies_in_type (pos 128) (codes "B") ≡ false
unfolding opened_model
byte_above_lies = refl

char_below_lies : lies_in_type (negsuc 0) (codes "C") ≡ false
unfolding opened_model
char_below_lies = refl

char_greatest_lies : lies_in_type (pos 65535) (codes "C") ≡ true
unfolding opened_model
char_greatest_lies = refl

short_above_lies : lies_in_type (pos 32768) (codes "S") ≡ false
unfolding opened_model
short_above_lies = refl

boolean_above_lies : lies_in_type (pos 2) (codes "Z") ≡ false
unfolding opened_model
boolean_above_lies = refl

boolean_one_lies : lies_in_type (pos 1) (codes "Z") ≡ true
unfolding opened_model
boolean_one_lies = refl

any_int_lies : lies_in_type (pos 70000) (codes "I") ≡ true
unfolding opened_model
any_int_lies = refl

-- ---- methods of interfaces, lists and cells

-- interface A above interface B, each with a method
abbrev pub portal_methods : System
portal_methods =
    linked_system (plan_of (codes "A" ∷ codes "B" ∷ []) (0 ∷ 1 ∷ [])) (
    record (file_of (codes "A") object []) { flags = 0x0601; methods = member 0x0401 (codes "low") (codes "()V") ∷ [] }
    ∷ record (file_of (codes "B") object (class_constants 5 (codes "A"))) { flags = 0x0601; interfaces = 6 ∷ []; methods = member 0x0401 (codes "high") (codes "()V") ∷ [] }
    ∷ []
    )

-- selectors 36 and 37 are low and high, 1 is equals
own_method_counts : has_method portal_methods 28 37 ≡ true
unfolding opened_model
own_method_counts = refl

method_above_counts : has_method portal_methods 28 36 ≡ true
unfolding opened_model
method_above_counts = refl

method_below_does_not : has_method portal_methods 27 37 ≡ false
unfolding opened_model
method_below_does_not = refl

method_of_object_does_not : has_method portal_methods 28 1 ≡ false
unfolding opened_model
method_of_object_does_not = refl

-- class C with its own method own, below interface A
abbrev pub plain_methods : System
plain_methods =
    linked_system (plan_of (codes "A" ∷ codes "C" ∷ []) (0 ∷ 1 ∷ [])) (
    record (file_of (codes "A") object []) { flags = 0x0601; methods = member 0x0401 (codes "low") (codes "()V") ∷ [] }
    ∷ record (file_of (codes "C") object (class_constants 5 (codes "A"))) { interfaces = 6 ∷ []; methods = member 0x0401 (codes "own") (codes "()V") ∷ [] }
    ∷ []
    )

-- where the class is no interface, its own methods count, those of interfaces above it, and none of its super
own_method_of_class_counts : has_method plain_methods 28 37 ≡ true
unfolding opened_model
own_method_of_class_counts = refl

interface_method_of_class_counts : has_method plain_methods 28 36 ≡ true
unfolding opened_model
interface_method_of_class_counts = refl

method_of_super_does_not : has_method plain_methods 28 1 ≡ false
unfolding opened_model
method_of_super_does_not = refl

listed_class : lists_class family 0 1 ≡ true
unfolding opened_model
listed_class = refl

class_past_the_list : lists_class family 0 2 ≡ false
unfolding opened_model
class_past_the_list = refl
