-- The class that prints a text: its file, its plan, and its linked system written out.
use Rattle.std.specs.Prelude.{◌≡◌, refl, ℕ, zero, suc, pos, true, false, List, [], ◌∷◌, ◌++◌, Option, Some, None, replicate, codes}
use Rattle.std.specs.Fmt.{digits}
use Rattle.jx_base.specs.declared.class_file.ClassFile.{ClassFile}
use Rattle.jx_base.specs.declared.class_file.Code.{Code}
use Rattle.jx_base.specs.declared.class_file.Constant.{Constant}
use Rattle.jx_base.specs.declared.class_file.Constant.TheVariants as constant
use Rattle.jx_base.specs.declared.class_file.Instr.{Instr}
use Rattle.jx_base.specs.declared.class_file.Member.{Member}
use Rattle.jx_base.specs.declared.program.Class.{Class}
use Rattle.jx_base.specs.declared.program.Method.{Method}
use Rattle.jx_base.specs.declared.program.Plan.{Plan}
use Rattle.jx_base.specs.declared.program.Program.{Program}
use Rattle.jx_base.specs.declared.program.Resolved.TheVariants as resolved
use Rattle.jx_base.specs.declared.program.Selector.{Selector}
use Rattle.jx_base.specs.declared.program.System.{System}
use Rattle.program_model.specs.BuiltIn.{built_in_table, built_in_class, array_class}
use Rattle.link_model.specs.Linking.{linked_system}
use Rattle.link_model.specs.declared.fault.LinkFault.{LinkFault}
use Rattle.link_model.specs.declared.fault.LinkKind.TheVariants.{NoClass, NoMethod, NoMain, BadConstant, WrongName}
use Rattle.link_model.specs.LinkFaults.{first_link_fault}
use Rattle.opened_models.specs.Opened.{opened_model}

-- ---- the file and its plan

-- the code of its main method
abbrev pub hello_code : Code
hello_code = record { max_stack = 1; max_locals = 1; at = 179; code = 0x12 ∷ 0x09 ∷ 0xb8 ∷ 0x00 ∷ 0x0f ∷ 0xb1 ∷ []; table = [] }

-- its constants
abbrev pub hello_constants : List Constant
hello_constants =
    constant.Unusable ∷ constant.Utf8 (codes "Hello") ∷ constant.Class 1 ∷ constant.Utf8 (codes "java/lang/Object") ∷ constant.Class 3
    ∷ constant.Utf8 (codes "main") ∷ constant.Utf8 (codes "([Ljava/lang/String;)V") ∷ constant.Utf8 (codes "Code") ∷ constant.Utf8 (codes "hi")
    ∷ constant.Str 8 ∷ constant.Utf8 (codes "jx/Zero") ∷ constant.Class 10 ∷ constant.Utf8 (codes "print")
    ∷ constant.Utf8 (codes "(Ljava/lang/String;)V") ∷ constant.NameAndType 12 13 ∷ constant.Method 11 14 ∷ []

-- its main method
abbrev pub hello_main : Member
hello_main = record { flags = 9; name = codes "main"; descriptor = codes "([Ljava/lang/String;)V"; code = Some hello_code }

-- the class file
abbrev pub hello_file : ClassFile
hello_file =
    record {
      minor = 0;
      major = 52;
      constants = hello_constants;
      flags = 0x0021;
      this_class = 2;
      super_class = 4;
      interfaces = [];
      fields = [];
      methods = hello_main ∷ [];
    }

-- the plan of the one class, with that fuel
abbrev pub hello_plan : ℕ → Plan
hello_plan fuel =
    record {
      granules = 16384;
      journal = 1048576;
      templates = record { name = codes "main"; main = 0; classes = 0 ∷ []; heap = 1024; fuel = fuel; boot = true } ∷ [];
      classes = codes "Hello" ∷ [];
    }

-- ---- the linked system

-- a built-in method of class c with that selector
abbrev pub built_in_method : ℕ → ℕ → ℕ → Method
built_in_method flags c selector = record { class = record { 0 = c }; selector = record { 0 = selector }; flags = flags; code = None; instrs = [] }

-- methods of instances of class c, with these selectors
abbrev pub instance_methods : ℕ → List ℕ → List Method
instance_methods c [] = []
instance_methods c (x ∷ xs) = built_in_method 1 c x ∷ instance_methods c xs

-- static methods of class c, with these selectors
abbrev pub static_methods : ℕ → List ℕ → List Method
static_methods c [] = []
static_methods c (x ∷ xs) = built_in_method 9 c x ∷ static_methods c xs

-- the two constructors of each of these classes
abbrev pub constructors_of : List ℕ → List Method
constructors_of [] = []
constructors_of (c ∷ cs) = instance_methods c (0 ∷ 12 ∷ []) ++ constructors_of cs

-- all built-in methods, by class
abbrev pub built_in_methods : List Method
built_in_methods =
    instance_methods 0 (0 ∷ 1 ∷ [])
    ++ instance_methods 1 (2 ∷ 3 ∷ 1 ∷ 4 ∷ 5 ∷ [])
    ++ instance_methods 2 (0 ∷ 6 ∷ 7 ∷ 8 ∷ 9 ∷ 10 ∷ 11 ∷ [])
    ++ instance_methods 3 (0 ∷ 12 ∷ 13 ∷ [])
    ++ constructors_of (4 ∷ 5 ∷ 6 ∷ 7 ∷ 8 ∷ 9 ∷ 10 ∷ 11 ∷ 12 ∷ 13 ∷ 14 ∷ 15 ∷ 16 ∷ 17 ∷ [])
    ++ static_methods 19 (14 ∷ 15 ∷ 16 ∷ 17 ∷ 18 ∷ 19 ∷ 20 ∷ 21 ∷ 22 ∷ [])
    ++ instance_methods 20 (23 ∷ 24 ∷ 25 ∷ 26 ∷ 27 ∷ 28 ∷ 29 ∷ 30 ∷ 31 ∷ 32 ∷ 33 ∷ 34 ∷ 35 ∷ [])
    ++ constructors_of (21 ∷ 22 ∷ 23 ∷ 24 ∷ 25 ∷ 26 ∷ [])

-- a selector
abbrev pub selector : List ℕ → List ℕ → Selector
selector name descriptor = record { name = name; descriptor = descriptor }

-- the selectors of the built-in methods
abbrev pub built_in_selectors : List Selector
built_in_selectors =
    selector (codes "<init>") (codes "()V")
    ∷ selector (codes "equals") (codes "(Ljava/lang/Object;)Z")
    ∷ selector (codes "length") (codes "()I")
    ∷ selector (codes "charAt") (codes "(I)C")
    ∷ selector (codes "hashCode") (codes "()I")
    ∷ selector (codes "concat") (codes "(Ljava/lang/String;)Ljava/lang/String;")
    ∷ selector (codes "append") (codes "(Ljava/lang/String;)Ljava/lang/StringBuilder;")
    ∷ selector (codes "append") (codes "(I)Ljava/lang/StringBuilder;")
    ∷ selector (codes "append") (codes "(J)Ljava/lang/StringBuilder;")
    ∷ selector (codes "append") (codes "(C)Ljava/lang/StringBuilder;")
    ∷ selector (codes "append") (codes "(Z)Ljava/lang/StringBuilder;")
    ∷ selector (codes "toString") (codes "()Ljava/lang/String;")
    ∷ selector (codes "<init>") (codes "(Ljava/lang/String;)V")
    ∷ selector (codes "getMessage") (codes "()Ljava/lang/String;")
    ∷ selector (codes "print") (codes "(Ljava/lang/String;)V")
    ∷ selector (codes "export") (codes "(Ljava/lang/Object;Ljava/lang/String;I)Ljx/Portal;")
    ∷ selector (codes "bind") (codes "(Ljava/lang/String;Ljx/Portal;)V")
    ∷ selector (codes "lookup") (codes "(Ljava/lang/String;)Ljx/Portal;")
    ∷ selector (codes "alloc") (codes "(I)Ljx/Memory;")
    ∷ selector (codes "spawn") (codes "(Ljava/lang/String;)I")
    ∷ selector (codes "kill") (codes "(I)V")
    ∷ selector (codes "exit") (codes "(I)V")
    ∷ selector (codes "pause") (codes "()V")
    ∷ selector (codes "size") (codes "()I")
    ∷ selector (codes "get8") (codes "(I)I")
    ∷ selector (codes "get16") (codes "(I)I")
    ∷ selector (codes "get32") (codes "(I)I")
    ∷ selector (codes "set8") (codes "(II)V")
    ∷ selector (codes "set16") (codes "(II)V")
    ∷ selector (codes "set32") (codes "(II)V")
    ∷ selector (codes "fill") (codes "(III)V")
    ∷ selector (codes "copy") (codes "(ILjx/Memory;II)V")
    ∷ selector (codes "sub") (codes "(II)Ljx/Memory;")
    ∷ selector (codes "split") (codes "(I)[Ljx/Memory;")
    ∷ selector (codes "revoke") (codes "()Ljx/Memory;")
    ∷ selector (codes "drop") (codes "()V") ∷ []

-- an instruction with one operand
abbrev pub instr : ℕ → ℕ → ℕ → Instr
instr pc opcode operand = record { pc = pc; opcode = opcode; wide = false; operands = pos operand ∷ [] }

-- the linked main method
abbrev pub hello_method : Method
hello_method =
    record {
      class = record { 0 = 27 };
      selector = record { 0 = 36 };
      flags = 9;
      code = Some hello_code;
      instrs = instr 0 0x12 9 ∷ instr 2 0xb8 15 ∷ record { pc = 5; opcode = 0xb1; wide = false; operands = [] } ∷ [];
    }

-- the linked class
abbrev pub hello_class : Class
hello_class =
    record (built_in_class (codes "Hello") (Some (record { 0 = 0 })) [] (record { flags = 9; selector = selector (codes "main") (codes "([Ljava/lang/String;)V") } ∷ [])) {
      constants = replicate 9 resolved.Unused ++ resolved.Str (codes "hi") ∷ replicate 5 resolved.Unused ++ resolved.Method 45 ∷ [];
    }

-- the linked program
abbrev pub hello_program : Program
hello_program =
    record {
      classes = built_in_table ++ hello_class ∷ array_class (codes "Ljava/lang/String;") ∷ array_class (codes "Ljx/Memory;") ∷ [];
      methods = built_in_methods ++ hello_method ∷ [];
      selectors = built_in_selectors ++ selector (codes "main") (codes "([Ljava/lang/String;)V") ∷ [];
    }

-- the linked system
abbrev pub hello_system : ℕ → System
hello_system fuel = record { plan = hello_plan fuel; program = hello_program }

-- ---- linking

pub hello_links : linked_system (hello_plan 1000000) (hello_file ∷ []) ≡ hello_system 1000000
unfolding digits opened_model
hello_links = refl

pub hello_is_good : first_link_fault (hello_plan 1000000) (hello_file ∷ []) ≡ None
unfolding digits opened_model
hello_is_good = refl

-- the file with another constant
abbrev pub with_constant : ℕ → Constant → ClassFile
with_constant i k = record hello_file { constants = edited i hello_constants }
  where
    edited : ℕ → List Constant → List Constant
    edited n [] = []
    edited zero (c ∷ cs) = k ∷ cs
    edited (suc n) (c ∷ cs) = c ∷ edited n cs

-- the first fault of that file
abbrev pub fault_of : ClassFile → Option LinkFault
fault_of f = first_link_fault (hello_plan 1000000) (f ∷ [])

missing_super : fault_of (with_constant 3 (constant.Utf8 (codes "java/lang/Objecu"))) ≡ Some (record { class = codes "Hello"; kind = NoClass; name = codes "java/lang/Objecu" })
unfolding digits opened_model
missing_super = refl

other_main : fault_of (record hello_file { methods = record hello_main { name = codes "mmin" } ∷ [] }) ≡ Some (record { class = codes "Hello"; kind = NoMain; name = codes "main" })
unfolding digits opened_model
other_main = refl

instance_main : fault_of (record hello_file { methods = record hello_main { flags = 1 } ∷ [] }) ≡ Some (record { class = codes "Hello"; kind = NoMain; name = codes "main" })
unfolding digits opened_model
instance_main = refl

missing_class : fault_of (with_constant 10 (constant.Utf8 (codes "jx/Zerp"))) ≡ Some (record { class = codes "Hello"; kind = NoClass; name = codes "jx/Zerp" })
unfolding digits opened_model
missing_class = refl

missing_method : fault_of (with_constant 12 (constant.Utf8 (codes "prins"))) ≡ Some (record { class = codes "Hello"; kind = NoMethod; name = codes "prins" })
unfolding digits opened_model
missing_method = refl

-- ldc of a Methodref
bad_constant : fault_of (record hello_file { methods = record hello_main { code = Some (record hello_code { code = 0x12 ∷ 0x0f ∷ 0xb8 ∷ 0x00 ∷ 0x0f ∷ 0xb1 ∷ [] }) } ∷ [] })
    ≡ Some (record { class = codes "Hello"; kind = BadConstant; name = codes "15" })
unfolding digits opened_model
bad_constant = refl

other_name : fault_of (with_constant 1 (constant.Utf8 (codes "Hullo"))) ≡ Some (record { class = codes "Hello"; kind = WrongName; name = codes "Hullo" })
unfolding digits opened_model
other_name = refl
