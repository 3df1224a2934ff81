-- Small linked systems, and the texts that computed cases compare.
use Rattle.std.specs.Prelude.{ℕ, zero, suc, List, [], ◌∷◌, ◌++◌, Some, None, codes}
use Rattle.jx_base.specs.declared.act.Entry.{Entry}
use Rattle.jx_base.specs.declared.act.History.{History}
use Rattle.jx_base.specs.declared.class_file.Code.{Code}
use Rattle.jx_base.specs.declared.program.Class.{Class}
use Rattle.jx_base.specs.declared.program.Field.{Field}
use Rattle.jx_base.specs.declared.program.Method.{Method}
use Rattle.jx_base.specs.declared.program.System.{System}
use Rattle.jx_model.specs.SingleWorker.{single_worker_history}
use Rattle.audit_model.specs.AuditText.{audit_text}

-- ---- texts

-- the history of these entries
abbrev pub history_of : List Entry → History
history_of entries = record { entries = entries }

-- lines of text
abbrev pub texts : List (List ℕ) → List ℕ
texts [] = []
texts (l ∷ ls) = l ++ 10 ∷ texts ls

-- the audit of one worker's run
abbrev pub audit_of : System → List ℕ
audit_of s = audit_text s (history_of (single_worker_history s))

-- ---- classes and methods

-- a class without members
abbrev pub class_of : List ℕ → ℕ → Class
class_of name parent =
    record {
      name = name;
      parent = Some (record { 0 = parent });
      interfaces = [];
      component = None;
      fields = [];
      statics = [];
      methods = [];
      flags = 0x0021;
      constants = [];
    }

-- the class without a super
abbrev pub object : Class
object = record (class_of (codes "java/lang/Object") 0) { parent = None }

-- the class of arrays of that type
abbrev pub array_of : List ℕ → Class
array_of type = record (class_of (91 ∷ type) 0) { component = Some type; flags = 0 }

-- the built-in classes
abbrev pub built_in : List Class
built_in =
    object
    ∷ class_of (codes "java/lang/String") 0
    ∷ class_of (codes "java/lang/StringBuilder") 0
    ∷ class_of (codes "java/lang/Throwable") 0
    ∷ class_of (codes "java/lang/Exception") 3
    ∷ class_of (codes "java/lang/RuntimeException") 4
    ∷ class_of (codes "java/lang/ArithmeticException") 5
    ∷ class_of (codes "java/lang/NullPointerException") 5
    ∷ class_of (codes "java/lang/IndexOutOfBoundsException") 5
    ∷ class_of (codes "java/lang/ArrayIndexOutOfBoundsException") 8
    ∷ class_of (codes "java/lang/StringIndexOutOfBoundsException") 8
    ∷ class_of (codes "java/lang/NegativeArraySizeException") 5
    ∷ class_of (codes "java/lang/ClassCastException") 5
    ∷ class_of (codes "java/lang/ArrayStoreException") 5
    ∷ class_of (codes "java/lang/Error") 3
    ∷ class_of (codes "java/lang/VirtualMachineError") 14
    ∷ class_of (codes "java/lang/OutOfMemoryError") 15
    ∷ class_of (codes "java/lang/StackOverflowError") 15
    ∷ class_of (codes "jx/Portal") 0
    ∷ class_of (codes "jx/Zero") 0
    ∷ class_of (codes "jx/Memory") 0
    ∷ class_of (codes "jx/CopyException") 5
    ∷ class_of (codes "jx/EndedException") 5
    ∷ class_of (codes "jx/RevokedException") 5
    ∷ class_of (codes "jx/DroppedException") 5
    ∷ class_of (codes "jx/RangeException") 5
    ∷ class_of (codes "jx/RefusedException") 5
    ∷ []

-- the field of a StringBuilder
abbrev pub builder_fields : List Field
builder_fields = record { owner = record { 0 = 2 }; name = codes "text"; descriptor = codes "Ljava/lang/String;" } ∷ []

-- these classes, where class n has the field of a StringBuilder
abbrev pub with_builder : ℕ → List Class → List Class
with_builder n [] = []
with_builder zero (k ∷ ks) = record k { fields = builder_fields } ∷ ks
with_builder (suc n) (k ∷ ks) = k ∷ with_builder n ks

-- the built-in classes with the field of StringBuilder
abbrev pub built_in_full : List Class
built_in_full = with_builder 2 built_in

-- code of these bytes, with so much stack and so many locals
abbrev pub code_of : ℕ → ℕ → List ℕ → Code
code_of stack locals bytes = record { max_stack = stack; max_locals = locals; at = 0; code = bytes; table = [] }

-- a method without code
abbrev pub native_in : ℕ → ℕ → ℕ → Method
native_in c selector flags = record { class = record { 0 = c }; selector = record { 0 = selector }; flags = flags; code = None; instrs = [] }

-- a method with code
abbrev pub method_in : ℕ → ℕ → ℕ → Code → Method
method_in c selector flags code = record { class = record { 0 = c }; selector = record { 0 = selector }; flags = flags; code = Some code; instrs = [] }

-- aload_0; the constructor at that constant; return
abbrev pub plain_init : ℕ → List ℕ
plain_init i = 0x2a ∷ 0xb7 ∷ 0 ∷ i ∷ 0xb1 ∷ []
