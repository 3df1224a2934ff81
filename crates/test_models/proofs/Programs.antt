-- A linked system for small programs, and the entries of their domain.
use Rattle.std.specs.Prelude.{None, List, Option, Some, [], codes, pos, replicate, true, ℕ, ℤ, ◌++◌, ◌∷◌}
use Rattle.jx_base.specs.declared.act.Act.{Act}
use Rattle.jx_base.specs.declared.act.Reply.{Reply}
use Rattle.jx_base.specs.declared.act.Entry.{Entry}
use Rattle.jx_base.specs.declared.class_file.Code.{Code}
use Rattle.jx_base.specs.declared.ids.ClassId.{ClassId}
use Rattle.jx_base.specs.declared.program.Class.{Class}
use Rattle.jx_base.specs.declared.program.Field.{Field}
use Rattle.jx_base.specs.declared.program.Method.{Method}
use Rattle.jx_base.specs.declared.program.Resolved.{Resolved}
use Rattle.jx_base.specs.declared.program.Resolved.TheVariants as resolved
use Rattle.jx_base.specs.declared.program.System.{System}
use Rattle.program_model.specs.BuiltIn.{built_in_table, built_in_class, array_class}
use Rattle.machine_model.specs.Machine.{NextAct, Does, next_act}
use Rattle.test_models.proofs.Hello.{hello_class, hello_method, hello_system, built_in_methods, built_in_selectors, selector}
use Rattle.jx_base.specs.declared.act.Act.TheVariants as act
use Rattle.jx_base.specs.declared.act.Reply.TheVariants as reply
use Rattle.jx_base.specs.declared.act.Reason.TheVariants as reason
use Rattle.jx_base.specs.declared.value.Node.{Node}
use Rattle.jx_base.specs.declared.value.Word.{Word}
use Rattle.jx_base.specs.declared.value.Word.TheVariants as word

-- a class id
abbrev pub class : ℕ → ClassId
class n = record { 0 = n }

-- ---- constants, classes and methods

-- the constants of the main class
abbrev pub constants : List Resolved
constants =
    resolved.Unused ∷ resolved.Str (codes "hi") ∷ resolved.Method 45 ∷ resolved.Method 52 ∷ resolved.Class (class 2) ∷
    resolved.Class (class 1) ∷ resolved.Method 3 ∷ resolved.Class (class 6) ∷ resolved.Class (class 10) ∷ resolved.Method 49 ∷
    resolved.Method 54 ∷ resolved.Method 7 ∷ resolved.Method 9 ∷ resolved.Method 13 ∷ resolved.Method 2 ∷ resolved.Method 4 ∷
    resolved.Method 5 ∷ resolved.Method 6 ∷ resolved.Method 80 ∷ resolved.Class (class 30) ∷ resolved.Class (class 31) ∷
    resolved.Method 48 ∷ resolved.Method 10 ∷ resolved.Long (pos 7) ∷ resolved.Int (pos 70000) ∷ resolved.Method 11 ∷
    resolved.Method 12 ∷ resolved.Method 15 ∷ resolved.Method 16 ∷ resolved.Instance (class 31) 0 ∷
    resolved.Instance (class 31) 1 ∷ resolved.Class (class 32) ∷ resolved.Class (class 33) ∷ resolved.Method 81 ∷
    resolved.Method 82 ∷ resolved.Method 8 ∷ resolved.Static (class 31) 0 ∷ resolved.Method 55 ∷ resolved.Method 83 ∷
    resolved.Method 46 ∷ resolved.Method 53 ∷ resolved.Method 64 ∷ resolved.Method 61 ∷ resolved.Method 51 ∷ resolved.Class (class 34) ∷ resolved.Class (class 35)
    ∷ resolved.Method 1
    ∷ resolved.Method 50
    ∷ resolved.Method 47
    ∷ resolved.Method 56
    ∷ resolved.Method 57
    ∷ resolved.Method 58
    ∷ resolved.Method 59
    ∷ resolved.Method 60
    ∷ resolved.Method 62
    ∷ resolved.Method 63
    ∷ resolved.Method 65
    ∷ resolved.Method 66
    ∷ resolved.Str (codes "h i")
    ∷ []

-- a class of the program
abbrev pub plain_class : List ℕ → ℕ → List ℕ → List Field → Class
plain_class name parent interfaces fields =
    record (built_in_class name (Some (class parent)) fields []) { interfaces = ids interfaces }
  where
    ids : List ℕ → List ClassId
    ids [] = []
    ids (i ∷ is) = class i ∷ ids is

-- a field of a class
abbrev pub field : ℕ → List ℕ → List ℕ → Field
field owner name descriptor = record { owner = class owner; name = name; descriptor = descriptor }

-- class 30 is int[], 31 a class Point with two fields and a static one, 32 int[][], 33 an interface Poke, 34 a class that is neither, 35 int[][][], 36 to 40 are arrays of byte, char, short, long and boolean
abbrev pub more_classes : List Class
more_classes =
    array_class (codes "I")
    ∷ record (plain_class (codes "Point") 0 [] (field 31 (codes "b") (codes "B") ∷ field 31 (codes "s") (codes "Ljava/lang/String;") ∷ [])) {
      statics = field 31 (codes "n") (codes "S") ∷ [];
    }
    ∷ array_class (codes "[I")
    ∷ record (plain_class (codes "Poke") 0 [] []) { flags = 0x0601 }
    ∷ plain_class (codes "Other") 0 (33 ∷ []) []
    ∷ array_class (codes "[[I")
    ∷ array_class (codes "B")
    ∷ array_class (codes "C")
    ∷ array_class (codes "S")
    ∷ array_class (codes "J")
    ∷ array_class (codes "Z")
    ∷ []

-- code with so much stack and so many locals
abbrev pub code_of : ℕ → ℕ → List ℕ → Code
code_of stack locals bytes = record { max_stack = stack; max_locals = locals; at = 0; code = bytes; table = [] }

-- a method of a class, with that selector
abbrev pub method_of : ℕ → ℕ → ℕ → Option Code → Method
method_of flags c selector code = record { class = class c; selector = record { 0 = selector }; flags = flags; code = code; instrs = [] }

-- the main class with that code, and these methods behind it; selector 37 is poke, 38 has an int, 39 gives an int, 40 gives a text, 41 is that of initialisers, 42 takes a Poke, 43 takes an interface named hi, 44 gives a Poke
abbrev pub program_with : ℕ → ℕ → Code → List Method → System
program_with heap fuel code methods =
    record {
      plan = record (hello_system fuel).plan {
        templates = record { name = codes "main"; main = 0; classes = 0 ∷ []; heap = heap; fuel = fuel; boot = true } ∷ [];
      };
      program = record {
        classes = built_in_table ++ record hello_class { constants = constants } ∷ array_class (codes "Ljava/lang/String;") ∷ array_class (codes "Ljx/Memory;") ∷ more_classes;
        methods = built_in_methods ++ record hello_method { code = Some code } ∷ methods;
        selectors = built_in_selectors
            ++ selector (codes "main") (codes "([Ljava/lang/String;)V")
            ∷ selector (codes "poke") (codes "()V")
            ∷ selector (codes "take") (codes "(I)V")
            ∷ selector (codes "give") (codes "()I")
            ∷ selector (codes "text") (codes "()Ljava/lang/String;")
            ∷ selector (codes "<clinit>") (codes "()V")
            ∷ selector (codes "use") (codes "(LPoke;)V")
            ∷ selector (codes "serve") (codes "(Lhi;)V")
            ∷ selector (codes "offer") (codes "()LPoke;")
            ∷ [];
      };
    }

-- a main with so much stack and one local, in a heap of 64 cells
abbrev pub main_of : ℕ → List ℕ → System
main_of stack bytes = program_with 64 100 (code_of stack 1 bytes) []

-- the same with more methods
abbrev pub main_with : ℕ → List ℕ → List Method → System
main_with stack bytes methods = program_with 64 100 (code_of stack 1 bytes) methods

-- ---- entries

-- an entry of domain 1
abbrev pub entry : ℕ → Act → Reply → Entry
entry thread a r = record { domain = record { 0 = 1 }; thread = record { 0 = thread }; act = a; reply = r }

-- what the domain does first
abbrev pub first_act : System → NextAct
first_act s = next_act s 0 []

-- what the domain does after these entries, the newest first
abbrev pub then_act : System → List Entry → NextAct
then_act s own = next_act s 0 own

-- ---- outcomes

-- the end of thread 0 by an exception of that class
abbrev pub ends_with : ℕ → NextAct
ends_with c = Does (act.EndThread (Some (class c)))

-- the end of thread 0
abbrev pub ends : NextAct
ends = Does (act.EndThread None)

-- the end by bad code
abbrev pub bad_code : NextAct
bad_code = Does (act.End reason.BadCode)

-- the end for want of fuel
abbrev pub no_fuel : NextAct
no_fuel = Does (act.End reason.Fuel)

-- the exit with that code
abbrev pub exits : ℤ → NextAct
exits n = Does (act.Exit n)

-- a thread of a service throws an exception of that class to its caller
abbrev pub throws : ℕ → NextAct
throws c = Does (act.Throw (record { 0 = 1 }) (record { roots = word.Node 0 ∷ []; nodes = record { class = class c; cells = word.Null ∷ [] } ∷ [] }))

-- the method of the interface, which gives an int
abbrev pub interface_method : Method
interface_method = method_of 0x0401 33 39 None

-- the entries of a service whose main has ended, with the take of a call of that selector
abbrev pub after_take : ℕ → List Word → List Node → List Entry
after_take method roots nodes =
    entry 1 (act.Take (record { 0 = 1 })) (reply.Job (record { 0 = 1 }) (record { 0 = method }) (record { roots = roots; nodes = nodes }))
    ∷ entry 0 (act.EndThread None) reply.Done
    ∷ entry 0 (act.Export (class 33) 1) (reply.Service (record { 0 = 1 }) (class 33)) ∷ []

-- sixty cells
abbrev pub sixty : List Word
sixty = replicate 60 (word.Int (pos 1))
