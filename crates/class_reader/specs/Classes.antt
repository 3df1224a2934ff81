-- What a reader of class files answers.
use Rattle.std.specs.Prelude.{◌≡◌, ℕ, List, Result, Ok, Err}
use Rattle.class_grammar.specs.ClassGrammar.{Version, IsClassFault}
use Rattle.class_grammar.specs.ClassGrammar as grammar
use Rattle.class_grammar.specs.Constants.{class_fault}
use Rattle.jx_base.specs.declared.class_file.ClassFile.{ClassFile}
use Rattle.jx_base.specs.declared.fault.ClassFault.{ClassFault}
use Rattle.jx_base.specs.declared.fault.ClassKind.{ClassKind}
use Rattle.class_reader.specs.declared.class.Heading.{Heading}
use Rattle.jx_base.specs.declared.error.Error.{Error}
use Rattle.jx_base.specs.declared.error.Error.TheVariants as error

abbrev pub version : ℕ → ℕ → Version
version minor major = record { minor = minor; major = major }

abbrev pub heading : Heading → grammar.Heading
heading h = record { flags = h.flags; this_class = h.this_class; super_class = h.super_class; interfaces = h.interfaces }

-- the bytes are no class file, and this is their first fault; or memory ran out
abbrev pub IsFaultOf : List ℕ → Error ClassFault → Type 0
IsFaultOf bytes error.OutOfMemory = Unit {0}
IsFaultOf bytes (error.Bad f) = IsClassFault bytes f.at f.kind

-- the answer is this class file, or memory ran out
abbrev pub IsReadAs : ClassFile → Result ClassFile (Error ClassFault) → Type 0
IsReadAs file (Ok found) = found ≡ file
IsReadAs file (Err (error.Bad f)) = ⊥
IsReadAs file (Err error.OutOfMemory) = Unit {0}

-- the answer is this fault, or memory ran out
abbrev pub IsRefusedFor : ℕ → ClassKind → Result ClassFile (Error ClassFault) → Type 0
IsRefusedFor at kind (Ok found) = ⊥
IsRefusedFor at kind (Err (error.Bad f)) = f ≡ class_fault at kind
IsRefusedFor at kind (Err error.OutOfMemory) = Unit {0}
