-- The instructions of methods.
use Rattle.std.specs.Prelude.{ℕ, List, [], Option, Some, None, slice_get}
use Rattle.jx_base.specs.declared.class_file.ClassFile.{ClassFile}
use Rattle.jx_base.specs.declared.class_file.Code.{Code}
use Rattle.jx_base.specs.declared.class_file.Instr.{Instr}
use Rattle.jx_base.specs.declared.class_file.Member.{Member}
use Rattle.program_model.specs.Instructions.{instructions_of}

-- the instructions of code, where there is any
abbrev pub instructions_of_code : Option Code → List Instr
instructions_of_code None = []
instructions_of_code (Some x) = instructions_of x.code

-- the instructions of a method
abbrev pub instructions_of_member : Member → List Instr
instructions_of_member m = instructions_of_code m.code

-- those of the method at a place of a file, none where there is no such method
abbrev pub instructions_at : ClassFile → ℕ → List Instr
instructions_at f i = elim (slice_get f.methods i) [ None ↦ [] | Some m ↦ instructions_of_member m ]
