-- The instructions of a linked system are read from its code.
use Rattle.std.proofs.Common.{◌≡◌, List, Option, Some, ap, subst}
use Rattle.std.specs.Prelude.{Contains, IfSome}
use Rattle.std.specs.Option.{option_map}
use Rattle.jx_base.specs.declared.class_file.ClassFile.{ClassFile}
use Rattle.jx_base.specs.declared.class_file.Code.{Code}
use Rattle.jx_base.specs.declared.class_file.Instr.{Instr}
use Rattle.jx_base.specs.declared.program.Plan.{Plan}
use Rattle.jx_base.specs.declared.program.System.{System}
use Rattle.program_model.specs.Instructions.{Reading, instruction_at}
use Rattle.link_model.specs.LinkFaults.{IsLinked}
use Rattle.link_laws.specs.Methods.{IsCodeOf}
use Rattle.link_laws.proofs.Whole.{methods_hold}
use Rattle.machine_steps.specs.Stepping.{AreListed}

-- each instruction that code is made of is read from it at its place
pub instruction_read : (c : Code) (instrs : List Instr) (i : Instr) → IsCodeOf c instrs → Contains instrs i → option_map (λ r. r.instr) (instruction_at c.code i.pc) ≡ Some i
instruction_read c instrs i of there = ap (option_map (λ (r : Reading). r.instr)) (of.reads i there).1

-- so it is of each instruction that a linked system has of a method
pub linked_listed : (plan : Plan) (files : List ClassFile) (s : System) → IsLinked plan files s → AreListed s
linked_listed plan files s from m x c i at code there =
    instruction_read c x.instrs i (subst (λ (o : Option Code). IfSome o (λ d. IsCodeOf d x.instrs)) code ((methods_hold plan files s from).whole m x at).instructions) there
