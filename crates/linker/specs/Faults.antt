-- Why class files aren't linked.
use Rattle.std.specs.Prelude.{List}
use Rattle.jx_base.specs.declared.class_file.ClassFile.{ClassFile}
use Rattle.jx_base.specs.declared.error.Error.{Error}
use Rattle.jx_base.specs.declared.error.Error.TheVariants as error
use Rattle.jx_base.specs.declared.program.Plan.{Plan}
use Rattle.link_model.specs.LinkFaults.{IsLinkFault}
use Rattle.link_model.specs.declared.fault.LinkFault.{LinkFault}

-- they have this first fault, or memory was refused
abbrev pub IsLinkErrorOf : Plan → List ClassFile → Error LinkFault → Type 0
IsLinkErrorOf plan files (error.Bad fault) = IsLinkFault plan files fault
IsLinkErrorOf plan files error.OutOfMemory = Unit {0}
