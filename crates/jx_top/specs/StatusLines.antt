-- What is said of a status.
use Rattle.std.specs.Prelude.{ℕ, List, [], ◌∷◌, length, codes, decimal, string_bytes}
use Rattle.jx_base.specs.Texts.{line}
use Rattle.jx_base.specs.declared.program.Plan.{Plan}
use Rattle.jx_base.specs.declared.fault.ClassKind.{ClassKind}
use Rattle.jx_base.specs.declared.fault.ClassKind.TheVariants as file
use Rattle.jx_base.specs.declared.fault.CodeKind.{CodeKind}
use Rattle.jx_base.specs.declared.fault.CodeKind.TheVariants as code
use Rattle.asm_lines.specs.declared.line.AsmKind.{AsmKind}
use Rattle.asm_lines.specs.declared.line.AsmKind.TheVariants as asm
use Rattle.link_model.specs.declared.fault.LinkFault.{LinkFault}
use Rattle.link_model.specs.declared.fault.LinkKind.{LinkKind}
use Rattle.link_model.specs.declared.fault.LinkKind.TheVariants as link
use Rattle.page_text.specs.Pieces.{shown}
use Rattle.system_text.specs.declared.fault.PlanFault.{PlanFault}
use Rattle.system_text.specs.declared.fault.PlanFault.TheVariants as plan
use Rattle.jx_top.specs.declared.defect.DefectKind.{DefectKind}
use Rattle.jx_top.specs.declared.defect.DefectKind.TheVariants as defect
use Rattle.jx_top.specs.declared.status.Status.{Status}
use Rattle.jx_top.specs.declared.status.Status.TheVariants as status

-- the numbers of the kinds of defects; those of code come behind those of files
abbrev pub class_kind_number : ClassKind → ℕ
class_kind_number file.Truncated = 1
class_kind_number file.Magic = 2
class_kind_number file.Version = 3
class_kind_number file.Tag = 4
class_kind_number file.Index = 5
class_kind_number file.Utf8 = 6
class_kind_number file.Descriptor = 7
class_kind_number file.Code = 8
class_kind_number file.Unsupported = 9
class_kind_number file.Trailing = 10

abbrev pub code_kind_number : CodeKind → ℕ
code_kind_number code.Opcode = 11
code_kind_number code.Truncated = 12
code_kind_number code.Target = 13
code_kind_number code.LeftOut = 14
code_kind_number code.BadWide = 15
code_kind_number code.BadRange = 16

abbrev pub kind_number : DefectKind → ℕ
kind_number (defect.File kind) = class_kind_number kind
kind_number (defect.Code kind) = code_kind_number kind

-- the numbers of the kinds of faults in a text
abbrev pub asm_kind_number : AsmKind → ℕ
asm_kind_number asm.Word = 1
asm_kind_number asm.Operand = 2
asm_kind_number asm.Label = 3
asm_kind_number asm.Twice = 4
asm_kind_number asm.Place = 5
asm_kind_number asm.Limit = 6

-- the line of a description with a fault of that number, and the key
abbrev pub key_line : ℕ → List ℕ → List ℕ
key_line n key = line (codes "jx: bad plan" ∷ decimal n ∷ shown key ∷ [])

-- the line of a description with a fault; there is no key where it is no TOML
abbrev pub plan_line : PlanFault → List ℕ
plan_line plan.NotToml = line (codes "jx: bad plan" ∷ decimal 1 ∷ [])
plan_line (plan.Missing key) = key_line 2 key
plan_line (plan.Kind key) = key_line 3 key
plan_line (plan.Range key) = key_line 4 key
plan_line (plan.Twice name) = key_line 5 name
plan_line (plan.Unknown key) = key_line 6 key

-- the numbers of the kinds of faults of linking
abbrev pub link_kind_number : LinkKind → ℕ
link_kind_number link.NoClass = 1
link_kind_number link.NoField = 2
link_kind_number link.NoMethod = 3
link_kind_number link.SuperLoop = 4
link_kind_number link.NoMain = 5
link_kind_number link.Twice = 6
link_kind_number link.Abstract = 7
link_kind_number link.BadConstant = 8
link_kind_number link.WrongName = 9

-- the line of a fault of linking
abbrev pub link_line : LinkFault → List ℕ
link_line f = line (codes "jx: bad link" ∷ shown f.class ∷ codes "kind" ∷ decimal (link_kind_number f.kind) ∷ shown f.name ∷ [])

-- the line of a status
abbrev pub status_text : Status → List ℕ
status_text status.Done = []
status_text status.Usage = line (codes "jx: usage" ∷ [])
status_text status.ShelfFault = line (codes "jx: shelf fault" ∷ [])
status_text (status.Missing n) = line (codes "jx: missing" ∷ string_bytes n ∷ [])
status_text (status.TooLong n) = line (codes "jx: too long" ∷ string_bytes n ∷ [])
status_text (status.BadPlan f) = plan_line f
status_text (status.BadClass n d) =
    line (codes "jx: bad class" ∷ string_bytes n ∷ codes "at" ∷ decimal d.at ∷ codes "kind" ∷ decimal (kind_number d.kind) ∷ [])
status_text (status.BadLink f) = link_line f
status_text (status.BadAsm f) = line (codes "jx: bad text line" ∷ decimal f.line ∷ codes "kind" ∷ decimal (asm_kind_number f.kind) ∷ [])
status_text status.SinkFault = line (codes "jx: sink fault" ∷ [])
status_text status.Halted = line (codes "jx: halted" ∷ [])
status_text (status.NotYet n) = line (codes "jx: not yet" ∷ string_bytes n ∷ [])
status_text status.OutOfMemory = line (codes "jx: out of memory" ∷ [])

-- what a check says of a plan: how many classes it has, and how many kinds of domains
abbrev pub counts_line : Plan → List ℕ
counts_line plan = line (codes "ok" ∷ decimal (length plan.classes) ∷ decimal (length plan.templates) ∷ [])

-- the number that the program ends with
abbrev pub status_number : Status → ℕ
status_number status.Done = 0
status_number status.Usage = 2
status_number status.ShelfFault = 3
status_number (status.Missing n) = 4
status_number (status.BadPlan f) = 5
status_number (status.BadClass n d) = 6
status_number (status.BadLink f) = 7
status_number status.SinkFault = 8
status_number status.Halted = 9
status_number (status.BadAsm f) = 10
status_number (status.TooLong n) = 17
status_number status.OutOfMemory = 70
status_number (status.NotYet n) = 99
