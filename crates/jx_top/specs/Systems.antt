-- The system that the shelf's files give a file word, or the first thing that stops it.
use Rattle.std.specs.Prelude.{◌≡◌, ℕ, List, [], ◌∷◌, ◌++◌, codes}
use Rattle.jx_base.specs.Files.{Files}
use Rattle.jx_base.specs.declared.class_file.ClassFile.{ClassFile}
use Rattle.jx_base.specs.declared.program.Plan.{Plan}
use Rattle.jx_base.specs.declared.program.System.{System}
use Rattle.link_model.specs.LinkFaults.{IsLinked, IsLinkFault}
use Rattle.link_model.specs.declared.fault.LinkFault.{LinkFault}
use Rattle.system_text.specs.Description.{Describes, IsPlanFault, one_class_plan}
use Rattle.system_text.specs.declared.fault.PlanFault.{PlanFault}
use Rattle.jx_top.specs.Commands.{EndsInClass, IsFileOf}
use Rattle.jx_top.specs.GotFiles.{IsGot, IsNotGot}
use Rattle.jx_top.specs.Outcomes.{Outcome}
use Rattle.jx_top.specs.Outcomes as outcome
use Rattle.jx_top.specs.ReadClasses.{IsReadClass, IsBadClass}
use Rattle.jx_top.specs.declared.defect.Defect.{Defect}

-- the plan of the file word: of a word `X.class` that of the class alone, else the one that the file describes
pub data IsPlanOf (files : Files) (file : List ℕ) (plan : Plan) : Type 0 where
  of_class : (name : List ℕ) → IsFileOf file name → plan ≡ one_class_plan name → IsPlanOf files file plan
  of_text : (bytes : List ℕ) → (EndsInClass file → ⊥) → IsGot files file bytes → Describes bytes plan → IsPlanOf files file plan

-- the file is got, and describes no plan
pub record HasBadPlan (files : Files) (file : List ℕ) (f : PlanFault) : Type 0 where
  pub no_class : EndsInClass file → ⊥
  pub bytes : List ℕ
  pub got : IsGot files file bytes
  pub fault : IsPlanFault bytes f

-- the file of a description isn't got, and the outcome says so
pub record HasNoText (files : Files) (file : List ℕ) (o : Outcome) : Type 0 where
  pub no_class : EndsInClass file → ⊥
  pub not_got : IsNotGot files file o

-- there is no plan of the file word, and the outcome says so
abbrev pub IsPlanRefused : Files → List ℕ → Outcome → Type 0
IsPlanRefused files file (outcome.BadPlan f) = HasBadPlan files file f
IsPlanRefused files file o = HasNoText files file o

-- the file of a class
abbrev pub file_of_class : List ℕ → List ℕ
file_of_class name = name ++ codes ".class"

-- the class of that name is got, and read with the code of its methods
pub record HasClass (files : Files) (name : List ℕ) (class : ClassFile) : Type 0 where
  pub bytes : List ℕ
  pub got : IsGot files (file_of_class name) bytes
  pub read : IsReadClass bytes class

-- the same of each of those names, in order
abbrev pub HaveClasses : Files → List (List ℕ) → List ClassFile → Type 0
HaveClasses files [] [] = Unit {0}
HaveClasses files (name ∷ names) (class ∷ classes) = HasClass files name class × HaveClasses files names classes
HaveClasses files _ _ = ⊥

-- the class of that name is got, and isn't read
pub record HasBadClass (files : Files) (name : List ℕ) (d : Defect) : Type 0 where
  pub bytes : List ℕ
  pub got : IsGot files (file_of_class name) bytes
  pub bad : IsBadClass bytes d

-- the class of that name isn't got or isn't read, and the outcome says so
abbrev pub IsClassRefused : Files → List ℕ → Outcome → Type 0
IsClassRefused files name (outcome.BadClass n d) = (n ≡ name) × HasBadClass files name d
IsClassRefused files name o = IsNotGot files (file_of_class name) o

-- of those names the first whose class isn't got and read is refused so
pub record HasRefusedClass (files : Files) (names : List (List ℕ)) (o : Outcome) : Type 0 where
  pub before : List (List ℕ)
  pub name : List ℕ
  pub after : List (List ℕ)
  pub parts : names ≡ before ++ name ∷ after
  pub classes : List ClassFile
  pub accepted : HaveClasses files before classes
  pub refused : IsClassRefused files name o

-- the system of the file word: its plan, and the classes that it names, linked
pub record IsSystemOf (files : Files) (file : List ℕ) (system : System) : Type 0 where
  pub plan : Plan
  pub of_file : IsPlanOf files file plan
  pub classes : List ClassFile
  pub have : HaveClasses files plan.classes classes
  pub linked : IsLinked plan classes system

-- there is such a system
abbrev pub HasSystem : Files → List ℕ → Type 0
HasSystem files file = (system : System) × IsSystemOf files file system

-- the classes of the plan are got and read, and have that first fault of linking
pub record HasBadLink (files : Files) (file : List ℕ) (f : LinkFault) : Type 0 where
  pub plan : Plan
  pub of_file : IsPlanOf files file plan
  pub classes : List ClassFile
  pub have : HaveClasses files plan.classes classes
  pub fault : IsLinkFault plan classes f

-- a class of the plan isn't got and read: the first such one
pub record HasNoClass (files : Files) (file : List ℕ) (o : Outcome) : Type 0 where
  pub plan : Plan
  pub of_file : IsPlanOf files file plan
  pub refused : HasRefusedClass files plan.classes o

-- There is none, and the outcome says what stops it: the description, the first class that isn't got and read, or the first fault of linking.
pub data IsStopped (files : Files) (file : List ℕ) (o : Outcome) : Type 0 where
  at_plan : IsPlanRefused files file o → IsStopped files file o
  at_class : HasNoClass files file o → IsStopped files file o
  at_link : (f : LinkFault) → o ≡ outcome.BadLink f → HasBadLink files file f → IsStopped files file o
