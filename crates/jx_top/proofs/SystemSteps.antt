-- From the plan and the classes of a file word to its system.
use Rattle.std.specs.Prelude.{◌≡◌, refl, ℕ, List, [], ◌∷◌, Option, Some, IfOk, Result, Ok, Err}
use Rattle.std.proofs.Common.{subst}
use Rattle.jx_base.specs.Files.{Files}
use Rattle.jx_base.specs.declared.class_file.ClassFile.{ClassFile}
use Rattle.jx_base.specs.declared.program.Plan.{Plan}
use Rattle.jx_base.specs.declared.program.System.{System}
use Rattle.link_model.specs.LinkFaults.{IsLinked}
use Rattle.system_text.specs.Description.{one_class_plan}
use Rattle.jx_top.specs.Commands.{IsFileOf}
use Rattle.jx_top.specs.Finding.{Finds, LinksFiles}
use Rattle.jx_top.specs.GotFiles.{IsGot, IsNotGot}
use Rattle.jx_top.specs.Outcomes.{Outcome}
use Rattle.jx_top.specs.ReadClasses.{IsReadClass}
use Rattle.jx_top.specs.Steps.{WasLinked}
use Rattle.jx_top.specs.Systems.{IsPlanOf, of_class, file_of_class, HaveClasses, HasRefusedClass, IsSystemOf, IsStopped, at_class, at_link}
use Rattle.jx_top.specs.declared.status.Status.{Status}
use Rattle.jx_top.specs.declared.status.Status.TheVariants as status
use Rattle.jx_top.proofs.OneStop.{GivesParts, stopped_by}
use Rattle.jx_top.proofs.SearchSteps.{Gets, class_refused}

-- ---- linking

-- where the shelf tells its files, they give that plan and those class files
abbrev pub HasParts : Option Files → List ℕ → Plan → List ClassFile → Type 0
HasParts told file plan classes = (files : Files) → told ≡ Some files → GivesParts files file plan classes

pub linked : (files : Files) (file : List ℕ) (plan : Plan) (classes : List ClassFile) (s : System) → GivesParts files file plan classes
    → IsLinked plan classes s → IsSystemOf files file s
linked files file plan classes s p h = record { plan = plan; of_file = p.of_file; classes = classes; have = p.have; linked = h }

-- linking stops the search
pub link_stops : {A : Type 0} (told : Option Files) (Found : Files → A → Type 0) (file : List ℕ) (plan : Plan) (classes : List ClassFile) (s : Status)
    → HasParts told file plan classes → LinksFiles plan classes (Err s) → Finds told Found (λ files o. IsStopped files file o) (Err s)
link_stops told Found file plan classes (status.BadLink f) parts h = (
  tt,
  λ files t. at_link f refl (record {
    plan = plan;
    of_file = (parts files t).of_file;
    classes = classes;
    have = (parts files t).have;
    fault = h;
  }),
)
link_stops told Found file plan classes status.OutOfMemory parts h = (tt, λ files t. tt)
link_stops told Found file plan classes _ parts h = absurd h

pub links : (told : Option Files) (file : List ℕ) (plan : Plan) (classes : List ClassFile) (r : Result System Status)
    → HasParts told file plan classes → LinksFiles plan classes r
    → Finds told (λ files system. IsSystemOf files file system) (λ files o. IsStopped files file o) r
links told file plan classes (Ok s) parts h = λ files t. linked files file plan classes s (parts files t) h
links told file plan classes (Err s) parts h =
    link_stops told (λ files system. IsSystemOf files file system) file plan classes s parts h

-- what is linked was linked
pub was_linked : (plan : Plan) (classes : List ClassFile) (r : Result System Status) → LinksFiles plan classes r → IfOk r WasLinked
was_linked plan classes (Ok s) h = record { plan = plan; classes = classes; linked = h }
was_linked plan classes (Err e) h = tt

-- ---- a class alone

pub class_parts : (told : Option Files) (file name bytes : List ℕ) (class : ClassFile) → IsFileOf file name → Gets told file bytes
    → IsReadClass bytes class → HasParts told file (one_class_plan name) (class ∷ [])
unfolding one_class_plan
class_parts told file name bytes class is got read = λ files t. record {
  of_file = of_class name is refl;
  have = (record { bytes = bytes; got = subst (λ (f : List ℕ). IsGot files f bytes) is.joined (got files t); read = read }, tt);
}

-- the file of the class isn't got
pub file_stops : (files : Files) (file name : List ℕ) (o : Outcome) → IsFileOf file name → IsNotGot files file o → IsStopped files file o
file_stops files file name o is p =
    stopped_by files file name o is (class_refused files name o (subst (λ (f : List ℕ). IsNotGot files f o) is.joined p))

-- the bytes of the class's file
pub class_gets : (told : Option Files) (file name bytes : List ℕ) → IsFileOf file name → Gets told file bytes → Gets told (file_of_class name) bytes
class_gets told file name bytes is got = λ files t. subst (λ (f : List ℕ). IsGot files f bytes) is.joined (got files t)

-- ---- a description

-- the classes of the plan stop the search
pub classes_stop : (files : Files) (file : List ℕ) (plan : Plan) (o : Outcome) → IsPlanOf files file plan → HasRefusedClass files plan.classes o
    → IsStopped files file o
classes_stop files file plan o of h = at_class (record { plan = plan; of_file = of; refused = h })

pub plan_parts : (told : Option Files) (file : List ℕ) (plan : Plan) (classes : List ClassFile)
    → ((files : Files) → told ≡ Some files → IsPlanOf files file plan)
    → ((files : Files) → told ≡ Some files → HaveClasses files plan.classes classes) → HasParts told file plan classes
plan_parts told file plan classes of have = λ files t. record { of_file = of files t; have = have files t }
