-- What the files give a file word: one system at most, or one stop.
use Rattle.std.specs.Prelude.{◌≡◌, refl, ℕ, List, [], Some, None}
use Rattle.std.proofs.Common.{sym, ◌∙◌, ap, ap₂, subst}
use Rattle.jx_base.specs.Files.{Files}
use Rattle.jx_base.specs.declared.class_file.ClassFile.{ClassFile}
use Rattle.jx_base.specs.declared.program.Plan.{Plan}
use Rattle.jx_base.specs.declared.program.System.{System}
use Rattle.link_model.specs.LinkFaults.{first_link_fault}
use Rattle.link_model.specs.declared.fault.LinkFault.{LinkFault}
use Rattle.system_text.specs.Description.{one_class_plan}
use Rattle.jx_top.specs.Commands.{IsFileOf}
use Rattle.jx_top.specs.Outcomes.{Outcome}
use Rattle.jx_top.specs.Outcomes as outcome
use Rattle.jx_top.specs.Systems.{IsPlanOf, of_class, HaveClasses, IsClassRefused, HasRefusedClass, HasNoClass, HasBadLink, IsSystemOf, HasSystem, IsStopped, at_plan, at_class, at_link}
use Rattle.jx_top.proofs.OneClasses.{one_classes, classes_or_refused, one_refused_class}
use Rattle.jx_top.proofs.OnePlan.{one_plan, plan_or_refused, one_plan_refused}

-- the file word gives that plan, and those class files of its classes
pub record GivesParts (files : Files) (file : List ℕ) (plan : Plan) (classes : List ClassFile) : Type 0 where
  pub of_file : IsPlanOf files file plan
  pub have : HaveClasses files plan.classes classes

-- what is computed of the two is one
pub one_of_parts : {A : Type 0} (f : Plan → List ClassFile → A) (files : Files) (file : List ℕ) (p q : Plan) (cs ds : List ClassFile)
    → GivesParts files file p cs → GivesParts files file q ds → f p cs ≡ f q ds
one_of_parts f files file p q cs ds a b =
    let plan = one_plan files file p q a.of_file b.of_file in
    let have = subst (λ (x : Plan). HaveClasses files x.classes cs) plan a.have in
    ap₂ f plan (one_classes files q.classes cs ds have b.have)

-- ---- stops

-- a class that isn't got and read stops the file
pub stopped_by : (files : Files) (file name : List ℕ) (o : Outcome) → IsFileOf file name → IsClassRefused files name o → IsStopped files file o
unfolding one_class_plan
stopped_by files file name o is_file_of refused =
    at_class (record {
      plan = one_class_plan name;
      of_file = of_class name is_file_of refl;
      refused = record { before = []; name = name; after = []; parts = refl; classes = []; accepted = tt; refused = refused };
    })

parts_or_no_class : (files : Files) (file : List ℕ) (plan : Plan) (classes : List ClassFile) (o : Outcome)
    → GivesParts files file plan classes → HasNoClass files file o → ⊥
parts_or_no_class files file plan classes o p q =
    let same = one_plan files file plan q.plan p.of_file q.of_file in
    classes_or_refused files q.plan.classes classes o (subst (λ (x : Plan). HaveClasses files x.classes classes) same p.have) q.refused

one_no_class : (files : Files) (file : List ℕ) (a b : Outcome) → HasNoClass files file a → HasNoClass files file b → a ≡ b
one_no_class files file a b p q =
    let same = one_plan files file p.plan q.plan p.of_file q.of_file in
    one_refused_class files q.plan.classes a b (subst (λ (x : Plan). HasRefusedClass files x.classes a) same p.refused) q.refused

parts_of_bad_link : (files : Files) (file : List ℕ) (f : LinkFault) (p : HasBadLink files file f) → GivesParts files file p.plan p.classes
parts_of_bad_link files file f p = record { of_file = p.of_file; have = p.have }

one_link_fault : (files : Files) (file : List ℕ) (f g : LinkFault) → HasBadLink files file f → HasBadLink files file g → f ≡ g
one_link_fault files file f g p q =
    let same = one_of_parts first_link_fault files file p.plan q.plan p.classes q.classes (parts_of_bad_link files file f p) (parts_of_bad_link files file g q) in
    let both : Some f ≡ Some g = sym p.fault.first ∙ same ∙ q.fault.first in
    cc

pub one_stop : (files : Files) (file : List ℕ) (a b : Outcome) → IsStopped files file a → IsStopped files file b → a ≡ b
one_stop files file a b (at_plan p) (at_plan q) = one_plan_refused files file a b p q
one_stop files file a b (at_plan p) (at_class q) = absurd (plan_or_refused files file q.plan a q.of_file p)
one_stop files file a b (at_plan p) (at_link g is q) = absurd (plan_or_refused files file q.plan a q.of_file p)
one_stop files file a b (at_class p) (at_plan q) = absurd (plan_or_refused files file p.plan b p.of_file q)
one_stop files file a b (at_class p) (at_class q) = one_no_class files file a b p q
one_stop files file a b (at_class p) (at_link g is q) =
    absurd (parts_or_no_class files file q.plan q.classes a (parts_of_bad_link files file g q) p)
one_stop files file a b (at_link f is p) (at_plan q) = absurd (plan_or_refused files file p.plan b p.of_file q)
one_stop files file a b (at_link f is p) (at_class q) =
    absurd (parts_or_no_class files file p.plan p.classes b (parts_of_bad_link files file f p) q)
one_stop files file a b (at_link f is p) (at_link g same q) = is ∙ ap outcome.BadLink (one_link_fault files file f g p q) ∙ sym same

-- ---- systems

pub parts_of_system : (files : Files) (file : List ℕ) (s : System) (p : IsSystemOf files file s) → GivesParts files file p.plan p.classes
parts_of_system files file s p = record { of_file = p.of_file; have = p.have }

system_or_bad_link : (files : Files) (file : List ℕ) (s : System) (f : LinkFault) → IsSystemOf files file s → HasBadLink files file f → ⊥
system_or_bad_link files file s f p q =
    let same = one_of_parts first_link_fault files file p.plan q.plan p.classes q.classes
    (parts_of_system files file s p) (parts_of_bad_link files file f q) in
    let none : None ≡ Some f = sym p.linked.no_fault ∙ same ∙ q.fault.first in
    absurd (cc)

-- a file word that has a system isn't stopped
pub system_or_stop : (files : Files) (file : List ℕ) (o : Outcome) → HasSystem files file → IsStopped files file o → ⊥
system_or_stop files file o h (at_plan q) = plan_or_refused files file h.1.plan o h.1.of_file q
system_or_stop files file o h (at_class q) = parts_or_no_class files file h.1.plan h.1.classes o (parts_of_system files file h.0 h.1) q
system_or_stop files file o h (at_link f is q) = system_or_bad_link files file h.0 f h.1 q
