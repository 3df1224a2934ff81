-- A file is got in one way or not got in one way, and a file word has one plan or one refusal of it.
use Rattle.std.specs.Prelude.{◌≡◌, refl, ℕ, ◌<◌, ◌⊎◌, List, length, Option, Some, None, IsSomeAnd, codes}
use Rattle.std.proofs.Common.{sym, ◌∙◌, ap, subst, arith, inl, inr}
use Rattle.std.proofs.lemmas.List.{append_cancel_right}
use Rattle.jx_base.specs.Files.{Files, HasLongFile, longest_file}
use Rattle.jx_base.specs.declared.program.Plan.{Plan}
use Rattle.system_text.specs.Description.{Describes, IsPlanFault, one_class_plan}
use Rattle.system_text.specs.declared.fault.PlanFault.{PlanFault}
use Rattle.system_text.proofs.Readings.{plan_same, plan_without_fault, fault_same}
use Rattle.jx_top.specs.Commands.{IsFileOf}
use Rattle.jx_top.specs.GotFiles.{IsGot, IsNotGot}
use Rattle.jx_top.specs.Outcomes.{Outcome}
use Rattle.jx_top.specs.Outcomes as outcome
use Rattle.jx_top.specs.Systems.{IsPlanOf, of_class, of_text, HasBadPlan, HasNoText, IsPlanRefused}

-- ---- files

pub one_got : (files : Files) (file a b : List ℕ) → IsGot files file a → IsGot files file b → a ≡ b
one_got files file a b p q = let both : Some a ≡ Some b = sym p.found ∙ q.found in cc

not_long : (files : Files) (file bytes : List ℕ) → IsGot files file bytes → HasLongFile files file → ⊥
not_long files file bytes p long =
    let P : Option (List ℕ) → Type 0 = λ o. IsSomeAnd o (λ b. longest_file < length b) in
    let lt : longest_file < length bytes = subst P p.found long in
    absurd (omega (arith, p.short))

abbrev NotGotView : Files → List ℕ → Outcome → Type 0
NotGotView files file o =
    ((o ≡ outcome.Missing file) × (files file ≡ None)) ⊎ ((o ≡ outcome.TooLong file) × HasLongFile files file)

not_got_view : (files : Files) (file : List ℕ) (o : Outcome) → IsNotGot files file o → NotGotView files file o
not_got_view files file (outcome.Missing n) p = inl (ap outcome.Missing p.0, p.1)
not_got_view files file (outcome.TooLong n) p = inr (ap outcome.TooLong p.0, p.1)
not_got_view files file _ p = absurd p

got_view : (files : Files) (file bytes : List ℕ) (o : Outcome) → IsGot files file bytes → NotGotView files file o → ⊥
got_view files file bytes o p (inl q) = let none : None ≡ Some bytes = sym q.1 ∙ p.found in absurd (cc)
got_view files file bytes o p (inr q) = not_long files file bytes p q.1

pub got_or_not : (files : Files) (file bytes : List ℕ) (o : Outcome) → IsGot files file bytes → IsNotGot files file o → ⊥
got_or_not files file bytes o p q = got_view files file bytes o p (not_got_view files file o q)

none_or_long : (files : Files) (file : List ℕ) → files file ≡ None → HasLongFile files file → ⊥
none_or_long files file none long =
    let P : Option (List ℕ) → Type 0 = λ o. IsSomeAnd o (λ b. longest_file < length b) in
    absurd (subst P none long)

one_view : (files : Files) (file : List ℕ) (a b : Outcome) → NotGotView files file a → NotGotView files file b → a ≡ b
one_view files file a b (inl p) (inl q) = p.0 ∙ sym q.0
one_view files file a b (inl p) (inr q) = absurd (none_or_long files file p.1 q.1)
one_view files file a b (inr p) (inl q) = absurd (none_or_long files file q.1 p.1)
one_view files file a b (inr p) (inr q) = p.0 ∙ sym q.0

pub one_not_got : (files : Files) (file : List ℕ) (a b : Outcome) → IsNotGot files file a → IsNotGot files file b → a ≡ b
one_not_got files file a b p q = one_view files file a b (not_got_view files file a p) (not_got_view files file b q)

-- ---- plans

one_name : (file name other : List ℕ) → IsFileOf file name → IsFileOf file other → name ≡ other
one_name file name other p q = append_cancel_right name other (codes ".class") (sym p.joined ∙ q.joined)

pub one_plan : (files : Files) (file : List ℕ) (a b : Plan) → IsPlanOf files file a → IsPlanOf files file b → a ≡ b
one_plan files file a b (of_class n is a_is) (of_class m same b_is) =
    a_is ∙ ap one_class_plan (one_name file n m is same) ∙ sym b_is
one_plan files file a b (of_class n is a_is) (of_text bytes none got d) = absurd (none (n, is.joined))
one_plan files file a b (of_text bytes none got d) (of_class n is b_is) = absurd (none (n, is.joined))
one_plan files file a b (of_text bytes none got d) (of_text other unlike has e) =
    let same = one_got files file bytes other got has in
    plan_same other a b (subst (λ (x : List ℕ). Describes x a) same d) e

abbrev PlanRefusedView : Files → List ℕ → Outcome → Type 0
PlanRefusedView files file o =
    ((f : PlanFault) × (o ≡ outcome.BadPlan f) × HasBadPlan files file f) ⊎ HasNoText files file o

plan_refused_view : (files : Files) (file : List ℕ) (o : Outcome) → IsPlanRefused files file o → PlanRefusedView files file o
plan_refused_view files file (outcome.BadPlan f) p = inl (f, refl, p)
plan_refused_view files file outcome.Done p = inr p
plan_refused_view files file outcome.Halted p = inr p
plan_refused_view files file outcome.Usage p = inr p
plan_refused_view files file outcome.ShelfFault p = inr p
plan_refused_view files file outcome.SinkFault p = inr p
plan_refused_view files file outcome.OutOfMemory p = inr p
plan_refused_view files file (outcome.Missing n) p = inr p
plan_refused_view files file (outcome.TooLong n) p = inr p
plan_refused_view files file (outcome.NotYet n) p = inr p
plan_refused_view files file (outcome.BadClass n d) p = inr p
plan_refused_view files file (outcome.BadLink f) p = inr p
plan_refused_view files file (outcome.BadAsm f) p = inr p

text_or_bad : (files : Files) (file bytes : List ℕ) (plan : Plan) (f : PlanFault) → IsGot files file bytes → Describes bytes plan
    → HasBadPlan files file f → ⊥
text_or_bad files file bytes plan f got d q =
    let same = one_got files file bytes q.bytes got q.got in
    plan_without_fault q.bytes plan f (subst (λ (x : List ℕ). Describes x plan) same d) q.fault

plan_or_view : (files : Files) (file : List ℕ) (plan : Plan) (o : Outcome) → IsPlanOf files file plan → PlanRefusedView files file o → ⊥
plan_or_view files file plan o (of_class n is plan_is) (inl q) = q.2.no_class (n, is.joined)
plan_or_view files file plan o (of_class n is plan_is) (inr q) = q.no_class (n, is.joined)
plan_or_view files file plan o (of_text bytes none got d) (inl q) = text_or_bad files file bytes plan q.0 got d q.2
plan_or_view files file plan o (of_text bytes none got d) (inr q) = got_or_not files file bytes o got q.not_got

-- a file word that has a plan is refused none
pub plan_or_refused : (files : Files) (file : List ℕ) (plan : Plan) (o : Outcome) → IsPlanOf files file plan → IsPlanRefused files file o → ⊥
plan_or_refused files file plan o p q = plan_or_view files file plan o p (plan_refused_view files file o q)

one_plan_fault : (files : Files) (file : List ℕ) (f g : PlanFault) → HasBadPlan files file f → HasBadPlan files file g → f ≡ g
one_plan_fault files file f g p q =
    let same = one_got files file p.bytes q.bytes p.got q.got in
    fault_same q.bytes f g (subst (λ (x : List ℕ). IsPlanFault x f) same p.fault) q.fault

one_refused_view : (files : Files) (file : List ℕ) (a b : Outcome) → PlanRefusedView files file a → PlanRefusedView files file b → a ≡ b
one_refused_view files file a b (inl p) (inl q) =
    p.1 ∙ ap outcome.BadPlan (one_plan_fault files file p.0 q.0 p.2 q.2) ∙ sym q.1
one_refused_view files file a b (inl p) (inr q) = absurd (got_or_not files file p.2.bytes b p.2.got q.not_got)
one_refused_view files file a b (inr p) (inl q) = absurd (got_or_not files file q.2.bytes a q.2.got p.not_got)
one_refused_view files file a b (inr p) (inr q) = one_not_got files file a b p.not_got q.not_got

pub one_plan_refused : (files : Files) (file : List ℕ) (a b : Outcome) → IsPlanRefused files file a → IsPlanRefused files file b → a ≡ b
one_plan_refused files file a b p q = one_refused_view files file a b (plan_refused_view files file a p) (plan_refused_view files file b q)
