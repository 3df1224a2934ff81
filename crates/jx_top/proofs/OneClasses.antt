-- The classes of some names are got and read in one way, or the first that isn't is refused in one way.
use Rattle.std.specs.Prelude.{◌≡◌, refl, ℕ, ◌⊎◌, List, [], ◌∷◌}
use Rattle.std.specs.List.{AllByRecursion}
use Rattle.std.proofs.Common.{sym, ◌∙◌, ap, ap₂, subst, inl, inr}
use Rattle.jx_base.specs.Files.{Files}
use Rattle.jx_base.specs.declared.class_file.ClassFile.{ClassFile}
use Rattle.class_grammar.specs.ClassGrammar.{IsClassFile}
use Rattle.jx_top.specs.GotFiles.{IsNotGot}
use Rattle.jx_top.specs.Outcomes.{Outcome}
use Rattle.jx_top.specs.Outcomes as outcome
use Rattle.jx_top.specs.ReadClasses.{IsBadClass}
use Rattle.jx_top.specs.Systems.{file_of_class, HasClass, HaveClasses, HasBadClass, IsClassRefused, HasRefusedClass}
use Rattle.jx_top.specs.declared.defect.Defect.{Defect}
use Rattle.jx_top.proofs.Firsts.{holds_between, one_first}
use Rattle.jx_top.proofs.OnePlan.{one_got, got_or_not, one_not_got}
use Rattle.jx_top.proofs.ReadClasses.{one_file, read_or_bad, one_defect}

-- ---- one class

one_class : (files : Files) (name : List ℕ) (a b : ClassFile) → HasClass files name a → HasClass files name b → a ≡ b
one_class files name a b p q =
    let same = one_got files (file_of_class name) p.bytes q.bytes p.got q.got in
    one_file q.bytes a b (subst (λ (x : List ℕ). IsClassFile x a) same p.read.class) q.read.class

abbrev RefusedView : Files → List ℕ → Outcome → Type 0
RefusedView files name o =
    ((d : Defect) × (o ≡ outcome.BadClass name d) × HasBadClass files name d) ⊎ IsNotGot files (file_of_class name) o

refused_view : (files : Files) (name : List ℕ) (o : Outcome) → IsClassRefused files name o → RefusedView files name o
refused_view files name (outcome.BadClass n d) p = inl (d, ap (λ (x : List ℕ). outcome.BadClass x d) p.0, p.1)
refused_view files name outcome.Done p = inr p
refused_view files name outcome.Halted p = inr p
refused_view files name outcome.Usage p = inr p
refused_view files name outcome.ShelfFault p = inr p
refused_view files name outcome.SinkFault p = inr p
refused_view files name outcome.OutOfMemory p = inr p
refused_view files name (outcome.Missing n) p = inr p
refused_view files name (outcome.TooLong n) p = inr p
refused_view files name (outcome.NotYet n) p = inr p
refused_view files name (outcome.BadPlan f) p = inr p
refused_view files name (outcome.BadLink f) p = inr p
refused_view files name (outcome.BadAsm f) p = inr p

-- a class that is got and read is bad in no way
read_bad : (files : Files) (name : List ℕ) (class : ClassFile) (d : Defect) → HasClass files name class → HasBadClass files name d → ⊥
read_bad files name class d p q =
    let same : q.bytes ≡ p.bytes = one_got files (file_of_class name) q.bytes p.bytes q.got p.got in
    read_or_bad p.bytes class d p.read (subst (λ (b : List ℕ). IsBadClass b d) same q.bad)

accepted_view : (files : Files) (name : List ℕ) (class : ClassFile) (o : Outcome) → HasClass files name class → RefusedView files name o → ⊥
accepted_view files name class o p (inl q) = read_bad files name class q.0 p q.2
accepted_view files name class o p (inr q) = got_or_not files (file_of_class name) p.bytes o p.got q

one_bad : (files : Files) (name : List ℕ) (d e : Defect) → HasBadClass files name d → HasBadClass files name e → d ≡ e
one_bad files name d e p q =
    let same : p.bytes ≡ q.bytes = one_got files (file_of_class name) p.bytes q.bytes p.got q.got in
    one_defect q.bytes d e (subst (λ (b : List ℕ). IsBadClass b d) same p.bad) q.bad

one_refusal_view : (files : Files) (name : List ℕ) (a b : Outcome) → RefusedView files name a → RefusedView files name b → a ≡ b
one_refusal_view files name a b (inl p) (inl q) =
    p.1 ∙ ap (λ (d : Defect). outcome.BadClass name d) (one_bad files name p.0 q.0 p.2 q.2) ∙ sym q.1
one_refusal_view files name a b (inl p) (inr q) = absurd (got_or_not files (file_of_class name) p.2.bytes b p.2.got q)
one_refusal_view files name a b (inr p) (inl q) = absurd (got_or_not files (file_of_class name) q.2.bytes a q.2.got p)
one_refusal_view files name a b (inr p) (inr q) = one_not_got files (file_of_class name) a b p q

one_refusal : (files : Files) (name : List ℕ) (a b : Outcome) → IsClassRefused files name a → IsClassRefused files name b → a ≡ b
one_refusal files name a b p q = one_refusal_view files name a b (refused_view files name a p) (refused_view files name b q)

-- ---- classes in order

pub one_classes : (files : Files) (names : List (List ℕ)) (a b : List ClassFile) → HaveClasses files names a → HaveClasses files names b → a ≡ b
one_classes files [] [] [] p q = refl
one_classes files [] [] (d ∷ ds) p q = absurd q
one_classes files [] (c ∷ cs) b p q = absurd p
one_classes files (n ∷ names) [] b p q = absurd p
one_classes files (n ∷ names) (c ∷ cs) [] p q = absurd q
one_classes files (n ∷ names) (c ∷ cs) (d ∷ ds) p q =
    ap₂ (λ (x : ClassFile) (xs : List ClassFile). x ∷ xs) (one_class files n c d p.0 q.0) (one_classes files names cs ds p.1 q.1)

-- there is a class of that name, got and read
abbrev IsAccepted : Files → List ℕ → Type 0
IsAccepted files name = (class : ClassFile) × HasClass files name class

all_accepted : (files : Files) (names : List (List ℕ)) (classes : List ClassFile) → HaveClasses files names classes
    → AllByRecursion (IsAccepted files) names
all_accepted files [] classes h = tt
all_accepted files (n ∷ names) [] h = absurd h
all_accepted files (n ∷ names) (c ∷ cs) h = ((c, h.0), all_accepted files names cs h.1)

accepted_or_refused : (files : Files) (name : List ℕ) (o : Outcome) → IsClassRefused files name o → IsAccepted files name → ⊥
accepted_or_refused files name o q p = accepted_view files name p.0 o p.1 (refused_view files name o q)

-- of names whose classes are all got and read none is refused
pub classes_or_refused : (files : Files) (names : List (List ℕ)) (classes : List ClassFile) (o : Outcome) → HaveClasses files names classes
    → HasRefusedClass files names o → ⊥
classes_or_refused files names classes o p q =
    let all = subst (AllByRecursion (IsAccepted files)) q.parts (all_accepted files names classes p) in
    accepted_or_refused files q.name o q.refused (holds_between (IsAccepted files) q.before q.name q.after all)

pub one_refused_class : (files : Files) (names : List (List ℕ)) (a b : Outcome) → HasRefusedClass files names a → HasRefusedClass files names b
    → a ≡ b
one_refused_class files names a b p q =
    let same = one_first (IsAccepted files) p.before q.before p.name q.name p.after q.after (sym p.parts ∙ q.parts)
    (all_accepted files p.before p.classes p.accepted) (all_accepted files q.before q.classes q.accepted)
    (accepted_or_refused files p.name a p.refused) (accepted_or_refused files q.name b q.refused) in
    one_refusal files q.name a b (subst (λ (n : List ℕ). IsClassRefused files n a) same p.refused) q.refused
