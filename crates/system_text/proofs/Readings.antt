-- Texts that are TOML, and others.
use Rattle.std.proofs.Common.{◌≡◌, ◌∙◌, refl, sym, ℕ, List, Some, None, inl, inr, Result, Ok, Err, IfOk, IfErr, ap}
use Rattle.std.specs.Str.{is_utf8, IsUtf8}
use Rattle.std.proofs.lemmas.Bool.{cases_Bool}
use Rattle.std.proofs.lemmas.Str.{is_utf8-from_IsUtf8, IsUtf8-from_is_utf8}
use Rattle.jx_base.specs.declared.program.Plan.{Plan}
use Rattle.toml.specs.Data.{Members}
use Rattle.toml.specs.Parse.{parse_document}
use Rattle.system_text.specs.declared.fault.PlanFault.{PlanFault}
use Rattle.jx_base.specs.declared.error.Error.{Error}
use Rattle.jx_base.specs.declared.error.Error.TheVariants.{Bad, OutOfMemory}
use Rattle.system_text.specs.Description.{table_of, Describes, IsPlanFault, described_plan, plan_fault}
use Rattle.system_text.specs.Answers.{IsNamed, IsPlanOrMemory, IsFaultOrMemory}

pub table_read : (bytes : List ℕ) (top : Members) → IsUtf8 bytes → parse_document bytes ≡ Some top → Some top ≡ table_of bytes
unfolding table_of
table_read bytes top text parsed = rw (is_utf8-from_IsUtf8 bytes text) (sym parsed)

pub table_refused : (bytes : List ℕ) → (IsUtf8 bytes → parse_document bytes ≡ None) → None ≡ table_of bytes
unfolding table_of
table_refused bytes refused =
    elim (cases_Bool (is_utf8 bytes)) [
      | inl text ↦ rw text (sym (refused (IsUtf8-from_is_utf8 bytes text)))
      | inr other ↦ rw other refl
    ]

top_same : (bytes : List ℕ) (a b : Members) → table_of bytes ≡ Some a → table_of bytes ≡ Some b → a ≡ b
top_same bytes a b e f = cc

pub plan_same : (bytes : List ℕ) (p q : Plan) → Describes bytes p → Describes bytes q → p ≡ q
plan_same bytes p q d e =
    d.is_plan.described ∙ (ap described_plan (top_same bytes d.top e.top d.parsed e.parsed) ∙ sym e.is_plan.described)

pub plan_without_fault : (bytes : List ℕ) (p : Plan) (f : PlanFault) → Describes bytes p → IsPlanFault bytes f → ⊥
plan_without_fault bytes p f d (inl none) = let a = d.parsed in let b = none.0 in cc
plan_without_fault bytes p f d (inr named) =
    let same : d.top ≡ named.0 = top_same bytes d.top named.0 d.parsed named.1 in
    let none = d.is_plan.accepted in
    let some = named.2 in
    let both = ap plan_fault same in
    cc

pub fault_same : (bytes : List ℕ) (f g : PlanFault) → IsPlanFault bytes f → IsPlanFault bytes g → f ≡ g
fault_same bytes f g (inl a) (inl b) = a.1 ∙ sym b.1
fault_same bytes f g (inl a) (inr b) = let x = a.0 in let y = b.1 in cc
fault_same bytes f g (inr a) (inl b) = let x = b.0 in let y = a.1 in cc
fault_same bytes f g (inr a) (inr b) =
    let same : a.0 ≡ b.0 = top_same bytes a.0 b.0 a.1 b.1 in
    let both = ap plan_fault same in
    let x = a.2 in
    let y = b.2 in
    cc

pub only_plan : (bytes : List ℕ) (r : Result Plan (Error PlanFault)) → IfOk r (Describes bytes) → IfErr r (IsNamed (IsPlanFault bytes))
    → (plan : Plan) → Describes bytes plan → IsPlanOrMemory plan r
only_plan bytes (Ok given) found fault plan d = plan_same bytes given plan found d
only_plan bytes (Err (Bad f)) found fault plan d = plan_without_fault bytes plan f d fault
only_plan bytes (Err OutOfMemory) found fault plan d = tt

pub only_fault : (bytes : List ℕ) (r : Result Plan (Error PlanFault)) → IfOk r (Describes bytes) → IfErr r (IsNamed (IsPlanFault bytes))
    → (f : PlanFault) → IsPlanFault bytes f → IsFaultOrMemory f r
only_fault bytes (Ok given) found fault f e = plan_without_fault bytes given f found e
only_fault bytes (Err (Bad g)) found fault f e = fault_same bytes g f fault e
only_fault bytes (Err OutOfMemory) found fault f e = tt
