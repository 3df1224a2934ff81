-- The first fault by the walks over classes and over uses.
use Rattle.std.proofs.Common.{◌≡◌, ◌∙◌, refl, sym, ap, ℕ, zero, suc, List, [], ◌∷◌, take, length, Option, Some, None, slice_get}
use Rattle.jx_base.specs.Basics.{first_some, first_fault}
use Rattle.jx_base.specs.declared.class_file.ClassFile.{ClassFile}
use Rattle.jx_base.specs.declared.program.Plan.{Plan}
use Rattle.jx_base.specs.declared.program.System.{System}
use Rattle.jx_base.specs.declared.program.Template.{Template}
use Rattle.std.proofs.Math.Seq.{take-length}
use Rattle.link_model.specs.LinkFaults.{class_fault, main_fault, uses_fault, listing_at, template_fault, first_link_fault}
use Rattle.link_model.specs.Linking.{outline}
use Rattle.linker_lists.specs.Listings.{listings}
use Rattle.std.specs.Option.{option_and_then}
use Rattle.link_model.specs.declared.fault.LinkFault.{LinkFault}
use Rattle.linker_faults.specs.Early.{IsEarlyFault, IsFirstEarlyFault}
use Rattle.linker_faults.specs.Walks.{early_fault, first_class_fault, main_class_fault}
use Rattle.linker_faults.specs.declared.early.EarlyFault.{EarlyFault}
use Rattle.linker_uses.specs.LateFaults.{template_use_fault}

-- the first of two
abbrev pub first_of : {A : Type 0} → Option A → Option A → Option A
first_of a b = elim a [ Some x ↦ Some x | None ↦ b ]

module _ {A F : Type 0} (whole early late : A → Option F) (parts : (x : A) → whole x ≡ first_of (early x) (late x)) where
  -- where no item has an early one, the first one is a late one
  pub none_early : (xs : List A) → first_some early xs ≡ None → first_some whole xs ≡ first_some late xs
  unfolding first_some
  none_early [] h = refl
  none_early (x ∷ xs) h = by (early x) (whole x) h (parts x) (none_early xs)
    where
      by : (e w : Option F) → first_of e (first_some early xs) ≡ None → w ≡ first_of e (late x)
          → (first_some early xs ≡ None → first_some whole xs ≡ first_some late xs)
          → first_of w (first_some whole xs) ≡ first_of (late x) (first_some late xs)
      by (Some y) w k p again = absurd cc
      by None w k p again = ap (λ o. first_of o (first_some whole xs)) p ∙ ap (first_of (late x)) (again k)

  -- where an item has an early one, and none before it, the first one is a late one of those before, else that
  pub first_early : (xs : List A) (i : ℕ) (f : F) → first_some early (take i xs) ≡ None → option_and_then early (slice_get xs i) ≡ Some f
      → first_some whole xs ≡ first_of (first_some late (take i xs)) (Some f)
  unfolding first_some
  first_early [] i f h e = absurd cc
  first_early (y ∷ xs) zero f h e = ap (λ o. first_of o (first_some whole xs)) (parts y ∙ ap (λ o. first_of o (late y)) e)
  first_early (y ∷ xs) (suc i) f h e = by (early y) (whole y) h (parts y) (λ k. first_early xs i f k e)
    where
      by : (o w : Option F) → first_of o (first_some early (take i xs)) ≡ None → w ≡ first_of o (late y)
          → (first_some early (take i xs) ≡ None → first_some whole xs ≡ first_of (first_some late (take i xs)) (Some f))
          → first_of w (first_some whole xs) ≡ first_of (first_of (late y) (first_some late (take i xs))) (Some f)
      by (Some z) w k p again = absurd cc
      by None w k p again = ap (λ o. first_of o (first_some whole xs)) p ∙ behind (late y) (again k)
        where
          behind : (o : Option F) → first_some whole xs ≡ first_of (first_some late (take i xs)) (Some f)
              → first_of o (first_some whole xs) ≡ first_of (first_of o (first_some late (take i xs))) (Some f)
          behind None q = q
          behind (Some z) q = refl

-- the first of three is the first of two, else the third
by_two : {F : Type 0} (a b c : Option F) → first_fault (a ∷ b ∷ c ∷ []) ≡ first_of (first_fault (a ∷ b ∷ [])) c
unfolding first_fault
by_two (Some f) b c = refl
by_two None (Some f) c = refl
by_two None None None = refl
by_two None None (Some f) = refl

-- a template's first fault is one of its classes, else one of its uses
pub by_walks : (s : System) (plan : Plan) (files : List ClassFile) (t : Template) → template_fault s plan files t ≡ first_of (early_fault plan files t) (template_use_fault s plan files t)
unfolding template_fault early_fault first_fault
by_walks s plan files t = by_two (first_class_fault plan files t) (main_class_fault plan files t) (template_use_fault s plan files t)

module _ (plan : Plan) (files : List ClassFile) (whole : System) (is : whole ≡ outline plan files) (n : ℕ) (late : Option LinkFault)
    (told : late ≡ first_some (template_use_fault whole whole.plan files) (take n whole.plan.templates)) where
  -- the first late fault of so many templates of the plan
  of_plan : late ≡ first_some (template_use_fault (outline plan files) plan files) (take n plan.templates)
  unfolding outline
  of_plan = told ∙ ap (λ s. first_some (template_use_fault s s.plan files) (take n s.plan.templates)) is

  -- where a template has a fault by its own classes, and none before it, the first fault is a late one of those before, else that
  pub first_with : (e : EarlyFault) → IsEarlyFault plan files e → n ≡ e.template → first_link_fault plan files ≡ first_of late (Some e.fault)
  unfolding first_link_fault
  first_with e h same =
      first_early (template_fault (outline plan files) plan files) (early_fault plan files) (template_use_fault (outline plan files) plan files) (by_walks (outline plan files) plan files) plan.templates e.template e.fault h.none_before h.fault
      ∙ ap (λ o. first_of o (Some e.fault)) (ap (λ k. first_some (template_use_fault (outline plan files) plan files) (take k plan.templates)) (sym same) ∙ sym of_plan)

  -- where none has one, it is the first late one
  pub first_without : IsFirstEarlyFault plan files None → n ≡ length plan.templates → first_link_fault plan files ≡ late
  unfolding first_link_fault
  first_without h same =
      none_early (template_fault (outline plan files) plan files) (early_fault plan files) (template_use_fault (outline plan files) plan files) (by_walks (outline plan files) plan files) plan.templates h
      ∙ ap (first_some (template_use_fault (outline plan files) plan files)) (sym (ap (λ k. take k plan.templates) same ∙ take-length plan.templates)) ∙ sym of_plan

-- in the first template with a fault by its own classes, that is the first fault
pub first_at_once : (plan : Plan) (files : List ClassFile) (e : EarlyFault) → IsEarlyFault plan files e → e.template ≡ 0 → first_link_fault plan files ≡ Some e.fault
unfolding outline first_some
first_at_once plan files e h zero_is = first_with plan files (outline plan files) refl 0 None refl e h (sym zero_is)
