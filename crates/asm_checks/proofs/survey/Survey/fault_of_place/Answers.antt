use Rattle.std.proofs.Common.{◌∙◌, refl, sym, ap}
use Rattle.asm_checks.specs.Faults.{has_index_over, kind_at}
use Rattle.asm_checks.proofs.survey.Survey.fault_of_place.Goals as goal

pub returns-then-has_index_over : goal.returns-then-has_index_over
unfolding kind_at
returns-then-has_index_over c past after f pool =
    rw (c.requires, sym (ap (λ p. has_index_over p c.args.line.now) pool) ∙ (sym c.has_index_over.ensures ∙ c.if-has_index_over.true)) refl

pub returns-then-is_lost : goal.returns-then-is_lost
unfolding kind_at
returns-then-is_lost c past after f pool =
    rw (
      c.requires,
      sym (ap (λ p. has_index_over p c.args.line.now) pool) ∙ (sym c.has_index_over.ensures ∙ c.if-has_index_over.false),
      sym (c.is_lost.ensures past after f) ∙ c.if-is_lost.true,
    ) refl

pub returns-then-is_twice : goal.returns-then-is_twice
unfolding kind_at
returns-then-is_twice c past after f pool =
    rw (
      c.requires,
      sym (ap (λ p. has_index_over p c.args.line.now) pool) ∙ (sym c.has_index_over.ensures ∙ c.if-has_index_over.false),
      sym (c.is_lost.ensures past after f) ∙ c.if-is_lost.false,
      sym (c.is_twice.ensures past _ f) ∙ c.if-is_twice.true,
    ) refl

pub returns-then-not-is_in_place : goal.returns-then-not-is_in_place
unfolding kind_at
returns-then-not-is_in_place c past after f pool =
    rw (
      c.requires,
      sym (ap (λ p. has_index_over p c.args.line.now) pool) ∙ (sym c.has_index_over.ensures ∙ c.if-has_index_over.false),
      sym (c.is_lost.ensures past after f) ∙ c.if-is_lost.false,
      sym (c.is_twice.ensures past _ f) ∙ c.if-is_twice.false,
      sym (c.is_in_place.ensures past _ f),
    ) (rw c.if-not-is_in_place.true refl)

pub returns-then-branch : goal.returns-then-branch
unfolding kind_at
returns-then-branch c past after f pool =
    rw (
      c.requires,
      sym (ap (λ p. has_index_over p c.args.line.now) pool) ∙ (sym c.has_index_over.ensures ∙ c.if-has_index_over.false),
      sym (c.is_lost.ensures past after f) ∙ c.if-is_lost.false,
      sym (c.is_twice.ensures past _ f) ∙ c.if-is_twice.false,
      sym (c.is_in_place.ensures past _ f) ∙ c.if-not-is_in_place.false,
      sym (c.in_ok-is_over.ensures past _ f pool) ∙ c.if-branch.true,
    ) refl

pub returns-else-branch : goal.returns-else-branch
unfolding kind_at
returns-else-branch c past after f pool =
    rw (
      c.requires,
      sym (ap (λ p. has_index_over p c.args.line.now) pool) ∙ (sym c.has_index_over.ensures ∙ c.if-has_index_over.false),
      sym (c.is_lost.ensures past after f) ∙ c.if-is_lost.false,
      sym (c.is_twice.ensures past _ f) ∙ c.if-is_twice.false,
      sym (c.is_in_place.ensures past _ f) ∙ c.if-not-is_in_place.false,
      sym (c.in_ok-is_over.ensures past _ f pool) ∙ c.if-branch.false,
    ) refl
