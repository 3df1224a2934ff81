use Rattle.std.proofs.Common.{Bool, ◌≡◌, ◌∙◌, ◌++◌, ◌∷◌, [], ℕ, List, Bor, slice_index_or, sym, ap, refl, true, false, take, arith}
use Rattle.std.specs.Prelude.{reverse, not}
use Rattle.std.proofs.lemmas.List.{at_drop_all, map-append, take_more}
use Rattle.system_text.specs.Keys.{first_repeated, has_text, repeated_after}
use Rattle.system_text.specs.Scan.{texts_at}
use Rattle.system_text.proofs.Distinct.{with_unknown}
use Rattle.system_text.proofs.Repeats.{repeated_here, repeated_later}
use Rattle.system_text.proofs.text_sets.first_repeated.Goals as goal

not_new : (b : Bool) → not b ≡ false → b ≡ true
not_new true h = refl
not_new false h = sym h

is_new : (b : Bool) → not b ≡ true → b ≡ false
is_new true h = sym h
is_new false h = refl

pub loop-text-init : goal.loop-text-init
unfolding first_repeated
loop-text-init c = (rw c.new-seen.ensures.empty refl, refl)

pub returns-then-not-branch : goal.returns-then-not-branch
returns-then-not-branch c =
    let none : Bor (List ℕ) = record { ref_ptr = (0, 0); now = [] } in
    let text = (slice_index_or c.args.texts.now c.loop-text.text-index none).now in
    let seen : has_text (texts_at c.loop-text.seen.keys) text ≡ true = not_new _ (sym c.in_ok-insert.ensures.added ∙ c.if-not-branch.true) in
    sym (repeated_here c.args.texts.now c.loop-text.text-index none (omega arith) (ap (λ ts. has_text ts text) (sym c.loop-text.invariant.0) ∙ seen)) ∙ c.loop-text.invariant.1

pub loop-text-preserved : goal.loop-text-preserved
loop-text-preserved c =
    let none : Bor (List ℕ) = record { ref_ptr = (0, 0); now = [] } in
    let here = slice_index_or c.args.texts.now c.loop-text.text-index none in
    let text = here.now in
    let fresh : has_text (texts_at c.loop-text.seen.keys) text ≡ false = is_new _ (sym c.in_ok-insert.ensures.added ∙ c.if-not-branch.false) in (
      c.in_ok-insert.ensures.texts
          ∙ (with_unknown (texts_at c.loop-text.seen.keys) text fresh
          ∙ (ap (λ ts. ts ++ text ∷ []) c.loop-text.invariant.0
          ∙ (sym (map-append (λ t. t.now) (take c.loop-text.text-index c.args.texts.now) (here ∷ []))
          ∙ ap texts_at (sym (take_more c.args.texts.now c.loop-text.text-index none (omega arith)))))),
      repeated_later c.args.texts.now c.loop-text.text-index none (omega arith) (ap (λ ts. has_text ts text) (sym c.loop-text.invariant.0) ∙ fresh) ∙ c.loop-text.invariant.1,
    )

pub returns : goal.returns
unfolding repeated_after
returns c =
    sym (at_drop_all (λ ts. repeated_after (reverse (texts_at (take c.loop-text.text-index c.args.texts.now))) (texts_at ts)) c.args.texts.now c.loop-text.text-index (omega arith)) ∙ c.loop-text.invariant.1
