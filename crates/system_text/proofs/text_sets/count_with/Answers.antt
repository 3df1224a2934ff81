use Rattle.std.proofs.Common.{◌≡◌, ◌∙◌, ◌+◌, sym, ap, drop, ◌++◌, [], ℕ, List, Bor, true, false, slice_index_or, arith}
use Rattle.std.proofs.lemmas.List.{drop_more, at_drop_all, length-append, length-map}
use Rattle.jx_base.specs.Basics.{all_added}
use Rattle.system_text.specs.Keys.{has_text}
use Rattle.system_text.specs.Scan.{texts_at, with_all_new}
use Rattle.system_text.proofs.TextSets.{known_apart, new_apart}
use Rattle.system_text.proofs.text_sets.count_with.Goals as goal
use Rattle.system_text.proofs.text_sets.count_with.Goals.{then-not-has_text+in_ok-insert, else-not-has_text}

pub loop-text-preserved : goal.loop-text-preserved
unfolding all_added
loop-text-preserved c =
    let known = texts_at c.args.set.now.keys in
    let before = texts_at c.loop-text.fresh.keys in
    let none : Bor (List ℕ) = record { ref_ptr = (0, 0); now = [] } in
    let text = (slice_index_or c.args.texts.now c.loop-text.text-index none).now in
    let step = sym (ap (λ ts. with_all_new (known ++ before) (texts_at ts)) (drop_more c.args.texts.now c.loop-text.text-index none (omega arith))) ∙ c.loop-text.invariant in
    elim c.if-not-has_text.branch [
      | then-not-has_text+in_ok-insert w ↦
          let new : has_text known text ≡ false = sym c.has_text.ensures ∙ w.if-not-has_text.true in
          rw (w.fresh-is, w.in_ok-insert.ensures.texts)
          (ap (λ ts. with_all_new ts (texts_at (drop (c.loop-text.text-index + 1) c.args.texts.now))) (sym (new_apart known before text new)) ∙ step)
      | else-not-has_text w ↦
          let old : has_text known text ≡ true = sym c.has_text.ensures ∙ w.if-not-has_text.false in
          rw w.fresh-is
          (ap (λ ts. with_all_new ts (texts_at (drop (c.loop-text.text-index + 1) c.args.texts.now))) (sym (known_apart known before text old)) ∙ step)
    ]

pub returns : goal.returns
unfolding all_added
returns c =
    let known = texts_at c.args.set.now.keys in
    let fresh = texts_at c.loop-text.fresh.keys in
    let all = sym (at_drop_all (λ ts. with_all_new (known ++ fresh) (texts_at ts)) c.args.texts.now c.loop-text.text-index (omega arith)) ∙ c.loop-text.invariant in
    rw (← all, length-append known fresh, length-map c.args.set.now.keys (λ t. t.now), length-map c.loop-text.fresh.keys (λ t. t.now)) (cc)
