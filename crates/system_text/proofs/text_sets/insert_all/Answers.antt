use Rattle.std.proofs.Common.{◌∙◌, sym, ap, arith}
use Rattle.std.proofs.lemmas.List.{drop_more, at_drop_all}
use Rattle.jx_base.specs.Basics.{all_added}
use Rattle.system_text.specs.Scan.{with_all_new, texts_at}
use Rattle.system_text.proofs.text_sets.insert_all.Goals as goal

pub loop-text-preserved : goal.loop-text-preserved
unfolding all_added
loop-text-preserved c =
    rw c.in_ok-insert.ensures.texts
    (sym (ap (λ ts. with_all_new (texts_at c.loop-text.set.keys) (texts_at ts)) (drop_more c.args.texts.now c.loop-text.text-index _ (omega arith))) ∙ c.loop-text.invariant)

pub returns : goal.returns
unfolding all_added
returns c =
    sym (at_drop_all (λ ts. with_all_new (texts_at c.loop-text.set.keys) (texts_at ts)) c.args.texts.now c.loop-text.text-index (omega arith)) ∙ c.loop-text.invariant
