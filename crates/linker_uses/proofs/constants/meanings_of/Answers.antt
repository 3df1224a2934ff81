use Rattle.std.proofs.Common.{◌∙◌, ◌<◌, ◌++◌, ◌∷◌, [], sym, ap, subst, false, List, ℕ, length, map, take, get_or, arith}
use Rattle.std.proofs.lemmas.List.{get_or_default, take_all}
use Rattle.link_model.specs.ClassFiles.{uses_of}
use Rattle.link_model.specs.Linking.{meanings_from, meanings_of}
use Rattle.link_model.specs.declared.uses.Used.{Used}
use Rattle.linker_uses.specs.Constants.{AreMarked, meaning_where}
use Rattle.linker_uses.proofs.Meanings.{next_meaning, no_constants}
use Rattle.linker_uses.proofs.constants.meanings_of.Goals as goal

pub loop-index-init : goal.loop-index-init
loop-index-init c = c.new-meanings.ensures.items ∙ no_constants c.args.outline.now c.args.class.now (map (λ (u : Used). u.index) (uses_of c.args.class.now)) 0

pub loop-index-preserved : goal.loop-index-preserved
loop-index-preserved c =
    let list = c.as_slice-constants.ensures ∙ ap (λ f. f.constants) c.file-file.ensures in
    let k = c.index-constants-index.result in
    let less : c.loop-index.index < length c.args.class.now.constants = omega (arith, ap length list, c.loop-index-test.true) in
    let uses = c.as_slice.ensures.value ∙ c.in_ok-uses.ensures in
    let marked : AreMarked (map (λ (u : Used). u.index) (uses_of c.args.class.now)) (length c.args.class.now.constants) c.in_ok-marks.marks.items =
    subst (λ (us : List Used). AreMarked (map (λ (u : Used). u.index) us) (length c.args.class.now.constants) c.in_ok-marks.marks.items) uses
    (subst (λ (n : ℕ). AreMarked (map (λ (u : Used). u.index) c.as_slice.result.now) n c.in_ok-marks.marks.items) (ap length list) c.in_ok-marks.ensures) in
    c.in_ok-push.ensures.items
    ∙ ap (λ ms. ms ++ c.in_ok-meaning.meaning ∷ []) c.loop-index.invariant
    ∙ ap (λ m. meanings_from c.args.outline.now c.args.class.now (map (λ (u : Used). u.index) (uses_of c.args.class.now)) 0 (take c.loop-index.index c.args.class.now.constants) ++ m ∷ []) (c.in_ok-meaning.ensures
    ∙ ap (λ f. meaning_where c.args.outline.now f c.index.result.now k) c.file-file.ensures
    ∙ ap (λ b. meaning_where c.args.outline.now c.args.class.now b k)
    (c.index.ensures ∙ get_or_default c.in_ok-marks.marks.items c.loop-index.index c.index.result.now false (omega (arith, less, marked.length))))
    ∙ sym (next_meaning c.args.outline.now c.args.class.now (map (λ (u : Used). u.index) (uses_of c.args.class.now)) c.args.class.now.constants c.loop-index.index k c.in_ok-marks.marks.items
    less (c.index-constants-index.is ∙ ap (λ xs. get_or xs c.loop-index.index k) list) marked)

pub returns : goal.returns
unfolding meanings_of
returns c =
    let list = c.as_slice-constants.ensures ∙ ap (λ f. f.constants) c.file-file.ensures in
    c.loop-index.invariant
    ∙ ap (meanings_from c.args.outline.now c.args.class.now (map (λ (u : Used). u.index) (uses_of c.args.class.now)) 0)
    (take_all c.loop-index.index c.args.class.now.constants (omega (arith, ap length list, c.loop-index-test.false)))
