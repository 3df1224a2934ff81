use Rattle.std.proofs.Common.{◌≡◌, ◌∙◌, refl, sym, ap, take, ◌+◌, ◌∷◌, ◌++◌, [], arith}
use Rattle.std.specs.Prelude.{◌||◌}
use Rattle.std.proofs.lemmas.List.{take_more, take_all}
use Rattle.asm_bodies.specs.Bodies.{has_label, is_label}
use Rattle.asm_checks.proofs.Bodies.{label_last}
use Rattle.asm_checks.proofs.body.labels_of.Goals as goal

pub loop-line-init : goal.loop-line-init
unfolding has_label
loop-line-init c name = rw c.new-labels.ensures.empty refl

pub loop-line-preserved : goal.loop-line-preserved
loop-line-preserved c name =
    let body = c.args.body.now in
    let i = c.loop-line.line-index in
    let line = c.line-item.result in
    let more : take (i + 1) body ≡ take i body ++ line ∷ [] = take_more body i line (omega arith) ∙ ap (λ l. take i body ++ l ∷ []) (sym c.line-item.is) in
    c.in_ok-labels.ensures name
    ∙ (ap (λ b. b || is_label name line) (c.loop-line.invariant name)
    ∙ (sym (label_last name (take i body) line) ∙ sym (ap (has_label name) more)))

pub returns : goal.returns
returns c name = c.loop-line.invariant name ∙ ap (has_label name) (take_all c.loop-line.line-index c.args.body.now (omega arith))
