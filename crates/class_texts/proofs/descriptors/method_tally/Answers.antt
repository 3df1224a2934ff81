use Rattle.std.proofs.Common.{◌-◌, ◌∙◌, take, drop, get_or, length}
use Rattle.class_texts.proofs.Shapes.{apart, method_opened, method_unopened}
use Rattle.class_texts.proofs.descriptors.method_tally.Goals as goal

pub returns-then-first-eq-OPENING : goal.returns-then-first-eq-OPENING
returns-then-first-eq-OPENING c =
    let text = c.args.text.now in
    c.signature_tally.ensures ∙ method_opened text (take (length text - 1) (drop 1 text)) (get_or text 0 0) (apart text c.in-len1-up.len_at_least) c.if-first-eq-OPENING.true

pub returns-else-first-eq-OPENING : goal.returns-else-first-eq-OPENING
returns-else-first-eq-OPENING c =
    let text = c.args.text.now in
    method_unopened text (take (length text - 1) (drop 1 text)) (get_or text 0 0) (apart text c.in-len1-up.len_at_least) c.if-first-eq-OPENING.false
