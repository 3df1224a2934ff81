use Rattle.std.proofs.Common.{◌-◌, ◌∙◌, sym, take, drop, get_or, length, inl, inr}
use Rattle.class_texts.proofs.Shapes.{apart, result_void_at, result_type_at}
use Rattle.class_texts.proofs.descriptors.result_floats.Goals as goal
use Rattle.class_texts.proofs.descriptors.result_floats.Goals.{else-first-eq-LETTER_V-via-then-first-eq-LETTER_V+else-is_empty, else-first-eq-LETTER_V-via-else-first-eq-LETTER_V}

pub returns-else-first-eq-LETTER_V : goal.returns-else-first-eq-LETTER_V
returns-else-first-eq-LETTER_V c =
    let text = c.args.text.now in
    let rest = take (length text - 1) (drop 1 text) in
    c.field_floats.ensures ∙ result_type_at text rest (get_or text 0 0) (apart text c.in-len1-up.len_at_least) (elim c.else-first-eq-LETTER_V.branch [
      | else-first-eq-LETTER_V-via-then-first-eq-LETTER_V+else-is_empty w ↦ inr (sym w.is_empty.ensures ∙ w.if-is_empty.false)
      | else-first-eq-LETTER_V-via-else-first-eq-LETTER_V w ↦ inl w.if-first-eq-LETTER_V.false
    ])

pub returns-then-is_empty : goal.returns-then-is_empty
returns-then-is_empty c =
    let text = c.args.text.now in
    result_void_at text (take (length text - 1) (drop 1 text)) (get_or text 0 0) (apart text c.in-len1-up.len_at_least) c.if-first-eq-LETTER_V.true (sym c.is_empty.ensures ∙ c.if-is_empty.true)
