use Rattle.std.proofs.Common.{◌∙◌, ◌==◌, ap, sym, List, length, true, false}
use Rattle.jx_base.specs.declared.value.Word.{Word}
use Rattle.nucleus_calls.proofs.AnsweredCalls.{thrown_by}
use Rattle.nucleus_calls.proofs.calls.thrown_kind.Goals as goal

pub returns-then-is_empty : goal.returns-then-is_empty
returns-then-is_empty c =
    sym (thrown_by c.args.parcel.now true (ap (λ (ws : List Word). length ws == 0) (sym c.as_slice.ensures) ∙ sym c.is_empty.ensures ∙ c.if-is_empty.true))

pub returns-else-is_empty : goal.returns-else-is_empty
returns-else-is_empty c =
    sym (thrown_by c.args.parcel.now false (ap (λ (ws : List Word). length ws == 0) (sym c.as_slice.ensures) ∙ sym c.is_empty.ensures ∙ c.if-is_empty.false))
