use Rattle.std.proofs.Common.{◌∙◌, ap, sym}
use Rattle.jx_base.specs.declared.states.AnswerKind.{AnswerKind}
use Rattle.jx_base.specs.declared.states.CallState.TheVariants as call
use Rattle.nucleus_calls.proofs.ResumedCalls.{ended_reply, failed_reply, rest_reply}
use Rattle.nucleus_tables.specs.CallTables.{has_parcel}
use Rattle.nucleus_calls.proofs.receiving.bare_answer.Goals as goal

pub returns-in-CopyFailed : goal.returns-in-CopyFailed
returns-in-CopyFailed c a q h = failed_reply a (sym q ∙ c.in-CopyFailed.is)

pub returns-in-Ended : goal.returns-in-Ended
returns-in-Ended c a q h = ended_reply a (sym q ∙ c.in-Ended.is)

pub returns-in_default : goal.returns-in_default
returns-in_default c a q h = rest_reply a (ap (λ (k : AnswerKind). has_parcel (call.Answered k)) (sym q) ∙ h) (λ z. c.in_default.not-CopyFailed (q ∙ z)) (λ z. c.in_default.not-Ended (q ∙ z))
