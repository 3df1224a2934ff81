use Rattle.std.proofs.Common.{sym, ap}
use Rattle.jx_base.specs.declared.act.Refusal.{Refusal}
use Rattle.jx_model.specs.Calls.{answer_kind, refused_answer}
use Rattle.nucleus_calls.proofs.AnsweredCalls.{other_refusal}
use Rattle.nucleus_calls.proofs.calls.refused_kind.Goals as goal

pub returns-in-Discarded : goal.returns-in-Discarded
unfolding answer_kind refused_answer
returns-in-Discarded c = ap (λ (r : Refusal). answer_kind (refused_answer r)) (sym c.in-Discarded.is)

pub returns-in_default : goal.returns-in_default
unfolding answer_kind
returns-in_default c = ap answer_kind (sym (other_refusal c.args.refusal c.in_default.not-Discarded))
