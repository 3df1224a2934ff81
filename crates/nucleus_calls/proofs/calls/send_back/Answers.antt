use Rattle.std.proofs.Common.{◌∙◌, sym, ap, subst, ℕ, length}
use Rattle.std.specs.Prelude.{IsSome}
use Rattle.jx_base.specs.declared.act.Refusal.{Refusal}
use Rattle.jx_base.specs.declared.act.Refusal.TheVariants as refusal
use Rattle.jx_base.specs.declared.act.Reply.TheVariants as reply
use Rattle.jx_base.specs.declared.states.AnswerKind.{AnswerKind}
use Rattle.jx_model.specs.Calls.{answer_kind, refused_answer}
use Rattle.nucleus_calls.proofs.Carrying.{sent_carries}
use Rattle.nucleus_calls.specs.Asking.{refused_or}
use Rattle.nucleus_calls.specs.CallActs.{place_for}
use Rattle.nucleus_calls.proofs.calls.send_back.Goals as goal

-- an answer that is refused has no place
placeless : {A : Type 0} (f : Refusal) (n : ℕ) → IsSome (place_for (answer_kind (refused_answer f)) n) → A
unfolding answer_kind refused_answer
placeless refusal.Discarded n h = absurd (cc h)
placeless _ n h = absurd (cc h)

pub send-requires-clause-carried : goal.send-requires-clause-carried
send-requires-clause-carried c h =
    placeless c.in-Some.refusal (length c.args.tables.now.journal.entries)
    (subst (λ (k : AnswerKind). IsSome (place_for k (length c.args.tables.now.journal.entries))) c.refused_kind-kind.ensures h)

pub send-requires-in-None-clause-carried : goal.send-requires-in-None-clause-carried
send-requires-in-None-clause-carried c h =
    sent_carries c.args.system.now c.args.tables.now c.args.domain.0 c.args.call.0 c.args.parcel.now c.requires.tables c.requires.room
    (ap (λ o. refused_or o reply.Done) (sym c.in-None.is) ∙ c.answer_refusal.ensures)
