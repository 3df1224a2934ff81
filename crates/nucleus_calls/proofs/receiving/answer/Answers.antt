use Rattle.std.proofs.Common.{◌≡◌, ◌∙◌, ap, is_some, subst, sym, Some, ◌⊎◌}
use Rattle.std.proofs.lemmas.Option.{slice_get_within}
use Rattle.jx_base.specs.declared.act.Entry.{Entry}
use Rattle.jx_base.specs.declared.states.CallState.TheVariants as call
use Rattle.jx_model.specs.Calls.{answer_kind}
use Rattle.nucleus_calls.proofs.CallMoves.{call_there}
use Rattle.nucleus_calls.proofs.ReceivedParcels.{places_at}
use Rattle.nucleus_calls.proofs.ResumedCalls.{awaited, awaited_bare, awaited_made, awaited_reply, awaited_state, awaited_there, sent_reply, Returns, Throws}
use Rattle.nucleus_tables.specs.CallTables.{has_parcel}
use Rattle.nucleus_calls.proofs.receiving.answer.Goals as goal

pub of-requires : goal.of-requires
of-requires c =
    let m = awaited_made c.args.system.now c.args.tables.now c.requires.tables c.args.call.0 c.requires.resumable in
    ap is_some (places_at c.args.system.now c.args.tables.now c.requires.tables c.args.call.0 m.0 m.1)

pub at-requires : goal.at-requires
at-requires c =
    let k = awaited_there c.args.system.now c.args.tables.now c.requires.tables c.args.call.0 c.requires.resumable c.of.result c.of.ensures c.in-Some.place c.in-Some.is in
    slice_get_within c.args.tables.now.journal.entries c.in-Some.place k.0 k.1

pub state-requires : goal.state-requires
state-requires c =
    let m = awaited_made c.args.system.now c.args.tables.now c.requires.tables c.args.call.0 c.requires.resumable in
    ap is_some (call_there c.args.system.now c.args.tables.now c.requires.tables c.args.call.0 m.0 m.1)

pub returns-in-Some : goal.returns-in-Some
returns-in-Some c =
    let s = c.args.system.now in
    let old = c.args.tables.now in
    let k = awaited_there s old c.requires.tables c.args.call.0 c.requires.resumable c.of.result c.of.ensures c.in-Some.place c.in-Some.is in
    let both : Some k.0 ≡ Some c.at.result.now = sym k.1 ∙ c.at.ensures in
    let same : k.0 ≡ c.at.result.now = cc in
    sent_reply s old c.requires.tables c.args.call.0 c.requires.resumable c.at.result.now.act c.answer_in.result
    (subst (λ (e : Entry). Returns e.act (awaited s old c.requires.tables c.args.call.0 c.requires.resumable) ⊎ Throws e.act (awaited s old c.requires.tables c.args.call.0 c.requires.resumable)) same k.2)
    c.answer_in.ensures.returned c.answer_in.ensures.thrown

pub unreachable-requires : goal.unreachable-requires
unreachable-requires c =
    c.in_default.not-Answered (answer_kind (awaited c.args.system.now c.args.tables.now c.requires.tables c.args.call.0 c.requires.resumable))
    (awaited_state c.args.system.now c.args.tables.now c.requires.tables c.args.call.0 c.requires.resumable c.state.result c.state.ensures)

pub returns-in-Answered : goal.returns-in-Answered
returns-in-Answered c =
    let s = c.args.system.now in
    let old = c.args.tables.now in
    let state = awaited_state s old c.requires.tables c.args.call.0 c.requires.resumable c.state.result c.state.ensures in
    let both : call.Answered c.in-Answered.kind ≡ call.Answered (answer_kind (awaited s old c.requires.tables c.args.call.0 c.requires.resumable)) = sym c.in-Answered.is ∙ state in
    let same : c.in-Answered.kind ≡ answer_kind (awaited s old c.requires.tables c.args.call.0 c.requires.resumable) = cc in
    c.bare_answer.ensures (awaited s old c.requires.tables c.args.call.0 c.requires.resumable) same
    (ap has_parcel both ∙ awaited_bare s old c.requires.tables c.args.call.0 c.requires.resumable c.of.result c.of.ensures c.in-None.is)
    ∙ awaited_reply s old c.requires.tables c.args.call.0 c.requires.resumable
