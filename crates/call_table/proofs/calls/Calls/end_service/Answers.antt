use Rattle.std.proofs.Common.{◌∙◌, ◌-◌, ◌<◌, ℕ, sym, ap, subst, map, List}
use Rattle.std.specs.List.{count_by}
use Rattle.jx_base.specs.declared.states.AnswerKind.TheVariants as kind
use Rattle.jx_base.proofs.BasicLaws.{ap2}
use Rattle.call_table.specs.declared.calls.Call.{Call}
use Rattle.call_table.specs.CallLists.{CallsState, ended_for, is_pending_for}
use Rattle.call_table.proofs.EndedCalls.{fewer_pending, none_end, one_ended, pending_call}
use Rattle.call_table.proofs.calls.Calls.end_service.Goals as goal

pub loop-call-smaller : goal.loop-call-smaller
loop-call-smaller c =
    let s = c.args.service.0 in
    let n = c.in-Some.call.0 in
    let there = pending_call c.loop-call.self.calls s n c.in-Some.ensures.found in
    subst (λ (x : CallsState). count_by (is_pending_for s) x.calls < count_by (is_pending_for s) c.loop-call.self.calls) (sym c.answer.ensures)
    (fewer_pending s (n - 1) c.loop-call.self.calls there.call kind.Ended there.at there.passes)

pub loop-call-preserved : goal.loop-call-preserved
loop-call-preserved c =
    let s = c.args.service.0 in
    let n = c.in-Some.call.0 in
    let there = pending_call c.loop-call.self.calls s n c.in-Some.ensures.found in
    record {
      calls = ap (λ (x : CallsState). map (ended_for s) x.calls) c.answer.ensures
          ∙ one_ended s (n - 1) c.loop-call.self.calls there.call there.at there.passes
          ∙ c.loop-call.invariant.calls;
      limit = ap (λ (x : CallsState). x.limit) c.answer.ensures ∙ c.loop-call.invariant.limit;
    }

pub returns : goal.returns
returns c =
    let s = c.args.service.0 in
    let done = sym (none_end s c.loop-call.self.calls c.in_default.ensures.none) ∙ c.loop-call.invariant.calls in
    ap2 (λ (cs : List Call) (k : ℕ). record { calls = cs; limit = k }) done c.loop-call.invariant.limit
