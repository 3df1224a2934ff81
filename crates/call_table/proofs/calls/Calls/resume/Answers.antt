use Rattle.std.proofs.Common.{◌≡◌, ◌∙◌, ◌-◌, true, refl, sym, ap, subst, set, List, length, Some, slice_get, arith}
use Rattle.std.proofs.lemmas.List.{length-set}
use Rattle.std.proofs.lemmas.Option.{slice_get_read}
use Rattle.jx_base.specs.declared.states.CallState.TheVariants as call
use Rattle.table_threads.specs.Changes.{changed_at}
use Rattle.table_threads.proofs.Records.{set_changed}
use Rattle.call_table.specs.declared.calls.Call.{Call}
use Rattle.call_table.specs.CallLists.{CallsState, IsAnswered, in_state, is_answered_call}
use Rattle.call_table.proofs.CallPlaces.{has_place, holds_there}
use Rattle.call_table.proofs.CallQueues.{AreQueued, AreRunning, answered_else, queued_same, running_same}
use Rattle.call_table.proofs.calls.Calls.resume.Goals as goal

pub overflow_sub-call : goal.overflow_sub-call
overflow_sub-call c = (has_place c.args.self.now.calls c.args.call.0 (λ x. is_answered_call x.state ≡ true) c.requires).from_one

pub index_mut-requires : goal.index_mut-requires
index_mut-requires c =
    let place = has_place c.args.self.now.calls c.args.call.0 (λ x. is_answered_call x.state ≡ true) c.requires in
    omega (arith, place.within, ap (λ (y : CallsState). length y.calls) c.self.view_is, c.self.inside.calls.ok.0)

pub invariant_of-self : goal.invariant_of-self
invariant_of-self c =
    let x = c.self.inside in
    let calls : List Call = x.calls.items in
    let n = c.args.call.0 in
    let old : Call = c.index_mut.result.now in
    let requires : IsAnswered (record { calls = calls; limit = x.limit }) n = subst (λ (y : CallsState). IsAnswered y n) (sym c.self.view_is) c.requires in
    let place = has_place calls n (λ x. is_answered_call x.state ≡ true) requires in
    let at : slice_get calls (n - 1) ≡ Some old = slice_get_read calls (length calls) (n - 1) old refl place.within c.index_mut.ensures.value in
    let other = answered_else old.state (holds_there calls n (λ x. is_answered_call x.state ≡ true) old requires place.from_one at) in
    let new : set calls (n - 1) (in_state call.Resumed old) ≡ changed_at (n - 1) (in_state call.Resumed) calls = set_changed (n - 1) (in_state call.Resumed) calls old at in
    record {
      small = c.self.invariant.small;
      count = omega (arith, length-set calls (n - 1) (in_state call.Resumed old), c.self.invariant.count);
      capacity = c.self.invariant.capacity;
      wide_queued = c.self.invariant.wide_queued;
      wide_running = c.self.invariant.wide_running;
      queued = subst (λ (cs : List Call). AreQueued cs x.queued) (sym new) (queued_same calls x.queued (n - 1) old call.Resumed c.self.invariant.queued at other.0 refl);
      running = subst (λ (cs : List Call). AreRunning cs x.running) (sym new) (running_same calls x.running (n - 1) old call.Resumed c.self.invariant.running at other.1 refl);
    }

pub returns : goal.returns
returns c =
    let x = c.self.inside in
    let calls : List Call = x.calls.items in
    let n = c.args.call.0 in
    let old : Call = c.index_mut.result.now in
    let requires : IsAnswered (record { calls = calls; limit = x.limit }) n = subst (λ (y : CallsState). IsAnswered y n) (sym c.self.view_is) c.requires in
    let place = has_place calls n (λ x. is_answered_call x.state ≡ true) requires in
    let at : slice_get calls (n - 1) ≡ Some old = slice_get_read calls (length calls) (n - 1) old refl place.within c.index_mut.ensures.value in
    ap (λ (cs : List Call). record { calls = cs; limit = x.limit }) (set_changed (n - 1) (in_state call.Resumed) calls old at)
    ∙ ap (λ (y : CallsState). record y { calls = changed_at (n - 1) (in_state call.Resumed) y.calls }) c.self.view_is
