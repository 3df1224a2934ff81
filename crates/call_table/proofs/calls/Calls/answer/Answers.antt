use Rattle.std.proofs.Common.{◌≡◌, ◌∙◌, ◌-◌, true, refl, sym, ap, subst, set, List, length, arith}
use Rattle.std.proofs.lemmas.List.{length-set}
use Rattle.jx_base.specs.declared.states.CallState.TheVariants as call
use Rattle.table_threads.specs.Changes.{changed_at}
use Rattle.table_threads.proofs.Records.{set_changed}
use Rattle.call_table.specs.declared.calls.Call.{Call}
use Rattle.call_table.specs.CallLists.{CallsState, in_state, is_queued_call}
use Rattle.call_table.specs.Inner.{IsWide}
use Rattle.call_table.specs.QueueLists.{without}
use Rattle.call_table.proofs.CallQueues.{AreQueued, AreRunning, in_queue, in_running, is_open, pending_else, pending_place, queue_there, queued_else, queued_left, queued_same, running_else, running_left, running_same, wide_changed}
use Rattle.call_table.proofs.calls.Calls.answer.Goals as goal

pub overflow_sub-place : goal.overflow_sub-place
overflow_sub-place c = (pending_place c.args.self.now c.args.call.0 c.requires).from_one

pub index-requires : goal.index-requires
index-requires c =
    let place = pending_place c.args.self.now c.args.call.0 c.requires in
    omega (arith, place.within, ap (λ (y : CallsState). length y.calls) c.self.view_is, c.self.inside.calls.ok.0)

pub index_mut-requires : goal.index_mut-requires
index_mut-requires c =
    let place = pending_place c.args.self.now c.args.call.0 c.requires in
    omega (arith, place.within, ap (λ (y : CallsState). length y.calls) c.self.view_is, c.self.inside.calls.ok.0)

-- ---- a queued call

pub remove-requires-clause-there : goal.remove-requires-clause-there
remove-requires-clause-there c =
    let old : Call = c.index.result.now in
    let is = is_open c.self.inside c.args.self.now c.args.call.0 old c.self.view_is c.requires c.index.ensures in
    in_queue c.self.inside (c.args.call.0 - 1) old c.self.invariant is.at (ap is_queued_call c.in-Queued.is)

pub remove-requires-clause-queue : goal.remove-requires-clause-queue
remove-requires-clause-queue c =
    let old : Call = c.index.result.now in
    let is = is_open c.self.inside c.args.self.now c.args.call.0 old c.self.view_is c.requires c.index.ensures in
    queue_there c.self.inside.queued old.service.0 (c.args.call.0 - 1) (in_queue c.self.inside (c.args.call.0 - 1) old c.self.invariant is.at (ap is_queued_call c.in-Queued.is))

pub invariant_of-self : goal.invariant_of-self
invariant_of-self c =
    let x = c.self.inside in
    let calls : List Call = x.calls.items in
    let i = c.args.call.0 - 1 in
    let old : Call = c.index.result.now in
    let written : Call = c.index_mut.result.now in
    let is = is_open x c.args.self.now c.args.call.0 old c.self.view_is c.requires c.index.ensures in
    let there = is_open x c.args.self.now c.args.call.0 written c.self.view_is c.requires c.index_mut.ensures.value in
    let waits : is_queued_call old.state ≡ true = ap is_queued_call c.in-Queued.is in
    let new : set calls i (in_state (call.Answered c.args.kind) written) ≡ changed_at i (in_state (call.Answered c.args.kind)) calls =
    set_changed i (in_state (call.Answered c.args.kind)) calls written there.at
    in
    let below = queue_there x.queued old.service.0 i (in_queue x i old c.self.invariant is.at waits) in
    record {
      small = c.self.invariant.small;
      count = omega (arith, length-set calls i (in_state (call.Answered c.args.kind) written), c.self.invariant.count);
      capacity = c.self.invariant.capacity;
      wide_queued = subst (IsWide x.limit) (sym c.remove.ensures) (wide_changed x.limit x.queued old.service.0 (without i) c.self.invariant.wide_queued);
      wide_running = c.self.invariant.wide_running;
      queued = subst (λ (cs : List Call). AreQueued cs c.remove.new.self) (sym new)
          (subst (AreQueued (changed_at i (in_state (call.Answered c.args.kind)) calls)) (sym c.remove.ensures)
          (queued_left calls x.queued i old (call.Answered c.args.kind) c.self.invariant.queued is.at below refl));
      running = subst (λ (cs : List Call). AreRunning cs x.running) (sym new)
          (running_same calls x.running i old (call.Answered c.args.kind) c.self.invariant.running is.at (queued_else old.state waits) refl);
    }

pub returns-in-Queued : goal.returns-in-Queued
returns-in-Queued c =
    let x = c.self.inside in
    let i = c.args.call.0 - 1 in
    let written : Call = c.index_mut.result.now in
    let there = is_open x c.args.self.now c.args.call.0 written c.self.view_is c.requires c.index_mut.ensures.value in
    ap (λ (cs : List Call). record { calls = cs; limit = x.limit }) (set_changed i (in_state (call.Answered c.args.kind)) x.calls.items written there.at)
    ∙ ap (λ (y : CallsState). record y { calls = changed_at i (in_state (call.Answered c.args.kind)) y.calls }) c.self.view_is

-- ---- a call that runs

pub remove-requires-in_default : goal.remove-requires-in_default
remove-requires-in_default c =
    let old : Call = c.index.result.now in
    let is = is_open c.self.inside c.args.self.now c.args.call.0 old c.self.view_is c.requires c.index.ensures in
    let there = in_running c.self.inside (c.args.call.0 - 1) old c.self.invariant is.at (pending_else old.state is.pending c.in_default.not-Queued) in
    record { queue = queue_there c.self.inside.running old.service.0 (c.args.call.0 - 1) there; there = there }

pub invariant_of-self-in_default : goal.invariant_of-self-in_default
invariant_of-self-in_default c =
    let x = c.self.inside in
    let calls : List Call = x.calls.items in
    let i = c.args.call.0 - 1 in
    let old : Call = c.index.result.now in
    let written : Call = c.index_mut.result.now in
    let is = is_open x c.args.self.now c.args.call.0 old c.self.view_is c.requires c.index.ensures in
    let there = is_open x c.args.self.now c.args.call.0 written c.self.view_is c.requires c.index_mut.ensures.value in
    let runs = pending_else old.state is.pending c.in_default.not-Queued in
    let new : set calls i (in_state (call.Answered c.args.kind) written) ≡ changed_at i (in_state (call.Answered c.args.kind)) calls =
    set_changed i (in_state (call.Answered c.args.kind)) calls written there.at
    in
    let below = queue_there x.running old.service.0 i (in_running x i old c.self.invariant is.at runs) in
    record {
      small = c.self.invariant.small;
      count = omega (arith, length-set calls i (in_state (call.Answered c.args.kind) written), c.self.invariant.count);
      capacity = c.self.invariant.capacity;
      wide_queued = c.self.invariant.wide_queued;
      wide_running = subst (IsWide x.limit) (sym c.remove-in_default.ensures) (wide_changed x.limit x.running old.service.0 (without i) c.self.invariant.wide_running);
      queued = subst (λ (cs : List Call). AreQueued cs x.queued) (sym new)
          (queued_same calls x.queued i old (call.Answered c.args.kind) c.self.invariant.queued is.at (running_else old.state runs) refl);
      running = subst (λ (cs : List Call). AreRunning cs c.remove-in_default.new.self) (sym new)
          (subst (AreRunning (changed_at i (in_state (call.Answered c.args.kind)) calls)) (sym c.remove-in_default.ensures)
          (running_left calls x.running i old (call.Answered c.args.kind) c.self.invariant.running is.at below refl));
    }

pub returns-in_default : goal.returns-in_default
returns-in_default c =
    let x = c.self.inside in
    let i = c.args.call.0 - 1 in
    let written : Call = c.index_mut.result.now in
    let there = is_open x c.args.self.now c.args.call.0 written c.self.view_is c.requires c.index_mut.ensures.value in
    ap (λ (cs : List Call). record { calls = cs; limit = x.limit }) (set_changed i (in_state (call.Answered c.args.kind)) x.calls.items written there.at)
    ∙ ap (λ (y : CallsState). record y { calls = changed_at i (in_state (call.Answered c.args.kind)) y.calls }) c.self.view_is
