use Rattle.std.proofs.Common.{◌≡◌, ◌∙◌, ◌-◌, ◌+◌, ◌<◌, ℕ, ◌==◌, refl, sym, ap, subst, set, List, length, Option, Some, None, slice_get, arith}
use Rattle.std.specs.Prelude.{IsSome}
use Rattle.std.specs.Option.{option_map}
use Rattle.std.proofs.lemmas.List.{length-set}
use Rattle.jx_base.specs.declared.states.CallState.TheVariants as call
use Rattle.jx_base.proofs.BasicLaws.{both}
use Rattle.table_threads.specs.Changes.{changed_at}
use Rattle.table_threads.proofs.Records.{set_changed}
use Rattle.call_table.specs.declared.calls.Call.{Call}
use Rattle.call_table.specs.CallLists.{CallsState, in_state, is_queued_call}
use Rattle.call_table.specs.Inner.{IsWide}
use Rattle.call_table.specs.QueueLists.{queue_at, with_last, without}
use Rattle.call_table.proofs.CallQueues.{AreQueued, AreRunning, free_waiting, queue_there, queued_else, queued_left, running_come, wide_changed}
use Rattle.call_table.proofs.FirstCalls.{first_in, first_is, is_head, queued_first}
use Rattle.call_table.proofs.calls.Calls.take.Goals as goal

pub unwrap-place-requires : goal.unwrap-place-requires
unwrap-place-requires c = by c.first.result (subst IsSome (sym (first_is c.self.inside c.args.self.now c.args.service.0 c.first.result c.self.view_is c.self.invariant c.first.ensures)) c.requires)
  where
    by : (o : Option ℕ) → IsSome (option_map (λ i. i + 1) o) → IsSome o
    by None h = cc
    by (Some i) h = refl

pub remove-requires-clause-there : goal.remove-requires-clause-there
remove-requires-clause-there c = first_in (queue_at c.self.inside.queued c.args.service.0) c.unwrap-place.result (sym c.first.ensures ∙ c.unwrap-place.ensures)

pub push-requires-clause-number : goal.push-requires-clause-number
push-requires-clause-number c =
    let there = queued_first c.self.inside c.args.service.0 c.unwrap-place.result c.self.invariant (sym c.unwrap-place.ensures ∙ c.first.ensures) in
    omega (arith, there.within, c.self.invariant.count, c.self.invariant.wide_running.room)

pub push-requires-clause-free : goal.push-requires-clause-free
push-requires-clause-free c =
    let x = c.self.inside in
    let there = queued_first x c.args.service.0 c.unwrap-place.result c.self.invariant (sym c.unwrap-place.ensures ∙ c.first.ensures) in
    let waits = both (there.call.service.0 == c.args.service.0) (is_queued_call there.call.state) there.passes in
    free_waiting x.calls.items x.running c.unwrap-place.result there.call c.self.invariant.running there.at (queued_else there.call.state waits.1)

pub index_mut-requires : goal.index_mut-requires
index_mut-requires c =
    let there = queued_first c.self.inside c.args.service.0 c.unwrap-place.result c.self.invariant (sym c.unwrap-place.ensures ∙ c.first.ensures) in
    omega (arith, there.within, c.self.inside.calls.ok.0)

pub overflow_add-result : goal.overflow_add-result
overflow_add-result c =
    let there = queued_first c.self.inside c.args.service.0 c.unwrap-place.result c.self.invariant (sym c.unwrap-place.ensures ∙ c.first.ensures) in
    record { fits = omega (arith, there.within, c.self.invariant.count, c.self.invariant.small) }

pub invariant_of-self : goal.invariant_of-self
invariant_of-self c =
    let x = c.self.inside in
    let calls : List Call = x.calls.items in
    let s = c.args.service.0 in
    let n = c.unwrap-place.result in
    let old : Call = c.index_mut.result.now in
    let first : Some n ≡ slice_get (queue_at x.queued s) 0 = sym c.unwrap-place.ensures ∙ c.first.ensures in
    let head = is_head x s n old c.self.invariant first c.index_mut.ensures.value in
    let new : set calls n (in_state call.Running old) ≡ changed_at n (in_state call.Running) calls = set_changed n (in_state call.Running) calls old head.at in
    let left : c.remove.new.self ≡ record x.queued { queues = changed_at old.service.0 (without n) x.queued.queues } =
    c.remove.ensures ∙ ap (λ (k : ℕ). record x.queued { queues = changed_at k (without n) x.queued.queues }) (sym head.service)
    in
    let come : c.push.new.self ≡ record x.running { queues = changed_at old.service.0 (with_last n) x.running.queues } =
    c.push.ensures ∙ ap (λ (k : ℕ). record x.running { queues = changed_at k (with_last n) x.running.queues }) (sym head.service)
    in
    let below : s < length x.queued.queues = queue_there x.queued s n (first_in (queue_at x.queued s) n (sym first)) in
    record {
      small = c.self.invariant.small;
      count = omega (arith, length-set calls n (in_state call.Running old), c.self.invariant.count);
      capacity = c.self.invariant.capacity;
      wide_queued = subst (IsWide x.limit) (sym c.remove.ensures) (wide_changed x.limit x.queued s (without n) c.self.invariant.wide_queued);
      wide_running = subst (IsWide x.limit) (sym c.push.ensures) (wide_changed x.limit x.running s (with_last n) c.self.invariant.wide_running);
      queued = subst (λ (cs : List Call). AreQueued cs c.remove.new.self) (sym new)
          (subst (AreQueued (changed_at n (in_state call.Running) calls)) (sym left)
          (queued_left calls x.queued n old call.Running c.self.invariant.queued head.at (omega (arith, head.service, below)) refl));
      running = subst (λ (cs : List Call). AreRunning cs c.push.new.self) (sym new)
          (subst (AreRunning (changed_at n (in_state call.Running) calls)) (sym come)
          (running_come calls x.running n old call.Running c.self.invariant.running head.at
          (omega (arith, head.service, below, c.self.invariant.wide_queued.queues, c.self.invariant.wide_running.queues)) refl));
    }

pub returns-clause-number : goal.returns-clause-number
returns-clause-number c =
    first_is c.self.inside c.args.self.now c.args.service.0 (Some c.unwrap-place.result) c.self.view_is c.self.invariant (sym c.unwrap-place.ensures ∙ c.first.ensures)

pub returns-clause-after : goal.returns-clause-after
returns-clause-after c =
    let x = c.self.inside in
    let calls : List Call = x.calls.items in
    let n = c.unwrap-place.result in
    let old : Call = c.index_mut.result.now in
    let head = is_head x c.args.service.0 n old c.self.invariant (sym c.unwrap-place.ensures ∙ c.first.ensures) c.index_mut.ensures.value in
    ap (λ (cs : List Call). record { calls = cs; limit = x.limit })
    (set_changed n (in_state call.Running) calls old head.at ∙ ap (λ (k : ℕ). changed_at k (in_state call.Running) calls) (omega arith))
    ∙ ap (λ (y : CallsState). record y { calls = changed_at (n + 1 - 1) (in_state call.Running) y.calls }) c.self.view_is
