use Rattle.std.proofs.Common.{◌≡◌, ◌∙◌, ◌<◌, ◌∷◌, ◌++◌, [], ℕ, refl, sym, ap, subst, List, length, length-append, arith}
use Rattle.table_threads.specs.Changes.{changed_at}
use Rattle.call_table.specs.declared.calls.Call.{Call}
use Rattle.call_table.specs.CallLists.{CallsState, new_call}
use Rattle.call_table.specs.Inner.{IsWide}
use Rattle.call_table.specs.QueueLists.{with_last}
use Rattle.call_table.proofs.CallQueues.{AreQueued, AreRunning, free_past, queued_more, running_more, wide_changed}
use Rattle.call_table.proofs.calls.Calls.queue.Goals as goal

pub push-requires-clause-free : goal.push-requires-clause-free
push-requires-clause-free c =
    free_past c.self.inside.calls.items c.self.inside.queued c.len-place.result c.self.invariant.queued (omega (arith, c.len-place.ensures, c.self.inside.calls.ok.0))

pub invariant_of-self : goal.invariant_of-self
invariant_of-self c =
    let x = c.self.inside in
    let calls : List Call = x.calls.items in
    let s = c.args.service.0 in
    let call : Call = new_call c.args.caller c.args.thread c.args.service in
    let limit : x.limit ≡ c.args.self.now.limit = ap (λ (y : CallsState). y.limit) c.self.view_is in
    let count : length calls ≡ length c.args.self.now.calls = ap (λ (y : CallsState). length y.calls) c.self.view_is in
    let place : c.len-place.result ≡ length calls = c.len-place.ensures ∙ c.self.inside.calls.ok.0 in
    let below : s < length x.queued.queues = omega (arith, c.self.invariant.wide_queued.queues, c.requires.service.1) in
    let new : c.push_reserved.new.self.items ≡ calls ++ call ∷ [] = c.push_reserved.ensures.items in
    let pushed : c.push.new.self ≡ record x.queued { queues = changed_at s (with_last (length calls)) x.queued.queues } =
    c.push.ensures ∙ ap (λ (k : ℕ). record x.queued { queues = changed_at s (with_last k) x.queued.queues }) place
    in
    record {
      small = c.self.invariant.small;
      count = omega (arith, ap (λ (cs : List Call). length cs) new, length-append calls (call ∷ []), limit, count, c.requires.room);
      capacity = omega (arith, c.self.invariant.capacity, c.push_reserved.ensures.capacity);
      wide_queued = subst (IsWide x.limit) (sym c.push.ensures) (wide_changed x.limit x.queued s (with_last c.len-place.result) c.self.invariant.wide_queued);
      wide_running = c.self.invariant.wide_running;
      queued = subst (λ (cs : List Call). AreQueued cs c.push.new.self) (sym new)
          (subst (AreQueued (calls ++ call ∷ [])) (sym pushed) (queued_more calls x.queued call c.self.invariant.queued refl below));
      running = subst (λ (cs : List Call). AreRunning cs x.running) (sym new) (running_more calls x.running call c.self.invariant.running refl);
    }
