use Rattle.std.proofs.Common.{◌≡◌, sym, ap, subst, [], List, length, arith}
use Rattle.call_table.specs.declared.calls.Call.{Call}
use Rattle.call_table.specs.Inner.{IsWide}
use Rattle.call_table.proofs.CallQueues.{AreQueued, AreRunning, queued_none, running_none, wide_none}
use Rattle.call_table.proofs.calls.Calls.open.Goals as goal

pub invariant_of-result : goal.invariant_of-result
invariant_of-result c =
    let none : c.in_ok-with_capacity.field-0.items ≡ [] = c.in_ok-with_capacity.ensures.items in
    record {
      small = c.ranges.limit.fits;
      count = omega (arith, ap (λ (cs : List Call). length cs) none);
      capacity = omega (arith, c.in_ok-with_capacity.ensures.exact);
      wide_queued = subst (IsWide c.args.limit) (sym c.in_ok-open.ensures) (wide_none c.args.limit);
      wide_running = subst (IsWide c.args.limit) (sym c.in_ok-open-2.ensures) (wide_none c.args.limit);
      queued = subst (λ (cs : List Call). AreQueued cs c.in_ok-open.field-0) (sym none)
          (subst (AreQueued []) (sym c.in_ok-open.ensures) (queued_none c.args.limit));
      running = subst (λ (cs : List Call). AreRunning cs c.in_ok-open-2.field-0) (sym none)
          (subst (AreRunning []) (sym c.in_ok-open-2.ensures) (running_none c.args.limit));
    }
