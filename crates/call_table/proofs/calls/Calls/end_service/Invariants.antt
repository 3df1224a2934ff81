use Rattle.std.proofs.Common.{◌≡◌, map}
use Rattle.std.specs.List.{count_by}
use Rattle.call_table.specs.CallLists.{ended_for, is_pending_for}
use Rattle.call_table.proofs.calls.Calls.end_service.Given as goal

abbrev pub invariant-loop-call : goal.invariant-loop-call
invariant-loop-call l =
    record {
      calls : map (ended_for l.service.0) l.self.calls ≡ map (ended_for l.service.0) l.initial.self.calls;
      limit : l.self.limit ≡ l.initial.self.limit;
    }

abbrev pub decreases-loop-call : goal.decreases-loop-call
decreases-loop-call l = count_by (is_pending_for l.service.0) l.self.calls
