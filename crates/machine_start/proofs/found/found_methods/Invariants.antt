use Rattle.std.proofs.Common.{◌≡◌}
use Rattle.std.specs.Prelude.{filter}
use Rattle.std.specs.List.{range_with_len}
use Rattle.machine_start.specs.Found.{is_static_at}
use Rattle.machine_start.proofs.found.found_methods.Given as goal

abbrev pub invariant-loop-place : goal.invariant-loop-place
invariant-loop-place l = l.found.items ≡ filter (is_static_at l.system l.selector) (range_with_len 0 l.place)
