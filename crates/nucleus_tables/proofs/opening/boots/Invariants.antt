use Rattle.std.proofs.Common.{◌≡◌, filter}
use Rattle.std.specs.List.{range_with_len}
use Rattle.jx_model.specs.Permits.{is_boot_template}
use Rattle.nucleus_tables.proofs.opening.boots.Given as goal

-- those so far
abbrev pub invariant-loop-place : goal.invariant-loop-place
invariant-loop-place l = l.boots.items ≡ filter (is_boot_template l.system) (range_with_len 0 l.place)
