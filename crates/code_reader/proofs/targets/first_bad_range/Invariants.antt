use Rattle.std.proofs.Common.{◌≡◌, drop}
use Rattle.std.specs.Prelude.{find, not}
use Rattle.code_reader.specs.CodeReading.{is_marked, is_good_range}
use Rattle.code_reader.proofs.targets.first_bad_range.Given as goal

abbrev pub invariant-loop-range : goal.invariant-loop-range
invariant-loop-range l = find (λ r. not (is_good_range l.size (is_marked l.starts) r)) (drop l.range-index l.table) ≡ find (λ r. not (is_good_range l.size (is_marked l.starts) r)) l.table
