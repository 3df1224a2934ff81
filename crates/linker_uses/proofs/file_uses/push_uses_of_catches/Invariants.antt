use Rattle.std.proofs.Common.{◌≡◌, ◌++◌, take}
use Rattle.std.specs.List.{filter_map}
use Rattle.linker_names.specs.Names.{catch_use}
use Rattle.linker_uses.proofs.file_uses.push_uses_of_catches.Given as goal

abbrev pub invariant-loop-range : goal.invariant-loop-range
invariant-loop-range l = l.uses.items ≡ l.initial.uses.items ++ filter_map catch_use (take l.range-index l.table)
