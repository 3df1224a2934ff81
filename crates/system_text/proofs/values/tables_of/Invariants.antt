use Rattle.std.proofs.Common.{◌≡◌, map, take}
use Rattle.std.specs.List.{filter_map}
use Rattle.toml.specs.Data.{as_table}
use Rattle.toml.specs.View.{view}
use Rattle.system_text.specs.Scan.{tables_at}
use Rattle.system_text.proofs.values.tables_of.Given as goal

abbrev pub invariant-loop-value : goal.invariant-loop-value
invariant-loop-value l = tables_at l.tables.items ≡ filter_map as_table (map view (take l.value-index l.values))
