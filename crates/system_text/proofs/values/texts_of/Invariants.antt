use Rattle.std.proofs.Common.{◌≡◌, map, take}
use Rattle.std.specs.List.{filter_map}
use Rattle.toml.specs.Data.{as_str}
use Rattle.toml.specs.View.{view}
use Rattle.system_text.specs.Scan.{texts_at}
use Rattle.system_text.proofs.values.texts_of.Given as goal

abbrev pub invariant-loop-value : goal.invariant-loop-value
invariant-loop-value l = texts_at l.texts.items ≡ filter_map as_str (map view (take l.value-index l.values))
