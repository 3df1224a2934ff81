use Rattle.std.proofs.Common.{◌≡◌, take}
use Rattle.std.specs.Prelude.{flat_map}
use Rattle.std.specs.Str.{bytes_eq}
use Rattle.jx_base.specs.Basics.{all_added}
use Rattle.linker_outline.specs.Catches.{arrays_of_catch}
use Rattle.linker_outline.proofs.code_arrays.add_arrays_of_catches.Given as goal

abbrev pub invariant-loop-range : goal.invariant-loop-range
invariant-loop-range l = l.names.keys ≡ all_added bytes_eq l.initial.names.keys (flat_map (arrays_of_catch l.file) (take l.range-index l.table))
