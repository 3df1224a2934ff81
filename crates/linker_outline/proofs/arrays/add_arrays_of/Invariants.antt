use Rattle.std.proofs.Common.{◌≡◌, ◌≤◌, drop}
use Rattle.std.specs.Str.{bytes_eq}
use Rattle.jx_base.specs.Basics.{all_added}
use Rattle.link_model.specs.ClassFiles.{arrays_of_name}
use Rattle.link_model.specs.LinkFaults.{dimensions_of}
use Rattle.linker_outline.proofs.arrays.add_arrays_of.Given as goal

abbrev pub invariant-loop-left : goal.invariant-loop-left
invariant-loop-left l =
    (l.left ≤ dimensions_of l.class) × (l.names.keys ≡ all_added bytes_eq l.initial.names.keys (arrays_of_name (drop l.left l.class)))

abbrev pub decreases-loop-left : goal.decreases-loop-left
decreases-loop-left l = l.left
