use Rattle.std.proofs.Common.{◌≡◌, take}
use Rattle.std.specs.Prelude.{flat_map}
use Rattle.std.specs.Str.{bytes_eq}
use Rattle.jx_base.specs.Basics.{all_added}
use Rattle.link_model.specs.ClassFiles.{arrays_of_member}
use Rattle.linker_outline.proofs.file_arrays.add_arrays_of_file.Given as goal

abbrev pub invariant-loop-place : goal.invariant-loop-place
invariant-loop-place l = l.names.keys ≡ all_added bytes_eq l.initial.names.keys (flat_map (arrays_of_member l.class) (take l.place l.class.methods))
