use Rattle.std.proofs.Common.{◌≡◌, [], ◌∷◌, take}
use Rattle.std.specs.Prelude.{flat_map}
use Rattle.std.specs.Str.{bytes_eq}
use Rattle.jx_base.specs.Basics.{all_added}
use Rattle.link_model.specs.ClassFiles.{arrays_of}
use Rattle.linker_outline.proofs.FileArrays.{memories, strings}
use Rattle.linker_outline.proofs.file_arrays.array_names.Given as goal

abbrev pub invariant-loop-class : goal.invariant-loop-class
invariant-loop-class l = l.names.keys ≡ all_added bytes_eq (strings ∷ memories ∷ []) (flat_map arrays_of (take l.class-index l.files))
