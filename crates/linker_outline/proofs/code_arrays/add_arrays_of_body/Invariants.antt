use Rattle.std.proofs.Common.{◌≡◌, take}
use Rattle.std.specs.Prelude.{flat_map}
use Rattle.std.specs.Str.{bytes_eq}
use Rattle.jx_base.specs.Basics.{all_added}
use Rattle.link_model.specs.ClassFiles.{arrays_of_instr}
use Rattle.linker_outline.proofs.code_arrays.add_arrays_of_body.Given as goal

abbrev pub invariant-loop-instr : goal.invariant-loop-instr
invariant-loop-instr l = l.names.keys ≡ all_added bytes_eq l.initial.names.keys (flat_map (arrays_of_instr l.file) (take l.instr-index l.body))
