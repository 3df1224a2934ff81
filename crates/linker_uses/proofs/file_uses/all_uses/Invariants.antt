use Rattle.std.proofs.Common.{◌≡◌, take}
use Rattle.std.specs.Prelude.{flat_map}
use Rattle.link_model.specs.ClassFiles.{uses_of_member}
use Rattle.linker_uses.proofs.file_uses.all_uses.Given as goal

abbrev pub invariant-loop-place : goal.invariant-loop-place
invariant-loop-place l = l.uses.items ≡ flat_map uses_of_member (take l.place l.class.methods)
