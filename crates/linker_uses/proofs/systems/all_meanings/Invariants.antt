use Rattle.std.proofs.Common.{◌≡◌, map, take}
use Rattle.link_model.specs.Linking.{meanings_of}
use Rattle.linker_uses.proofs.systems.all_meanings.Given as goal

abbrev pub invariant-loop-file : goal.invariant-loop-file
invariant-loop-file l = l.meanings.items ≡ map (meanings_of l.outline) (take l.file-index l.files)
