use Rattle.std.proofs.Common.{◌≡◌, map, take}
use Rattle.link_model.specs.ClassFiles.{uses_of}
use Rattle.link_model.specs.Linking.{meanings_from}
use Rattle.link_model.specs.declared.uses.Used.{Used}
use Rattle.linker_uses.proofs.constants.meanings_of.Given as goal

abbrev pub invariant-loop-index : goal.invariant-loop-index
invariant-loop-index l = l.meanings.items ≡ meanings_from l.outline l.class (map (λ (u : Used). u.index) (uses_of l.class)) 0 (take l.index l.class.constants)
