use Rattle.std.proofs.Common.{◌≡◌, map, take}
use Rattle.linker_outline.specs.Keys.{selector_of_key}
use Rattle.linker_outline.proofs.selectors.Selectors.list.Given as goal

abbrev pub invariant-loop-key : goal.invariant-loop-key
invariant-loop-key l = l.list.items ≡ map selector_of_key (take l.key-index l.keys)
