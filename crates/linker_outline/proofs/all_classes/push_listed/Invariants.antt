use Rattle.std.proofs.Common.{◌≡◌, ◌++◌, take}
use Rattle.linker_outline.proofs.all_classes.push_listed.Given as goal

abbrev pub invariant-loop-name : goal.invariant-loop-name
invariant-loop-name l = l.names.items ≡ l.initial.names.items ++ take l.name-index l.listed
