use Rattle.std.proofs.Common.{◌≡◌, map, take}
use Rattle.link_model.specs.Linking.{array_class_named}
use Rattle.linker_outline.proofs.all_classes.array_classes.Given as goal

abbrev pub invariant-loop-name : goal.invariant-loop-name
invariant-loop-name l = l.classes.items ≡ map array_class_named (take l.name-index l.names)
