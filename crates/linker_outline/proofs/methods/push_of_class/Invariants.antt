use Rattle.std.proofs.Common.{◌≡◌, ◌++◌, map, take}
use Rattle.link_model.specs.Linking.{linked_method}
use Rattle.linker_outline.specs.Methods.{class_source}
use Rattle.linker_outline.proofs.methods.push_of_class.Given as goal

abbrev pub invariant-loop-declared : goal.invariant-loop-declared
invariant-loop-declared l =
    l.methods.items
    ≡ l.initial.methods.items ++ map (linked_method l.selectors) (map (class_source l.id.0) (take l.declared-index l.class.methods))
