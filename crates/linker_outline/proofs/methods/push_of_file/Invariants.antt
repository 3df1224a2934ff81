use Rattle.std.proofs.Common.{◌≡◌, ◌++◌, map, take}
use Rattle.link_model.specs.Linking.{linked_method}
use Rattle.linker_outline.specs.Methods.{file_source}
use Rattle.linker_outline.proofs.methods.push_of_file.Given as goal

abbrev pub invariant-loop-place : goal.invariant-loop-place
invariant-loop-place l =
    l.methods.items
    ≡ l.initial.methods.items ++ map (linked_method l.selectors) (map (file_source l.id.0) (take l.place l.class.methods))
