use Rattle.std.proofs.Common.{◌≡◌, ◌++◌}
use Rattle.std.specs.List.{AllByRecursion}
use Rattle.std.specs.Vec.Iter.{into_iter_items}
use Rattle.class_grammar.specs.ReadFiles.{IsReadFile}
use Rattle.linker.proofs.linking.all_with_bodies.Given as goal

abbrev pub invariant-loop-file : goal.invariant-loop-file
invariant-loop-file l =
    (l.classes.items ++ into_iter_items l.file-iterator ≡ l.fn.files.items) × AllByRecursion IsReadFile (into_iter_items l.file-iterator)
