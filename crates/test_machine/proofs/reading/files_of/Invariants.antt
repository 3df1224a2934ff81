use Rattle.std.specs.List.{AllByRecursion}
use Rattle.class_grammar.specs.ReadFiles.{IsReadFile}
use Rattle.test_machine.proofs.reading.files_of.Given as goal

abbrev pub invariant-loop-short : goal.invariant-loop-short
invariant-loop-short l = AllByRecursion IsReadFile l.files.items
