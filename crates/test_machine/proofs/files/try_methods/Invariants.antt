use Rattle.std.proofs.Common.{take, IfSome}
use Rattle.std.specs.List.{AllByRecursion}
use Rattle.class_grammar.specs.ReadFiles.{IsReadCode}
use Rattle.test_machine.proofs.files.try_methods.Given as goal

abbrev pub invariant-loop-method : goal.invariant-loop-method
invariant-loop-method l = AllByRecursion (λ m. IfSome m.code IsReadCode) (take l.method-index l.methods)
