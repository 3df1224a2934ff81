use Rattle.std.proofs.Common.{◌≡◌, ◌+◌, drop}
use Rattle.class_grammar.specs.Constants.{misnaming_fault}
use Rattle.class_reader.specs.Pools.{constants_length}
use Rattle.class_reader.proofs.pool.misnaming.Given as goal

abbrev pub invariant-loop-constant : goal.invariant-loop-constant
invariant-loop-constant l =
    (misnaming_fault l.all l.place (drop l.constant-index l.constants) ≡ misnaming_fault l.all l.at l.constants)
    × (l.place + constants_length (drop l.constant-index l.constants) ≡ l.at + constants_length l.constants)
