use Rattle.std.proofs.Common.{arith}
use Rattle.linker_uses.proofs.Meanings.{given, not_given}
use Rattle.linker_uses.proofs.systems.give.Goals as goal

pub returns-then-number-len : goal.returns-then-number-len
returns-then-number-len c = given c.args.classes.now.items c.args.number c.args.meanings c.index_mut.result.now (omega arith) c.index_mut.ensures.value

pub returns-else-number-len : goal.returns-else-number-len
returns-else-number-len c = not_given c.args.classes.now.items c.args.number c.args.meanings (omega arith)
