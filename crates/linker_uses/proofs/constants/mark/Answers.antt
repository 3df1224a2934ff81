use Rattle.std.proofs.Common.{true, sym, arith}
use Rattle.linker_uses.proofs.MarkLists.{set_beyond}
use Rattle.linker_uses.proofs.constants.mark.Goals as goal

pub returns-else-index-len : goal.returns-else-index-len
returns-else-index-len c = sym (set_beyond c.args.marks.now.items c.args.index true (omega arith))
