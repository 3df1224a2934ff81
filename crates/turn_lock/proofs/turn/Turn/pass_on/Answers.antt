use Rattle.std.proofs.Common.{rules}
use Rattle.turn_lock.proofs.Steps.{allows_fetch}
use Rattle.turn_lock.proofs.Serving.{passes_after}
use Rattle.turn_lock.proofs.turn.Turn.pass_on.Goals as goal

pub load-requires : goal.load-requires
load-requires g c = (search rules, search rules, allows_fetch _ _ _ _ _ c.requires.holding.0 _ c.requires.holding.1 c.requires.holding.2)

pub fetch_add-served-requires : goal.fetch_add-served-requires
fetch_add-served-requires g c = (search rules, search rules, let h = c.requires.holding in passes_after _ _ _ _ _ h.0 c.args.seat.me _ _ c.args.value (c.load.ensures.2 h.0 h.2) c.exchange-nothing.ensures.3 c.requires.system c.requires.entries c.requires.numbered)
