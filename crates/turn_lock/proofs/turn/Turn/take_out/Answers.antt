use Rattle.std.proofs.Common.{rules, ap, ◌∙◌, Some, None, ◌∷◌}
use Rattle.atomic_table.specs.Table.{rest}
use Rattle.turn_lock.proofs.Steps.{allows_put}
use Rattle.turn_lock.proofs.Serving.{has_slot}
use Rattle.turn_lock.proofs.turn.Turn.take_out.Goals as goal

pub exchange-requires : goal.exchange-requires
exchange-requires g c = (search rules, (Some c.requires.served.1, has_slot _ _ c.requires.served.2))

pub load-requires : goal.load-requires
load-requires g c = (search rules, search rules, let e = c.exchange.ensures.3 in allows_put _ _ _ _ _ c.requires.served.0 _ (ap (λ m. m.1) e ∙ ap (λ l. (0, None) ∷ rest l) c.requires.served.2) (ap (λ m. m.0.stage) e ∙ c.requires.served.3))
