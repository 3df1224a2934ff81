use Rattle.std.proofs.Common.{rules, ap}
use Rattle.turn_lock.proofs.Steps.{joins_passes, allows_learn}
use Rattle.turn_lock.proofs.turn.Turn.join_seats.Goals as goal

pub join_seat-requires : goal.join_seat-requires
join_seat-requires g c = let r = c.requires in (search rules, search rules, search rules, search rules, joins_passes _ _ _ _ _ _ _ r.idle.0 r.idle.1 r.live.0 r.live.1)

pub load-requires : goal.load-requires
load-requires g c = (search rules, search rules, allows_learn _ _ _ _ _ _ (ap (λ m. m.0.page.spent) c.join_seat.ensures.2))
