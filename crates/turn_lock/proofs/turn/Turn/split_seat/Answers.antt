use Rattle.std.proofs.Common.{rules, ap}
use Rattle.turn_lock.proofs.Steps.{splits_pass, allows_learn}
use Rattle.turn_lock.proofs.turn.Turn.split_seat.Goals as goal

pub split_seat-part-requires : goal.split_seat-part-requires
split_seat-part-requires g c = let r = c.requires in (search rules, search rules, splits_pass _ _ _ _ _ _ r.idle r.live r.whole r.born (search rules))

pub load-requires : goal.load-requires
load-requires g c = (search rules, search rules, allows_learn _ _ _ _ _ _ (ap (λ m. m.0.page.spent) c.split_seat-part.ensures.4))
