use Rattle.std.proofs.Common.{rules, ap, ◌∙◌}
use Rattle.turn_lock.proofs.Steps.{allows_draw, allows_look}
use Rattle.turn_lock.proofs.Serving.{serves}
use Rattle.turn_lock.proofs.turn.Turn.serve.Goals as goal

pub fetch_add-ticket-requires : goal.fetch_add-ticket-requires
fetch_add-ticket-requires g c = (search rules, search rules, allows_draw _ _ _ _ _ _ c.requires.idle c.requires.live)

pub load-found-requires : goal.load-found-requires
load-found-requires g c = (search rules, search rules, let i = c.loop.invariant.2 in allows_look _ _ _ _ _ i.0 _ (ap (λ m. m.1) i.2 ∙ c.requires.bare) (ap (λ m. m.0.stage) i.2))

pub returns-then-found-ticket-clause-served : goal.returns-then-found-ticket-clause-served
returns-then-found-ticket-clause-served g c = let i = c.loop.invariant.2 in serves _ _ c.args.seat.me c.loop.seat.me _ i.0 _ _ i.2 c.if-found-ticket.true i.1 c.load-found.ensures.2
