use Rattle.nucleus_calls.proofs.CallMoves.{places_there}
use Rattle.nucleus_calls.proofs.calls.send.Goals as goal

pub answer-requires-2 : goal.answer-requires-2
answer-requires-2 c = places_there c.args.tables.now c.args.call.0 c.requires.pending c.requires.places
