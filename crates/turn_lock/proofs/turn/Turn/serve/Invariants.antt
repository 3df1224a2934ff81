use Rattle.std.proofs.Common.{◌≡◌, ℕ, ◌%◌}
use Rattle.turn_lock.specs.Views.{at_stage}
use Rattle.turn_lock.specs.Steps.{word_modulus}
use Rattle.turn_lock.specs.declared.view.Stage.TheVariants.{Waiting}
use Rattle.turn_lock.proofs.turn.Turn.serve.Given as goal

abbrev pub invariant-loop : goal.invariant-loop
invariant-loop g l = (l.seat.table_id ≡ l.fn.seat.table_id) × (l.seat.id ≡ l.fn.seat.id) × ((n : ℕ) × (n % word_modulus ≡ l.ticket) × (l.seat.me ≡ (at_stage l.fn.seat.me.0 (Waiting n), l.fn.seat.me.1)))
