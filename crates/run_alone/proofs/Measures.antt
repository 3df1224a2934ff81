-- How far a run is from its end: the words that are left in its journal.
use Rattle.std.proofs.Common.{ℕ, ◌+◌, ◌-◌, ◌<◌, Bool, true, false, arith}
use Rattle.jx_base.specs.declared.program.System.{System}
use Rattle.program_model.specs.Limits.{journal_limit}
use Rattle.jx_model.specs.Journal.{words_of}
use Rattle.run_alone.specs.Workers.{HasActed, HasCome, past_in}
use Rattle.run_alone.specs.declared.worker.Worker.{Worker}

-- one more than the words that are left, and nothing once the run is over
unfoldable pub left_of : System → Worker → Bool → ℕ
left_of s w true = journal_limit s + 1 - words_of (past_in w) + 1
left_of s w false = 0

-- each act leaves fewer
pub left_falls : (s : System) (old new : Worker) (going : Bool) → HasActed s old new going → left_of s new going < left_of s old true
unfolding left_of
left_falls s old new true h = omega (arith, h.room, h.more)
left_falls s old new false h = omega arith

-- what an act comes to is how far the run is
pub has_come : (s : System) (old new : Worker) (going : Bool) → HasActed s old new going → HasCome s new going
has_come s old new true h = h.going
has_come s old new false h = h
