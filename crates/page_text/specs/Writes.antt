-- Texts that are written by way of a page, which goes to the sink when it is full.
use Rattle.std.specs.Prelude.{◌≡◌, ◌≤◌, ℕ, List, ◌++◌, Result, OnOk, OnErr}
use Rattle.jx_base.specs.declared.sink.Failed.{Failed}
use Rattle.jx_base.specs.Puts.{SinkState, HasSinkFailed, TookPrefix, TookWhole}

-- what stands on a page, and what the sink behind it shows
abbrev pub Output : Type 0
Output = List ℕ × SinkState

-- the sink took the front of these bytes, and the rest stands on the page
abbrev pub IsSplit : SinkState → List ℕ → Output → Type 0
IsSplit before bytes now = (front : List ℕ) × TookWhole before front now.1 × (bytes ≡ front ++ now.0)

-- The text stands behind what was on the page; or the sink failed, and it took a prefix.
pub record Writes (text : List ℕ) (before now : Output) (result : Result (Unit {0}) Failed) : Type 0 where
  pub whole : OnOk result (IsSplit before.1 (before.0 ++ text) now)
  pub prefix : OnErr result (TookPrefix before.1 (before.0 ++ text) now.1)
  pub later : before.1.faults ≤ now.1.faults
  pub cause : OnErr result (HasSinkFailed before.1 now.1)
