-- What a sink shows, and what a put does to it.
use Rattle.std.specs.Prelude.{◌≡◌, ◌≤◌, ℕ, List, ◌++◌, Option, Some, None, Result, OnOk, OnErr}
use Rattle.jx_base.specs.declared.sink.Failed.{Failed}
use Rattle.jx_base.specs.Faults.{HasRisen}

-- what a sink shows: the bytes that it took, where it tells them, and how often it has failed
pub record SinkState : Type 0 where
  pub told : Option (List ℕ)
  pub faults : ℕ

-- the sink failed in a call
abbrev pub HasSinkFailed : SinkState → SinkState → Type 0
HasSinkFailed before now = HasRisen before.faults now.faults

-- what a sink that tells holds after these bytes more
abbrev pub with_bytes : Option (List ℕ) → List ℕ → Option (List ℕ)
with_bytes None bytes = None
with_bytes (Some before) bytes = Some (before ++ bytes)

-- the sink took the whole text
abbrev pub TookWhole : SinkState → List ℕ → SinkState → Type 0
TookWhole before text now = now.told ≡ with_bytes before.told text

-- the sink took a prefix of the text
abbrev pub TookPrefix : SinkState → List ℕ → SinkState → Type 0
TookPrefix before text now =
    (front : List ℕ) × (rest : List ℕ) × (text ≡ front ++ rest) × TookWhole before front now

-- the sink took nothing
abbrev pub TookNothing : SinkState → SinkState → Type 0
TookNothing before now = now.told ≡ before.told

-- The sink took the whole text; or it failed, and took a prefix of the text.
pub record Puts (text : List ℕ) (before now : SinkState) (result : Result (Unit {0}) Failed) : Type 0 where
  pub whole : OnOk result (TookWhole before text now)
  pub prefix : OnErr result (TookPrefix before text now)
  pub later : before.faults ≤ now.faults
  pub cause : OnErr result (HasSinkFailed before now)
