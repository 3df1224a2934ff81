-- Files that are got of a shelf, and files that aren't.
use Rattle.std.specs.Prelude.{◌≡◌, ◌≤◌, ℕ, List, length, Some, None, Result, Ok, Err, Vec}
use Rattle.std.specs.declared.alloc.Global.{Global}
use Rattle.jx_base.specs.Files.{Files, HasLongFile, longest_file}
use Rattle.jx_top.specs.Outcomes.{Outcome, outcome_of}
use Rattle.jx_top.specs.Outcomes as outcome
use Rattle.jx_top.specs.declared.status.Status.{Status}

-- the file is got, with those bytes
pub record IsGot (files : Files) (file bytes : List ℕ) : Type 0 where
  pub found : files file ≡ Some bytes
  pub short : length bytes ≤ longest_file

-- the file isn't got, and the outcome says so
abbrev pub IsNotGot : Files → List ℕ → Outcome → Type 0
IsNotGot files file (outcome.Missing n) = (n ≡ file) × (files file ≡ None)
IsNotGot files file (outcome.TooLong n) = (n ≡ file) × HasLongFile files file
IsNotGot files file _ = ⊥

-- the outcome is one of a fetch that gave no bytes: the shelf failed, memory was refused, or the file isn't got
abbrev pub IsFailedFetch : Files → List ℕ → Outcome → Type 0
IsFailedFetch files file outcome.ShelfFault = Unit {0}
IsFailedFetch files file outcome.OutOfMemory = Unit {0}
IsFailedFetch files file o = IsNotGot files file o

-- the bytes of the file, or why there are none
abbrev pub FetchesBytes : Files → List ℕ → Result (Vec ℕ Global) Status → Type 0
FetchesBytes files file (Ok v) = IsGot files file v.items
FetchesBytes files file (Err status) = IsFailedFetch files file (outcome_of status)

-- how a fetch that gave no bytes can end, whatever the shelf tells
abbrev pub CanFailFetch : Outcome → Type 0
CanFailFetch outcome.ShelfFault = Unit {0}
CanFailFetch outcome.OutOfMemory = Unit {0}
CanFailFetch (outcome.Missing n) = Unit {0}
CanFailFetch (outcome.TooLong n) = Unit {0}
CanFailFetch _ = ⊥
