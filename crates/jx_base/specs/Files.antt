-- What a shelf shows, and what a fetch answers.
use Rattle.std.specs.Prelude.{◌≡◌, ℕ, ◌≤◌, ◌<◌, List, length, Option, Some, None, IsSomeAnd}
use Rattle.jx_base.specs.Faults.{HasRisen}
use Rattle.jx_base.specs.declared.shelf.Fetch.{Fetch}
use Rattle.jx_base.specs.declared.shelf.Fetch.TheVariants.{Got, NotThere, TooLong, Failed, OutOfMemory}

-- the bytes of each name that has a file
abbrev pub Files : Type 0
Files = List ℕ → Option (List ℕ)

-- what a shelf shows: its files, where it tells them, and how often it has failed
pub record ShelfState : Type 0 where
  pub told : Option Files
  pub faults : ℕ

-- the shelf failed in a call
abbrev pub HasShelfFailed : ShelfState → ShelfState → Type 0
HasShelfFailed before now = HasRisen before.faults now.faults

-- the length of the longest file that is fetched: 16 MiB
abbrev pub longest_file : ℕ
longest_file = 16777216

-- a longer file stands under the name
abbrev pub HasLongFile : Files → List ℕ → Type 0
HasLongFile files name = IsSomeAnd (files name) (λ bytes. longest_file < length bytes)

-- an answer to a fetch over files that are told
abbrev pub IsToldAnswer : Files → List ℕ → Fetch → Type 0
IsToldAnswer files name (Got v) = (files name ≡ Some v.items) × (length v.items ≤ longest_file)
IsToldAnswer files name NotThere = files name ≡ None
IsToldAnswer files name TooLong = HasLongFile files name
IsToldAnswer files name Failed = Unit {0}
IsToldAnswer files name OutOfMemory = Unit {0}

-- an answer to a fetch, whether the files are told or not
abbrev pub IsAnswer : Option Files → List ℕ → Fetch → Type 0
IsAnswer (Some files) name answer = IsToldAnswer files name answer
IsAnswer None name (Got v) = length v.items ≤ longest_file
IsAnswer None name NotThere = Unit {0}
IsAnswer None name TooLong = Unit {0}
IsAnswer None name Failed = Unit {0}
IsAnswer None name OutOfMemory = Unit {0}
