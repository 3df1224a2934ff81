-- Shelves and sinks in memory.
use Rattle.std.specs.Prelude.{ℕ, ◌-◌, ◌==◌, ◌||◌, Bool, List, [], ◌∷◌, ◌++◌, length, take, map, Some, None, if◌then◌else◌, nat_lt, Vec, String, string_bytes}
use Rattle.std.specs.declared.alloc.Global.{Global}
use Rattle.std.specs.Str.{bytes_eq}
use Rattle.std.specs.List.{list_any}
use Rattle.jx_base.specs.Faults.{one_more}
use Rattle.jx_base.specs.Files.{Files, ShelfState}
use Rattle.jx_base.specs.Puts.{SinkState}

-- a name with the bytes of its file
abbrev pub FileEntry : Type 0
FileEntry = List ℕ × List ℕ

abbrev pub file_entry : String Global × Vec ℕ Global → FileEntry
file_entry file = (string_bytes file.0, file.1.items)

abbrev pub file_entries : List (String Global × Vec ℕ Global) → List FileEntry
file_entries files = map file_entry files

-- in a list of files, the first one of a name counts
abbrev pub file_of : List FileEntry → Files
file_of [] name = None
file_of (file ∷ files) name = if bytes_eq file.0 name then Some file.1 else file_of files name

-- the call at this place, from 0, is one of those that fail
abbrev pub is_listed : List ℕ → ℕ → Bool
is_listed failing place = list_any (λ p. p == place) failing

-- a shelf: its files, the places of the fetches that fail, and how many fetches and faults there were
pub record MemoryShelfState : Type 0 where
  pub files : List FileEntry
  pub failing : List ℕ
  pub calls : ℕ
  pub faults : ℕ

-- what it shows
abbrev pub shown_by_shelf : MemoryShelfState → ShelfState
shown_by_shelf shelf = record { told = Some (file_of shelf.files); faults = shelf.faults }

abbrev pub fetch_fails : MemoryShelfState → Bool
fetch_fails shelf = is_listed shelf.failing shelf.calls

-- the shelf after one fetch
abbrev pub after_fetch : MemoryShelfState → MemoryShelfState
after_fetch shelf = record {
  files = shelf.files;
  failing = shelf.failing;
  calls = one_more shelf.calls;
  faults = if fetch_fails shelf then one_more shelf.faults else shelf.faults;
}

-- a sink: the bytes that it took, its whole room, the places of the puts that fail, and how many puts
-- and faults there were
pub record MemorySinkState : Type 0 where
  pub taken : List ℕ
  pub room : ℕ
  pub failing : List ℕ
  pub calls : ℕ
  pub faults : ℕ

-- what it shows
abbrev pub shown_by_sink : MemorySinkState → SinkState
shown_by_sink sink = record { told = Some sink.taken; faults = sink.faults }

abbrev pub room_left : MemorySinkState → ℕ
room_left sink = sink.room - length sink.taken

-- a put fails at a listed place, or where the piece is longer than the room left
abbrev pub put_fails : MemorySinkState → List ℕ → Bool
put_fails sink bytes = is_listed sink.failing sink.calls || nat_lt (room_left sink) (length bytes)

-- a listed put takes nothing, any other what fits
abbrev pub bytes_taken : MemorySinkState → List ℕ → List ℕ
bytes_taken sink bytes = if is_listed sink.failing sink.calls then [] else take (room_left sink) bytes

-- the sink after one put
abbrev pub after_put : MemorySinkState → List ℕ → MemorySinkState
after_put sink bytes = record {
  taken = sink.taken ++ bytes_taken sink bytes;
  room = sink.room;
  failing = sink.failing;
  calls = one_more sink.calls;
  faults = if put_fails sink bytes then one_more sink.faults else sink.faults;
}
