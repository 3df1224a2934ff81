-- What a journal is seen as, and when an entry has room in it.
use Rattle.std.specs.Prelude.{◌≡◌, ℕ, ◌+◌, ◌*◌, ◌<◌, ◌≤◌, Bool, true, false, List, length, reverse, vec_capacity, ◌⊎◌, if◌then◌else◌}
use Rattle.std.specs.List.{list_any}
use Rattle.jx_base.specs.declared.act.Act.{Act}
use Rattle.jx_base.specs.declared.act.Act.TheVariants as act
use Rattle.jx_base.specs.declared.act.Entry.{Entry}
use Rattle.jx_model.specs.Journal.{entry_words, words_of}
use Rattle.journal.specs.declared.journal.Journal.TheInside.{Inside}

-- the entries, the first one first, and how many words they may cost
pub record JournalState : Type 0 where
  pub entries : List Entry
  pub limit : ℕ

-- what a journal is seen as
abbrev pub journal_state : Inside → JournalState
journal_state j = record { entries = j.entries.items; limit = j.limit }

-- the words that an entry costs at most
abbrev pub most_words : ℕ
most_words = 4104

-- whether the entry is a halt
unfoldable pub is_halt : Entry → Bool
is_halt e = by e.act
  where
    by : Act → Bool
    by act.Halt = true
    by _ = false

-- what the entries cost in all
abbrev pub words_in : JournalState → ℕ
words_in j = words_of (reverse j.entries)

-- there is room for an entry of any cost, and this one costs no more
pub record HasAnyRoom (j : JournalState) (e : Entry) : Type 0 where
  pub cost : entry_words e ≤ most_words
  pub room : words_in j + most_words ≤ j.limit

-- the entry is the first halt, and costs what one does
pub record IsFirstHalt (j : JournalState) (e : Entry) : Type 0 where
  pub halt : is_halt e ≡ true
  pub cost : entry_words e ≡ 8
  pub first : list_any is_halt j.entries ≡ false

-- the entry may be put into the journal
abbrev pub HasRoomFor : JournalState → Entry → Type 0
HasRoomFor j e = HasAnyRoom j e ⊎ IsFirstHalt j e

-- the words are counted; before a halt they are within the limit, and each entry has its place
pub record IsJournal (j : Inside) : Type 0 where
  pub counted : j.words ≡ words_of (reverse j.entries.items)
  pub limit : j.limit ≤ 16777216
  pub within : words_of (reverse j.entries.items) + (if list_any is_halt j.entries.items then 0 else 8) ≤ j.limit + 8
  pub least : 8 * length j.entries.items ≤ words_of (reverse j.entries.items)
  pub capacity : j.limit < 8 * vec_capacity j.entries
