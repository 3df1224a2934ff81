-- What the tables of a nucleus are seen as.
use Rattle.std.specs.Prelude.{◌≡◌, ℕ, [], ◌∷◌, ◌++◌, Some, reverse}
use Rattle.jx_base.specs.declared.act.Act.{Act}
use Rattle.jx_base.specs.declared.act.Entry.{Entry}
use Rattle.jx_base.specs.declared.program.System.{System}
use Rattle.jx_base.specs.Histories.{Past}
use Rattle.jx_model.specs.Journal.{words_of}
use Rattle.jx_model.specs.Permits.{acting_thread}
use Rattle.jx_model.specs.Calls.{waiting_calls}
use Rattle.jx_model.specs.Tables.{Kept, call_records}
use Rattle.nucleus_tables.specs.NucleusStates.{NucleusState, IsNucleusOf}
use Rattle.nucleus_tables.specs.Stepping.{MayCome}
use Rattle.nucleus_tables.specs.declared.tables.Tables.{Tables}

-- the entries, the newest first
abbrev pub past_in : Tables → Past
past_in x = reverse x.journal.entries

-- what is kept: of the calls what the past says
abbrev pub kept_in : Tables → Kept
kept_in x =
    record {
      past = past_in x;
      over = x.over;
      words = words_of (past_in x);
      creates = x.creates;
      domains = x.domains.domains;
      threads = x.domains.threads;
      services = x.services.services;
      names = x.services.binds;
      calls = call_records (past_in x);
      waiting = waiting_calls (past_in x);
      parts = x.space.parts;
      objects = x.space.objects;
      extents = x.space.extents;
      taken = x.space.taken;
    }

-- what a nucleus with these tables is seen as
abbrev pub state_of : Tables → NucleusState
state_of x =
    record {
      kept = kept_in x;
      journal = x.journal.limit;
      domains = x.domains.limit;
      boots = x.boots.items;
      ended = x.services.ended;
      serving = x.domains.services;
      names = x.services.words;
      calls = x.calls;
      places = x.places;
    }

-- the tables are those of a nucleus of the system
abbrev pub IsOf : System → Tables → Type 0
IsOf s x = IsNucleusOf s (state_of x)

-- the act may be asked for, and is permitted in that thread
pub record IsPermittedIn (s : System) (x : Tables) (d t : ℕ) (a : Act) : Type 0 where
  pub tables : IsOf s x
  pub may_come : MayCome s (past_in x) d a
  pub thread : acting_thread s (past_in x) d a ≡ Some t

-- the tables with the entry behind the others
abbrev pub with_put : Tables → Entry → Tables
with_put x e = record x { journal = record x.journal { entries = x.journal.entries ++ e ∷ [] } }
