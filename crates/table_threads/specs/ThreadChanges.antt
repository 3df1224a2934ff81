-- What an entry makes of the records of domains and threads.
use Rattle.std.specs.Prelude.{ℕ, Bool, true, false, List, [], ◌∷◌, ◌++◌, map, Option, Some, None, suc, zero}
use Rattle.jx_base.specs.declared.act.Entry.{Entry}
use Rattle.jx_base.specs.declared.states.DomainState.{DomainState}
use Rattle.jx_base.specs.declared.program.System.{System}
use Rattle.jx_base.specs.Basics.{up_to}
use Rattle.jx_base.specs.Histories.{Past}
use Rattle.jx_model.specs.Domains.{domains_made, named_template, reply_granule}
use Rattle.jx_model.specs.Tables.{ThreadRecord, thread_records}
use Rattle.std.specs.Option.{unwrap_or}
use Rattle.jx_base.specs.declared.act.Act.{Act}
use Rattle.jx_base.specs.declared.act.Act.TheVariants as act
use Rattle.jx_base.specs.declared.act.Reply.{Reply}
use Rattle.jx_base.specs.declared.act.Reply.TheVariants as reply
use Rattle.jx_base.specs.declared.ids.CallId.{CallId}
use Rattle.jx_base.specs.declared.ids.ServiceId.{ServiceId}
use Rattle.jx_base.specs.declared.states.ThreadState.{ThreadState}
use Rattle.jx_base.specs.declared.states.ThreadState.TheVariants as thread
use Rattle.jx_model.specs.Threads.{served_after, state_after, serving_state}
use Rattle.table_threads.specs.Changes.{changed_at}

-- the record of the domain that an entry makes
abbrev pub born : System → Entry → DomainState
born s e =
    record {
      template = unwrap_or (named_template s e.act) 0;
      creator = e.domain;
      at = reply_granule e.reply;
      ended = None;
    }

-- what a thread does where nothing made it stop
abbrev pub runs_as : Option ServiceId → Option CallId → ThreadState
runs_as None c = thread.Running
runs_as (Some s) c = serving_state s c

-- a thread's record after its own entry
abbrev pub thread_record_after : ThreadRecord → Act → Reply → ThreadRecord
thread_record_after item a r =
    record item {
      state = state_after (runs_as item.service (served_after item.serves a)) a r;
      serves = served_after item.serves a;
    }

-- whether an act of a running thread leaves it running as before
abbrev pub leaves_thread : Act → Reply → Bool
leaves_thread (act.Call s m p) (reply.Queued c) = false
leaves_thread (act.Take c) r = false
leaves_thread (act.Return c p) r = false
leaves_thread (act.Throw c p) r = false
leaves_thread act.Yield r = false
leaves_thread (act.EndThread k) r = false
leaves_thread _ _ = true

-- a thread that was just added is idle
abbrev pub idle_record : ServiceId → ThreadRecord
idle_record k = record { service = Some k; state = thread.Idle k; serves = None }

-- all threads, by domain
abbrev pub thread_table : Past → List (List ThreadRecord)
thread_table past = map (thread_records past) (up_to (domains_made past))

-- the records of a domain that was just made
abbrev pub first_records : List ThreadRecord
first_records = record { service = None; state = thread.Running; serves = None } ∷ []

-- the table of the threads with the record of one thread changed; Domain Zero has none there
abbrev pub own_changed : ℕ → ℕ → (ThreadRecord → ThreadRecord) → List (List ThreadRecord) → List (List ThreadRecord)
own_changed zero t f table = table
own_changed (suc i) t f table = changed_at i (changed_at t f) table

-- the table of the threads with idle ones added to a domain
abbrev pub own_added : ℕ → List ServiceId → List (List ThreadRecord) → List (List ThreadRecord)
own_added zero new table = table
own_added (suc i) new table = changed_at i (λ items. items ++ map idle_record new) table
