-- What the end of a domain does to the tables.
use Rattle.std.specs.Prelude.{◌≡◌, ℕ, ◌-◌, false, List, map, if◌then◌else◌}
use Rattle.call_table.specs.CallLists.{ended_for}
use Rattle.call_table.specs.declared.calls.Call.{Call}
use Rattle.jx_base.specs.declared.act.Act.{Act}
use Rattle.jx_base.specs.declared.act.Act.TheVariants as act
use Rattle.jx_base.specs.declared.act.Reason.{Reason}
use Rattle.jx_base.specs.declared.act.Reason.TheVariants as reason
use Rattle.jx_base.specs.declared.program.System.{System}
use Rattle.domain_table.specs.DomainLists as Lists
use Rattle.extent_pool.specs.Taken.{with_run}
use Rattle.jx_model.specs.Granules.{Run}
use Rattle.jx_model.specs.Tables.{ServiceRecord}
use Rattle.portal_table.specs.ServiceLists.{without_domain}
use Rattle.table_steps.specs.Steps.{heap_in, owns}
use Rattle.table_threads.specs.Changes.{changed_at}
use Rattle.nucleus_tables.specs.declared.tables.Tables.{Tables}

-- the act ends its domain for that reason
abbrev pub IsEndingAct : Act → Reason → Type 0
IsEndingAct (act.Exit code) why = why ≡ reason.Exit code
IsEndingAct (act.End r) why = why ≡ r
IsEndingAct _ why = ⊥

-- a call after the end of a domain: one that a service of it owes an answer is answered
abbrev pub lost_call : List ServiceRecord → ℕ → Call → Call
lost_call services d c = if owns services d c.service.0 then ended_for c.service.0 c else c

-- the domain has ended, it holds no portals, and its heap's granules are free
abbrev pub with_tables_ended : System → Tables → ℕ → Reason → Tables
with_tables_ended s x d why =
    let run : Run = heap_in s x.domains.domains d in
    record x {
      domains = record x.domains { domains = changed_at (d - 1) (Lists.ended why) x.domains.domains };
      space = record x.space { taken = with_run x.space.taken run.0 run.1 false };
      services = without_domain x.services d;
    }

-- the tables with those calls
abbrev pub with_calls : Tables → List Call → Tables
with_calls x calls = record x { calls = record x.calls { calls = calls } }

-- so it is, and the calls to its services are answered
abbrev pub with_ended : System → Tables → ℕ → Reason → Tables
with_ended s x d why = with_calls (with_tables_ended s x d why) (map (lost_call x.services.services d) x.calls.calls)
