-- Acts by what they do to the tables.
use Rattle.std.specs.Prelude.{ℕ}
use Rattle.std.specs.Option.{option_map}
use Rattle.jx_base.specs.declared.act.Act.{Act}
use Rattle.jx_base.specs.declared.act.Act.TheVariants as act
use Rattle.jx_base.specs.declared.act.Entry.{Entry}
use Rattle.jx_base.specs.declared.act.Reply.TheVariants as reply
use Rattle.jx_base.specs.declared.states.ThreadState.{ThreadState}
use Rattle.jx_model.specs.Tables.{state_or_over}
use Rattle.domain_table.specs.DomainLists.{thread_in}
use Rattle.table_threads.specs.CallChanges.{entry}
use Rattle.table_threads.specs.ThreadChanges.{thread_record_after}
use Rattle.nucleus_tables.specs.declared.tables.Tables.{Tables}

-- the entry of a done act
abbrev pub done_entry : ℕ → ℕ → Act → Entry
done_entry d t a = entry d t a reply.Done

-- an act that changes nothing
abbrev pub IsPlain : Act → Type 0
IsPlain (act.Print text) = Unit {0}
IsPlain _ = ⊥

-- an act that changes the state of its thread
abbrev pub IsThreadAct : Act → Type 0
IsThreadAct (act.Go t) = Unit {0}
IsThreadAct act.Yield = Unit {0}
IsThreadAct (act.EndThread c) = Unit {0}
IsThreadAct _ = ⊥

-- what a thread does after its own done act
abbrev pub thread_state_after : Tables → ℕ → ℕ → Act → ThreadState
thread_state_after x d t a =
    state_or_over (option_map (λ item. (thread_record_after item a reply.Done).state) (thread_in x.domains d t))
