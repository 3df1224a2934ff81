-- What the making of a domain does to the tables.
use Rattle.std.specs.Prelude.{◌≡◌, ℕ, ◌+◌, true, Result, Ok, Err, length}
use Rattle.jx_base.specs.declared.act.Refusal.{Refusal}
use Rattle.jx_base.specs.declared.act.Reply.TheVariants as reply
use Rattle.jx_base.specs.declared.program.System.{System}
use Rattle.jx_model.specs.Granules.{heap_granules}
use Rattle.jx_model.specs.Replies.{new_domain}
use Rattle.domain_table.specs.DomainLists as Lists
use Rattle.extent_pool.specs.Taken.{with_run}
use Rattle.nucleus_tables.specs.Inner.{past_in}
use Rattle.nucleus_domains.specs.declared.birth.Newborn.{Newborn}
use Rattle.nucleus_tables.specs.declared.tables.Tables.{Tables}

-- a live domain more of the template, whose heap takes the granules from there
abbrev pub with_newborn : System → Tables → ℕ → Newborn → Tables
with_newborn s x template born =
    record x {
      domains = Lists.with_domain x.domains (Lists.new_domain template (record { 0 = 0 }) born.at);
      space = record x.space { taken = with_run x.space.taken born.at (heap_granules s template) true };
    }

-- the reply is the one that the past gives, and the tables are as it says
abbrev pub IsBorn : System → Tables → Tables → ℕ → Result Newborn Refusal → Type 0
IsBorn s old new template (Ok born) =
    (new ≡ with_newborn s old template born)
    × (new_domain s (past_in old) template ≡ reply.Domain born.domain born.at)
    × (born.domain.0 ≡ length old.domains.domains + 1)
IsBorn s old new template (Err refusal) =
    (new ≡ old) × (new_domain s (past_in old) template ≡ reply.Refused refusal)
