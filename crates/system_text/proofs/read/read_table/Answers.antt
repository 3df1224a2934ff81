use Rattle.std.proofs.Common.{◌≡◌, ◌∙◌, sym, None}
use Rattle.toml.specs.View.{table_view}
use Rattle.system_text.specs.Description.{plan_fault}
use Rattle.system_text.proofs.Capped.{capped_is_described}
use Rattle.system_text.proofs.Scanned.{plan_fault-scanned}
use Rattle.system_text.proofs.read.read_table.Goals as goal

pub returns-in-Some-clause-fault : goal.returns-in-Some-clause-fault
returns-in-Some-clause-fault c =
    plan_fault-scanned (table_view c.args.table.now) ∙ (sym c.in_ok-fault.ensures ∙ c.in-Some.is)

pub returns-in_ok-plan_of-in-None-clause-found : goal.returns-in_ok-plan_of-in-None-clause-found
returns-in_ok-plan_of-in-None-clause-found c =
    let accepted : plan_fault (table_view c.args.table.now) ≡ None = plan_fault-scanned (table_view c.args.table.now) ∙ (sym c.in_ok-fault.ensures ∙ c.in-None.is) in
    record { accepted = accepted; described = c.in_ok-plan_of-in-None.ensures ∙ capped_is_described (table_view c.args.table.now) accepted }
