-- The machine of a domain: its state after its own entries, and what it does next.
use Rattle.std.specs.Prelude.{ℕ, [], ◌∷◌, Some, None}
use Rattle.jx_base.specs.declared.act.Act.{Act}
use Rattle.jx_base.specs.declared.act.Act.TheVariants as act
use Rattle.jx_base.specs.declared.act.Reason.TheVariants as reason
use Rattle.jx_base.specs.declared.program.System.{System}
use Rattle.jx_base.specs.Histories.{Past}
use Rattle.program_model.specs.Lookup.{template_at}
use Rattle.machine_model.specs.State.{State}
use Rattle.machine_model.specs.Start.{start_of}
use Rattle.machine_model.specs.Running.{Step, Ask, step, state_at_act}
use Rattle.machine_model.specs.AfterEntry.{after_entry}

-- the state of nothing, where the plan has no such template
unfoldable pub no_state : State
no_state =
    record {
      fuel = 0;
      store = record { objects = []; left = 0; statics = []; literals = []; exports = [] };
      threads = [];
      running = None;
    }

-- the state of a domain of template t after its own entries, the newest one first
unfoldable pub domain_state : System → ℕ → Past → State
domain_state s t [] = elim (template_at s t) [ None ↦ no_state | Some x ↦ start_of s x ]
domain_state s t (e ∷ own) = after_entry s (state_at_act s (domain_state s t own)) e

-- what a domain does next: an act, or nothing, since no thread runs
pub data NextAct : Type 0 where
  Does : Act → NextAct
  Idle : NextAct

-- what a domain in a settled state does next
unfoldable pub act_in : System → State → NextAct
act_in s st =
    elim st.running [
      | None ↦ Idle
      | Some t ↦ elim (step s st t) [ Ask a ↦ Does a | Step new ↦ Does (act.End reason.Fuel) ]
    ]

-- what a domain of template t does next after its own entries
unfoldable pub next_act : System → ℕ → Past → NextAct
next_act s t own = act_in s (state_at_act s (domain_state s t own))

-- what a computed case opens
unfoldable pub opened_machine : Unit {0}
unfolding no_state domain_state act_in next_act
opened_machine = tt
