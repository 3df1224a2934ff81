-- A state on the way from a domain's last entry to its next act.
use Rattle.std.specs.Prelude.{◌≡◌, ℕ, ◌∷◌, Some, None}
use Rattle.jx_base.specs.declared.act.Act.{Act}
use Rattle.jx_base.specs.declared.act.Entry.{Entry}
use Rattle.jx_base.specs.declared.program.System.{System}
use Rattle.jx_base.specs.Histories.{Past}
use Rattle.machine_model.specs.State.{State}
use Rattle.machine_model.specs.Running.{Step, Ask, step, after_steps, state_at_act}
use Rattle.machine_model.specs.AfterEntry.{after_entry}
use Rattle.machine_model.specs.Machine.{Does, Idle, domain_state, next_act}

-- the state after so many instructions of the running thread, where one runs
unfoldable pub advanced : System → ℕ → State → State
advanced s n st = elim st.running [ None ↦ st | Some t ↦ after_steps s t n st ]

-- the state is that of a domain of template t after its own entries, and after some instructions of the running thread, up to its next act
abbrev pub Stands : System → ℕ → Past → State → Type 0
Stands s t own st = (n : ℕ) × (st ≡ advanced s n (domain_state s t own))

-- thread k runs, and its next step asks for the act
pub record Asks (s : System) (st : State) (k : ℕ) (a : Act) : Type 0 where
  pub running : st.running ≡ Some k
  pub asked : step s st k ≡ Ask a

-- thread k runs, and its next step leads to the state
pub record StepsTo (s : System) (st : State) (k : ℕ) (new : State) : Type 0 where
  pub running : st.running ≡ Some k
  pub stepped : step s st k ≡ Step new

-- what a state that stands for a domain says of it
pub record StandingHolds (s : System) (t : ℕ) (own : Past) : Type 0 where
  pub first : Stands s t own (domain_state s t own)
  pub on : (st new : State) (k : ℕ) → Stands s t own st → StepsTo s st k new → Stands s t own new
  pub act : (st : State) (k : ℕ) (a : Act) → Stands s t own st → Asks s st k a → next_act s t own ≡ Does a
  pub idle : (st : State) → Stands s t own st → st.running ≡ None → next_act s t own ≡ Idle
  pub spent : (st : State) (k : ℕ) → Stands s t own st → st.running ≡ Some k → st.fuel ≡ 0 → (a : Act) × Asks s st k a
  pub again : (st : State) → Stands s t own st → state_at_act s st ≡ state_at_act s (domain_state s t own)
  pub settled : (st : State) → Stands s t own st → Stands s t own (state_at_act s st)
  pub entry : (st : State) (k : ℕ) (a : Act) (e : Entry) → Stands s t own st → Asks s st k a → Stands s t (e ∷ own) (after_entry s st e)
  pub rested : (st : State) (e : Entry) → Stands s t own st → st.running ≡ None → Stands s t (e ∷ own) (after_entry s st e)
