-- The history of one worker.
use Rattle.std.specs.Prelude.{◌≡◌, ℕ, zero, suc, ◌+◌, ◌/◌, Bool, true, false, ◌&&◌, not, List, [], ◌∷◌, reverse, Option, Some, None, ◌==◌, nat_lt, if◌then◌else◌, find, ⊤}
use Rattle.jx_base.specs.declared.act.Act.{Act}
use Rattle.jx_base.specs.declared.act.Act.TheVariants as act
use Rattle.jx_base.specs.declared.act.Entry.{Entry}
use Rattle.jx_base.specs.declared.act.History.{History}
use Rattle.jx_base.specs.declared.program.System.{System}
use Rattle.jx_base.specs.Basics.{up_to}
use Rattle.program_model.specs.Limits.{journal_limit}
use Rattle.jx_base.specs.Histories.{Past, past_of, own_entries}
use Rattle.jx_model.specs.Journal.{is_full}
use Rattle.jx_model.specs.Domains.{domains_made, template_of}
use Rattle.jx_model.specs.Permits.{acting_thread, is_over, next_boot, can_act, first_alive, first_choice}
use Rattle.jx_model.specs.Replies.{reply_to}
use Rattle.jx_model.specs.Legal.{IsComplete}
use Rattle.machine_model.specs.Machine.{NextAct, Does, Idle, next_act}
use Rattle.std.specs.Option.{option_and_then, option_or, unwrap_or}

-- ---- what the worker picks

-- who acts next, and what
pub record Pick : Type 0 where
  pub domain : ℕ
  pub act : Act

-- whether the act is a yield
unfoldable pub is_yield : Act → Bool
is_yield act.Yield = true
is_yield _ = false

-- whether the domain of the last entry goes on: it isn't Domain Zero, can act and didn't yield
unfoldable pub goes_on : Past → Bool
goes_on [] = false
goes_on (e ∷ past) = not (e.domain.0 == 0) && not (is_yield e.act) && can_act (e ∷ past) e.domain.0

-- the domain of the last entry, or 0
unfoldable pub last_domain : Past → ℕ
last_domain [] = 0
last_domain (e ∷ past) = e.domain.0

-- the least domain above d that can act
unfoldable pub next_above : Past → ℕ → Option ℕ
next_above past d = find (λ k. nat_lt d k && can_act past k) (up_to (domains_made past))

-- the domain whose turn it is: that of the last entry, or the next above it that can act, or the least that can
unfoldable pub next_domain : Past → Option ℕ
next_domain past =
    if goes_on past then Some (last_domain past) else option_or (next_above past (last_domain past)) (first_alive past)

-- the act of the code, where it performs one
unfoldable pub performed : NextAct → Option Act
performed (Does a) = Some a
performed Idle = None

-- the act that the domain's code performs next
unfoldable pub code_act : System → Past → ℕ → Option Act
code_act s past d = option_and_then (λ t. performed (next_act s t (own_entries past d))) (template_of s past d)

-- the act of the domain whose turn it is: that of its code, or its first choice
unfoldable pub act_of_turn : System → Past → ℕ → Option Act
act_of_turn s past d = option_or (code_act s past d) (first_choice past d)

-- the act of a domain's turn, or quiet where there is none
unfoldable pub turn_of : System → Past → Option ℕ → Pick
turn_of s past None = record { domain = 0; act = act.Quiet }
turn_of s past (Some d) = elim (act_of_turn s past d) [ None ↦ record { domain = 0; act = act.Quiet } | Some a ↦ record { domain = d; act = a } ]

-- what the worker picks while the journal has room: the next boot domain, or a domain's turn
unfoldable pub pick_with_room : System → Past → Pick
pick_with_room s past =
    elim (next_boot s past) [ Some t ↦ record { domain = 0; act = act.Create t } | None ↦ turn_of s past (next_domain past) ]

-- what the worker picks next
unfoldable pub pick : System → Past → Pick
pick s past = elim (is_full s past) [ true ↦ record { domain = 0; act = act.Halt } | false ↦ pick_with_room s past ]

-- ---- its history

-- the entry is of the domain and the act that the worker picks
pub record IsPicked (s : System) (past : Past) (e : Entry) : Type 0 where
  pub domain : e.domain.0 ≡ (pick s past).domain
  pub act : e.act ≡ (pick s past).act

-- each entry is what the worker picks after those before it
abbrev pub PicksEach : System → Past → Type 0
PicksEach s [] = ⊤
PicksEach s (e ∷ past) = IsPicked s past e × PicksEach s past

-- the complete history in which each entry is what the worker picks after those before it
pub record IsSingleWorkerHistory (s : System) (h : History) : Type 0 where
  pub complete : IsComplete s h
  pub picked : PicksEach s (past_of h)

-- ---- the same as a function, for computed cases

-- the entry of that act: with its thread, and the reply to it
unfoldable pub entry_for : System → Past → ℕ → Act → Entry
entry_for s past d a =
    record {
      domain = record { 0 = d };
      thread = record { 0 = unwrap_or (acting_thread s past d a) 0 };
      act = a;
      reply = reply_to s past d a;
    }

-- the entry of what the worker picks
unfoldable pub next_entry : System → Past → Entry
next_entry s past = let p : Pick = pick s past in entry_for s past p.domain p.act

-- the past after so many entries more, or once the run is over
unfoldable pub past_after : System → ℕ → Past → Past
past_after s zero past = past
past_after s (suc k) past = elim (is_over past) [ true ↦ past | false ↦ past_after s k (next_entry s past ∷ past) ]

-- the entries of one worker, the oldest first. Each costs 8 words at least, so the journal ends the run
unfoldable pub single_worker_history : System → List Entry
single_worker_history s = reverse (past_after s (journal_limit s / 8 + 2) [])

-- what a computed case opens
unfoldable pub opened_single_worker : Unit {0}
unfolding is_yield goes_on last_domain next_above next_domain performed code_act act_of_turn turn_of pick_with_room pick entry_for next_entry past_after single_worker_history
opened_single_worker = tt
