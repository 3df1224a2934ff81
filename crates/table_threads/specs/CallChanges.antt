-- What the end of a domain makes of the records of calls.
use Rattle.std.specs.Prelude.{ℕ, Bool, true, List, [], Option, Some, ◌==◌, if◌then◌else◌}
use Rattle.jx_base.specs.declared.act.Act.{Act}
use Rattle.jx_base.specs.declared.act.Reply.{Reply}
use Rattle.jx_base.specs.declared.act.Entry.{Entry}
use Rattle.jx_base.specs.declared.states.CallState.{CallState}
use Rattle.jx_base.specs.declared.states.CallState.TheVariants as call
use Rattle.jx_base.specs.declared.states.AnswerKind.TheVariants as kind
use Rattle.jx_base.specs.Basics.{is_number}
use Rattle.jx_base.specs.Histories.{Past}
use Rattle.jx_model.specs.Portals.{owner_of}
use Rattle.jx_model.specs.Tables.{CallRecord}

-- an entry by its parts
abbrev pub entry : ℕ → ℕ → Act → Reply → Entry
entry d t a r = record { domain = record { 0 = d }; thread = record { 0 = t }; act = a; reply = r }

-- whether domain d owns the service
abbrev pub owned_by : Past → ℕ → ℕ → Bool
owned_by past d k = is_number (owner_of past k) d

-- a call's state after the end of a domain, by whether it was that domain's to serve
abbrev pub state_after_end : Bool → CallState → CallState
state_after_end true call.Queued = call.Answered kind.Ended
state_after_end true call.Running = call.Answered kind.Ended
state_after_end lost x = x

-- what it carries then, also by whether that domain made it
abbrev pub carried_after_end : Bool → Bool → CallState → List ℕ → List ℕ
carried_after_end lost gone call.Queued old = if lost then [] else old
carried_after_end lost gone (call.Answered k) old = if gone then [] else old
carried_after_end lost gone _ old = []

-- the place of its answer then, from that of the end
abbrev pub place_after_end : Bool → CallState → Option ℕ → ℕ → Option ℕ
place_after_end true call.Queued old at = Some at
place_after_end true call.Running old at = Some at
place_after_end lost _ old at = old

-- a call's record after the end of domain d at that place, by which services are that domain's
abbrev pub ended_call : (ℕ → Bool) → ℕ → ℕ → CallRecord → CallRecord
ended_call lost d at item =
    record item {
      state = state_after_end (lost item.service) item.state;
      carried = carried_after_end (lost item.service) (item.caller == d) item.state item.carried;
      answered_at = place_after_end (lost item.service) item.state item.answered_at at;
    }
