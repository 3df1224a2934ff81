-- What the tables of calls and of their places have, by what is kept of each call.
use Rattle.std.specs.Prelude.{◌≡◌, ℕ, Bool, true, false, List, map, Option, None, if◌then◌else◌}
use Rattle.jx_base.specs.declared.states.AnswerKind.TheVariants as kind
use Rattle.jx_base.specs.declared.states.CallState.{CallState}
use Rattle.jx_base.specs.declared.states.CallState.TheVariants as call
use Rattle.call_table.specs.declared.calls.Call.{Call}
use Rattle.jx_model.specs.Tables.{CallRecord}
use Rattle.nucleus_tables.specs.declared.places.CallPlaces.{CallPlaces}

-- what the table of calls has of one
abbrev pub call_of : CallRecord → Call
call_of r =
    record {
      caller = record { 0 = r.caller };
      thread = record { 0 = r.thread };
      service = record { 0 = r.service };
      state = r.state;
    }

-- whether a call in that state has an answer with a parcel that its caller has yet to get
abbrev pub has_parcel : CallState → Bool
has_parcel (call.Answered kind.Value) = true
has_parcel (call.Answered kind.Thrown) = true
has_parcel _ = false

-- where the parcel of its answer stands
abbrev pub parcel_at : CallRecord → Option ℕ
parcel_at r = if has_parcel r.state then r.answered_at else None

-- where its parcels stand
abbrev pub places_of : CallRecord → CallPlaces
places_of r = record { queued = r.queued_at; answered = parcel_at r }

-- both tables are of these calls
pub record AreCallsOf (records : List CallRecord) (calls : List Call) (places : List CallPlaces) : Type 0 where
  pub calls_are : calls ≡ map call_of records
  pub places_are : places ≡ map places_of records
