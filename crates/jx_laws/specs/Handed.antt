-- What is handed over was held by who sent it.
use Rattle.std.specs.Prelude.{◌≡◌, ℕ, ◌&&◌, Some, IsTrue}
use Rattle.std.specs.List.{list_any}
use Rattle.jx_base.specs.declared.act.Entry.{Entry}
use Rattle.jx_base.specs.declared.value.Parcel.{Parcel}
use Rattle.jx_base.specs.Histories.{Past, is_own}
use Rattle.jx_model.specs.Moments.{IsMoment}
use Rattle.jx_model.specs.Domains.{is_live}
use Rattle.jx_model.specs.Portals.{received_parcel, gives_portal, holds_portal}
use Rattle.jx_model.specs.Replies.{holds_all}

-- an entry of the past sent the parcel, and its domain held all that is in it
pub record WasSent (past : Past) (p : Parcel) : Type 0 where
  pub entry : Entry
  pub before : Past
  pub moment : IsMoment past entry before
  pub held : IsTrue (holds_all before entry.domain.0 p)

-- each parcel that a take or resume hands over was sent before by a domain that held all that is in it
abbrev pub ParcelsWereHeld : Past → Type 0
ParcelsWereHeld whole = (e : Entry) (past : Past) (p : Parcel) → IsMoment whole e past → received_parcel e.act e.reply ≡ Some p → WasSent past p

-- a live domain holds a portal exactly where some entry of its own gave it one
abbrev pub PortalsAreKept : Past → Type 0
PortalsAreKept past = (d k : ℕ) → holds_portal past d k ≡ (is_live past d && list_any (λ e. is_own d e && gives_portal k e) past)
