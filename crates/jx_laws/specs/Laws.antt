-- The laws of admitted histories.
use Rattle.std.specs.Prelude.{◌≡◌, ℕ, ◌≤◌, ◌↔◌, false, List, [], ◌∷◌, ◌++◌, Some, ◌⊎◌, IsTrue, IfSome, slice_get}
use Rattle.jx_base.specs.declared.act.Act.{Act}
use Rattle.jx_base.specs.declared.act.Act.TheVariants as act
use Rattle.jx_base.specs.declared.act.Reply.{Reply}
use Rattle.jx_base.specs.declared.act.Reply.TheVariants as reply
use Rattle.jx_base.specs.declared.act.Refusal.TheVariants as refusal
use Rattle.jx_base.specs.declared.act.Entry.{Entry}
use Rattle.jx_base.specs.declared.program.System.{System}
use Rattle.jx_base.specs.Basics.{contains_number, passes}
use Rattle.jx_base.specs.Histories.{Past, is_done}
use Rattle.jx_model.specs.Moments.{IsMoment, NonePasses}
use Rattle.jx_model.specs.Domains.{is_live}
use Rattle.jx_model.specs.Portals.{HoldsPortal}
use Rattle.jx_model.specs.Calls.{Asked, asked_of, asked_by, answer_of, is_call, is_take_of, is_answer_to, is_resume_of, is_queued, is_being_served, is_unanswered, server_of, ends_server}
use Rattle.jx_model.specs.MemoryObjects.{lineage_of, objects_of, ended_object, is_valid, extents_made}
use Rattle.jx_model.specs.Holding.{is_of_extent, hold_count, is_extent_in_use}
use Rattle.jx_model.specs.Granules.{Run, used_runs, lies_in}
use Rattle.jx_model.specs.Replies.{answer_reply, holds_all, job_of}
use Rattle.audit_model.specs.AuditText.{call_line}
use Rattle.std.specs.Option.{option_and_then, option_map}

-- ---- revocation

-- the objects that an act works through
unfoldable pub used_objects : Act → List ℕ
used_objects (act.Size m) = m.0 ∷ []
used_objects (act.Get m at w) = m.0 ∷ []
used_objects (act.Set m at w v) = m.0 ∷ []
used_objects (act.Fill m at n b) = m.0 ∷ []
used_objects (act.Copy m at k k_at n) = m.0 ∷ k.0 ∷ []
used_objects (act.Sub m at n) = m.0 ∷ []
used_objects (act.Split m at) = m.0 ∷ []
used_objects (act.Revoke m) = m.0 ∷ []
used_objects _ = []

-- the object is m or was derived from m
abbrev pub DerivesFrom : Past → ℕ → ℕ → Type 0
DerivesFrom past k m = IsTrue (contains_number (lineage_of (objects_of past) k) m)

-- the entry is a done revoke or split of the object
abbrev pub EndsObject : Entry → ℕ → Type 0
EndsObject e m = IsTrue (is_done e.reply) × (ended_object e.act ≡ Some m)

-- the reply refuses the use of an object
abbrev pub RefusesUse : Reply → Type 0
RefusesUse r = (r ≡ reply.Refused refusal.NotHeld) ⊎ (r ≡ reply.Refused refusal.Revoked)

-- after a done revoke or split of m, each use of m or of what was derived from it is refused
abbrev pub RevocationHolds : Past → Type 0
RevocationHolds whole =
    (e f : Entry) (past between : Past) (m k : ℕ) →
    IsMoment whole f (between ++ e ∷ past) →
    EndsObject e m →
    IsTrue (contains_number (used_objects f.act) k) →
    DerivesFrom (between ++ e ∷ past) k m →
    RefusesUse f.reply

-- ---- one answer

-- no entry of a past takes the call, or ends the domain of its service
pub record IsUntouched (whole : Past) (c : ℕ) (past : Past) : Type 0 where
  pub untaken : NonePasses (λ f. is_take_of c f.act) past
  pub live : NonePasses (ends_server whole c) past

-- no entry of a past returns from the call or throws, or ends the domain of its service
pub record IsOpen (whole : Past) (c : ℕ) (past : Past) : Type 0 where
  pub unanswered : NonePasses (λ f. is_answer_to c f.act) past
  pub live : NonePasses (ends_server whole c) past

-- no entry of a past resumes after the call, and the reply gives its answer
pub record IsFirstResume (c : ℕ) (past : Past) (r : Reply) : Type 0 where
  pub waiting : NonePasses (λ f. is_resume_of c f.act) past
  pub given : option_and_then answer_reply (answer_of past c) ≡ Some r

-- each call has at most one take, one return or throw and one resume, each in its time
pub record OneAnswerHolds (whole : Past) : Type 0 where
  pub takes : (e : Entry) (past : Past) (c : ℕ) → IsMoment whole e past → IsTrue (is_take_of c e.act) → IsUntouched whole c past
  pub answers : (e : Entry) (past : Past) (c : ℕ) → IsMoment whole e past → IsTrue (is_answer_to c e.act) → IsOpen whole c past
  pub resumes : (e : Entry) (past : Past) (c : ℕ) →
      IsMoment whole e past → IsTrue (is_resume_of c e.act) → IsFirstResume c past e.reply

-- ---- unanswered calls

-- a call is unanswered exactly where it is queued or served; then its server lives and it has a line
pub record UnansweredHolds (past : Past) : Type 0 where
  pub standing : (c : ℕ) → IsTrue (is_unanswered past c) ↔ (IsTrue (is_queued past c) ⊎ IsTrue (is_being_served past c))
  pub live : (c : ℕ) → IsTrue (is_unanswered past c) → IsTrue (passes (is_live past) (server_of past c))
  pub listed : (c : ℕ) → is_unanswered past c ≡ false ↔ (call_line past c ≡ [])

-- ---- freed only when unheld

-- no two of the runs share a granule
abbrev pub AreApart : List Run → Type 0
AreApart runs =
    (i j g : ℕ) (r q : Run) →
    slice_get runs i ≡ Some r → slice_get runs j ≡ Some q → IsTrue (lies_in g r) → IsTrue (lies_in g q) → i ≡ j

-- no valid object on the extent is held or carried
abbrev pub IsUnheld : Past → ℕ → Type 0
IsUnheld past x = (m : ℕ) → IsTrue (is_of_extent past x m) → IsTrue (is_valid past m) → hold_count past m ≡ 0

-- granules in use lie apart; an extent goes out of use only where it is unheld, and then for ever
pub record FreedHolds (s : System) (whole : Past) : Type 0 where
  pub apart : (past later : Past) → whole ≡ later ++ past → AreApart (used_runs s past)
  pub unheld : (e : Entry) (past : Past) (x : ℕ) →
      IsMoment whole e past → is_extent_in_use (e ∷ past) x ≡ false → IsUnheld (e ∷ past) x
  pub final : (e : Entry) (past : Past) (x : ℕ) →
      IsMoment whole e past → 1 ≤ x → x ≤ extents_made past → is_extent_in_use past x ≡ false → is_extent_in_use (e ∷ past) x ≡ false

-- ---- portals are received

-- the domain held the portal that it called through, and all that the parcel carries
pub record IsReceived (past : Past) (d : ℕ) (a : Asked) : Type 0 where
  pub portal : HoldsPortal past d a.service.0
  pub parcel : IsTrue (holds_all past d a.parcel)

-- each queued call is through a portal that its caller held, with a parcel of what it held
abbrev pub ReceivedHolds : Past → Type 0
ReceivedHolds whole =
    (e : Entry) (past : Past) → IsMoment whole e past → IsTrue (is_call e) → IfSome (asked_by e.act) (IsReceived past e.domain.0)

-- ---- copies

-- a take gives what its call asked, a resume the answer
pub record CopiesHold (whole : Past) : Type 0 where
  pub takes : (e : Entry) (past : Past) (c : ℕ) →
      IsMoment whole e past → IsTrue (is_take_of c e.act) → option_map (λ a. job_of (Some a)) (asked_of past c) ≡ Some e.reply
  pub resumes : (e : Entry) (past : Past) (c : ℕ) →
      IsMoment whole e past → IsTrue (is_resume_of c e.act) → option_and_then answer_reply (answer_of past c) ≡ Some e.reply
