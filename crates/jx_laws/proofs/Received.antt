-- A queued call is through a portal that its caller held, and so is all that its parcel carries.
use Rattle.std.proofs.Common.{◌≡◌, refl, sym, subst, ℕ, Bool, true, false, not, ◌&&◌, is_some, IfSome}
use Rattle.jx_base.specs.declared.act.Act.{Act}
use Rattle.jx_base.specs.declared.act.Act.TheVariants as act
use Rattle.jx_base.specs.declared.act.Reply.{Reply}
use Rattle.jx_base.specs.declared.act.Refusal.{Refusal}
use Rattle.jx_base.specs.declared.program.System.{System}
use Rattle.jx_base.specs.Histories.{Past}
use Rattle.jx_model.specs.Portals.{holds_portal}
use Rattle.jx_model.specs.Calls.{asked_by, queued_as, is_call}
use Rattle.jx_model.specs.Replies.{reply_to, called, holds_all, ◌refuses◌else◌}
use Rattle.jx_model.specs.Legal.{IsAdmittedPast}
use Rattle.jx_laws.specs.Laws.{ReceivedHolds, IsReceived}
use Rattle.jx_base.proofs.BasicLaws.{both}
use Rattle.jx_model.proofs.Growing.{moment}

-- a test that didn't refuse failed
unrefused : (b : Bool) (r : Refusal) (rest : Reply) → is_some (queued_as (b refuses r else rest)) ≡ true → b ≡ false
unfolding ◌refuses◌else◌ queued_as
unrefused false r rest h = refl
unrefused true r rest h = sym h

holds : (x y : Bool) → not (x && y) ≡ false → (x ≡ true) × (y ≡ true)
holds true true h = (refl, refl)
holds true false h = (refl, sym h)
holds false y h = (sym h, cc)

received : (s : System) (past : Past) (d : ℕ) (a : Act) (r : Reply) → r ≡ reply_to s past d a → is_some (queued_as r) ≡ true → IfSome (asked_by a) (IsReceived past d)
unfolding reply_to asked_by called
received s past d (act.Call k m p) r e h =
    let q = holds (holds_portal past d k.0) (holds_all past d p) (unrefused _ _ _ (subst (λ (x : Reply). is_some (queued_as x) ≡ true) e h)) in
    record { portal = q.0; parcel = q.1 }
received s past d _ r e h = tt

-- each queued call is through a portal that its caller held
pub portals_received : (s : System) (whole : Past) → IsAdmittedPast s whole → ReceivedHolds whole
unfolding is_call
portals_received s whole h e past m q =
    received s past e.domain.0 e.act e.reply (moment s whole e past h m).reply (both (is_some (asked_by e.act)) (is_some (queued_as e.reply)) q).1
