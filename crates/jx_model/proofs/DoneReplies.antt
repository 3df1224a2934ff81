-- What a done reply says of the tests that might have refused it.
use Rattle.std.proofs.Common.{◌≡◌, refl, Bool, true, false}
use Rattle.jx_base.specs.declared.act.Reply.{Reply}
use Rattle.jx_base.specs.declared.act.Refusal.{Refusal}
use Rattle.jx_base.specs.Histories.{is_done}
use Rattle.jx_model.specs.Replies.{◌refuses◌else◌}

-- a test that might have refused it failed, and the rest is done
pub undone : (b : Bool) (r : Refusal) (rest : Reply) → is_done (b refuses r else rest) ≡ true → (b ≡ false) × (is_done rest ≡ true)
unfolding ◌refuses◌else◌ is_done
undone true r rest h = cc
undone false r rest h = (refl, h)
