-- What a revoke or split ends, and what it leaves.
use Rattle.std.specs.Prelude.{◌≡◌, ℕ, ◌<◌, ◌≤◌, ◌⊎◌, ◌∷◌, true, false, IsTrue}
use Rattle.jx_base.specs.declared.act.Entry.{Entry}
use Rattle.jx_base.specs.Histories.{Past}
use Rattle.jx_model.specs.Moments.{IsMoment}
use Rattle.jx_model.specs.MemoryObjects.{is_valid, IsValidObject, objects_made}
use Rattle.jx_laws.specs.Laws.{EndsObject, DerivesFrom}

-- a new object is valid; a valid one stays so unless what it derives from is revoked or split; one that is not valid never is again
pub record EndsJustWhatDerives (whole : Past) : Type 0 where
  pub new : (e : Entry) (past : Past) (k : ℕ) → IsMoment whole e past → objects_made past < k → k ≤ objects_made (e ∷ past) → is_valid (e ∷ past) k ≡ true
  pub old : (e : Entry) (past : Past) (k : ℕ) →
      IsMoment whole e past → IsValidObject past k → IsTrue (is_valid (e ∷ past) k) ⊎ ((m : ℕ) × EndsObject e m × DerivesFrom past k m)
  pub final : (e : Entry) (past : Past) (k : ℕ) → IsMoment whole e past → k ≤ objects_made past → is_valid past k ≡ false → is_valid (e ∷ past) k ≡ false
