-- What stays valid.
use Rattle.std.proofs.Common.{◌≡◌, refl, ◌∙◌, ap, ℕ, ◌<◌, ◌≤◌, Bool, true, false, not, ◌&&◌, List, ◌∷◌, arith, if◌then◌else◌, ◌⊎◌, inl, inr, IsTrue}
use Rattle.std.specs.Prelude.{nat_le}
use Rattle.std.proofs.lemmas.Bool.Decides.{nat_tests}
use Rattle.jx_base.specs.declared.act.Entry.{Entry}
use Rattle.jx_base.specs.Basics.{passes, contains_number}
use Rattle.jx_base.specs.Histories.{Past, is_done}
use Rattle.jx_model.specs.MemoryObjects.{objects_of, objects_made, is_valid, lineage_of, ended_object, ends_one_of}
use Rattle.jx_laws.specs.Laws.{EndsObject, DerivesFrom}
use Rattle.jx_base.proofs.BasicLaws.{ap2, both, passed}
use Rattle.jx_model.proofs.Refusals.{valid_none}
use Rattle.jx_laws.specs.Ended.{EndsJustWhatDerives}
use Rattle.jx_laws.proofs.Basics.{clash, holds}
use Rattle.jx_laws.proofs.Lineage.{valid_old}

-- a number above another fails the test
over : (m n : ℕ) → n < m → nat_le m n ≡ false
over m n l = grind (arith, nat_tests)

-- a number at most another passes the test
under : (m n : ℕ) → m ≤ n → nat_le m n ≡ true
under m n l = grind (arith, nat_tests)

-- a test that passes compares
compares : (m n : ℕ) → nat_le m n ≡ true → m ≤ n
compares m n h = grind (arith, nat_tests)

-- a new object is valid
pub new_is_valid : (e : Entry) (past : Past) (k : ℕ) → objects_made past < k → k ≤ objects_made (e ∷ past) → is_valid (e ∷ past) k ≡ true
unfolding is_valid
new_is_valid e past k l u =
    ap (λ (b : Bool). if b then is_valid past k && not (ends_one_of (lineage_of (objects_of past) k) e) else nat_le k (objects_made (e ∷ past))) (over k (objects_made past) l) ∙ under k (objects_made (e ∷ past)) u

-- a valid object was made
pub valid_made : (past : Past) (k : ℕ) → is_valid past k ≡ true → k ≤ objects_made past
valid_made past k h = compares k (objects_made past) (holds (nat_le k (objects_made past)) (λ q. clash (is_valid past k) h (valid_none past k q)))

-- an entry that ends one of a lineage is a done revoke or split of it
ends_which : (line : List ℕ) (e : Entry) → ends_one_of line e ≡ true → (m : ℕ) × EndsObject e m × (contains_number line m ≡ true)
unfolding ends_one_of
ends_which line e h =
    let x = both (is_done e.reply) (passes (contains_number line) (ended_object e.act)) h in
    let y = passed (contains_number line) (ended_object e.act) x.1 in (y.0, (x.0, y.1), y.2)

-- a valid object stays so unless what it derives from is revoked or split
pub valid_or_ended : (e : Entry) (past : Past) (k : ℕ) → is_valid past k ≡ true → IsTrue (is_valid (e ∷ past) k) ⊎ ((m : ℕ) × EndsObject e m × DerivesFrom past k m)
valid_or_ended e past k h = by (ends_one_of (lineage_of (objects_of past) k) e) refl
  where
    by : (b : Bool) → ends_one_of (lineage_of (objects_of past) k) e ≡ b → IsTrue (is_valid (e ∷ past) k) ⊎ ((m : ℕ) × EndsObject e m × DerivesFrom past k m)
    by true q = inr (ends_which (lineage_of (objects_of past) k) e q)
    by false q = inl (valid_old e past k (valid_made past k h) ∙ ap2 (λ (x y : Bool). x && not y) h q)

-- an object that is not valid never is again
pub stays_invalid : (e : Entry) (past : Past) (k : ℕ) → k ≤ objects_made past → is_valid past k ≡ false → is_valid (e ∷ past) k ≡ false
stays_invalid e past k u h = valid_old e past k u ∙ ap (λ (x : Bool). x && not (ends_one_of (lineage_of (objects_of past) k) e)) h

-- a revoke or split ends just what derives from its object
pub ends_just : (whole : Past) → EndsJustWhatDerives whole
ends_just whole =
    record {
      new = λ e past k m l u. new_is_valid e past k l u;
      old = λ e past k m h. valid_or_ended e past k h;
      final = λ e past k m u h. stays_invalid e past k u h;
    }
