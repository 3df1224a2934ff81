-- Which extents are in use: one that went out of use never comes back.
use Rattle.std.proofs.Common.{◌≡◌, refl, sym, ◌∙◌, ap, ℕ, ◌≤◌, Bool, true, false, not, ◌&&◌, ◌∷◌, Some, arith, ◌==◌, inl, inr}
use Rattle.std.specs.Prelude.{nat_lt}
use Rattle.std.proofs.lemmas.Bool.Decides.{nat_tests}
use Rattle.jx_base.specs.declared.act.Entry.{Entry}
use Rattle.jx_base.specs.declared.program.System.{System}
use Rattle.jx_base.specs.Basics.{passes, up_to}
use Rattle.jx_base.specs.Histories.{Past}
use Rattle.jx_model.specs.MemoryObjects.{Part, objects_of, objects_made, object_part, extents_made, is_valid, lineage_of, ends_one_of}
use Rattle.jx_model.specs.Holding.{hold_count, is_of_extent, is_extent_in_use}
use Rattle.jx_model.specs.Legal.{IsAdmittedPast}
use Rattle.jx_laws.specs.Laws.{IsUnheld}
use Rattle.jx_base.proofs.BasicLaws.{both, eq_of, same_number, passed}
use Rattle.jx_laws.proofs.Basics.{fails, clash}
use Rattle.jx_laws.proofs.Parts.{NewPart, OfExtent, OfParent, OfEnded, IsUsed}
use Rattle.jx_laws.proofs.Lineage.{part_before, part_within, valid_old}
use Rattle.jx_laws.proofs.Ranges.{any_range, range_any}
use Rattle.jx_laws.proofs.Uses.{Use, ByDomain, counts_use, use_counts, use_before}

-- a valid object on the extent is held or carried
pub record IsKept (past : Past) (x m : ℕ) : Type 0 where
  pub part : Part
  pub is : object_part past m ≡ Some part
  pub on : part.extent ≡ x
  pub valid : is_valid past m ≡ true
  pub used : Use past m

-- the part of an object on an extent
pub extent_part : (past : Past) (x m : ℕ) → is_of_extent past x m ≡ true → (o : Part) × (object_part past m ≡ Some o) × (o.extent ≡ x)
unfolding is_of_extent
extent_part past x m h = let o = passed (λ (o : Part). o.extent == x) (object_part past m) h in (o.0, o.1, eq_of o.0.extent x o.2)

-- an object whose part lies on the extent is of it
of_extent : (past : Past) (x m : ℕ) (o : Part) → object_part past m ≡ Some o → o.extent ≡ x → is_of_extent past x m ≡ true
unfolding is_of_extent passes
of_extent past x m o h q = ap (passes (λ (o : Part). o.extent == x)) h ∙ ap (λ (n : ℕ). n == x) q ∙ same_number x

-- three tests pass where all together do
three : (x y z : Bool) → (x && y && z) ≡ true → (x ≡ true) × (y ≡ true) × (z ≡ true)
three true true true h = (refl, refl, refl)
three true true false h = cc
three true false z h = cc
three false y z h = cc

-- all together pass where three tests do
three_of : (x y z : Bool) → x ≡ true → y ≡ true → z ≡ true → (x && y && z) ≡ true
three_of true true z h i j = j
three_of true false z h i j = cc
three_of false y z h i j = cc

-- an extent in use has a valid object that is held or carried
pub in_use_by : (past : Past) (x : ℕ) → is_extent_in_use past x ≡ true → (m : ℕ) × IsKept past x m
unfolding is_extent_in_use up_to
in_use_by past x h =
    let p : ℕ → Bool = λ m. is_of_extent past x m && is_valid past m && nat_lt 0 (hold_count past m) in
    let k = any_range p 1 (objects_made past) h in
    let y = three (is_of_extent past x k.at) (is_valid past k.at) (nat_lt 0 (hold_count past k.at)) k.passes in
    let o = extent_part past x k.at y.0 in
    (k.at, record { part = o.0; is = o.1; on = o.2; valid = y.1; used = counts_use past k.at y.2 })

-- a valid object that is held or carried keeps its extent in use
pub in_use_of : (past : Past) (x m : ℕ) → IsKept past x m → is_extent_in_use past x ≡ true
unfolding is_extent_in_use up_to
in_use_of past x m k =
    let w = part_within past m k.part k.is in
    range_any (λ n. is_of_extent past x n && is_valid past n && nat_lt 0 (hold_count past n)) 1 (objects_made past) m
    (three_of (is_of_extent past x m) (is_valid past m) (nat_lt 0 (hold_count past m)) (of_extent past x m k.part k.is k.on) k.valid (use_counts past m k.used))
    w.0 (omega (arith, w.1))

-- ---- out of use for ever

-- an old object that is valid after an entry was valid before it
valid_before : (e : Entry) (past : Past) (m : ℕ) → m ≤ objects_made past → is_valid (e ∷ past) m ≡ true → is_valid past m ≡ true
valid_before e past m u h = (both (is_valid past m) (not (ends_one_of (lineage_of (objects_of past) m) e)) (sym (valid_old e past m u) ∙ h)).0

used_kept : (past : Past) (d k x : ℕ) (old : Part) → IsUsed past d k old → old.extent ≡ x → is_extent_in_use past x ≡ true
used_kept past d k x old u q = in_use_of past x k (record { part = old; is = u.part; on = q; valid = u.valid; used = ByDomain d u.held })

-- an extent that is in use after an entry, and was made before it, was in use before it
pub in_use_before : (s : System) (past : Past) (e : Entry) (x : ℕ) → IsAdmittedPast s (e ∷ past) → x ≤ extents_made past → is_extent_in_use (e ∷ past) x ≡ true → is_extent_in_use past x ≡ true
in_use_before s past e x a u h = by (in_use_by (e ∷ past) x h)
  where
    new : (o : Part) → o.extent ≡ x → NewPart past e.domain.0 e.act e.reply o → is_extent_in_use past x ≡ true
    new o q (OfExtent f) = absurd (omega (arith, q, f.extent, u))
    new o q (OfParent k old w i p n) = used_kept past e.domain.0 k x old w (sym i.extent ∙ q)
    new o q (OfEnded k old w i p n) = used_kept past e.domain.0 k x old w (sym i.extent ∙ q)

    by : (m : ℕ) × IsKept (e ∷ past) x m → is_extent_in_use past x ≡ true
    by (m, k) = elim (part_before s past e m k.part a.0 k.is) [
      | inl q ↦
          let w : m ≤ objects_made past = (part_within past m k.part q).1 in
          in_use_of past x m (record { part = k.part; is = q; on = k.on; valid = valid_before e past m w k.valid; used = use_before s past e m a w k.used })
      | inr q ↦ new k.part k.on q.1
    ]

-- an extent that went out of use never comes back
pub stays_out : (s : System) (past : Past) (e : Entry) (x : ℕ) → IsAdmittedPast s (e ∷ past) → x ≤ extents_made past → is_extent_in_use past x ≡ false → is_extent_in_use (e ∷ past) x ≡ false
stays_out s past e x a u h = fails (is_extent_in_use (e ∷ past) x) (λ q. clash (is_extent_in_use past x) (in_use_before s past e x a u q) h)

-- ---- unheld where out of use

-- a number that isn't above 0 is 0
zero_of : (n : ℕ) → (nat_lt 0 n ≡ true → ⊥) → n ≡ 0
zero_of n f = by (nat_lt 0 n) refl
  where
    by : (b : Bool) → nat_lt 0 n ≡ b → n ≡ 0
    by true q = absurd (f q)
    by false q = grind (arith, nat_tests)

-- no valid object on an extent out of use is held or carried
pub unheld : (past : Past) (x : ℕ) → is_extent_in_use past x ≡ false → IsUnheld past x
unheld past x h m o v =
    zero_of (hold_count past m) (λ q.
    let k = extent_part past x m o in
    clash (is_extent_in_use past x) (in_use_of past x m (record { part = k.0; is = k.1; on = k.2; valid = v; used = counts_use past m q })) h)
