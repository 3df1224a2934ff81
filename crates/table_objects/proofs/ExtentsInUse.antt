-- Which extents are in use after an entry more: one that was free stays free.
use Rattle.std.proofs.Common.{◌≡◌, refl, sym, ◌∙◌, ap, ℕ, suc, zero, ◌+◌, ◌-◌, ◌<◌, ◌≤◌, Bool, true, false, cond, ◌&&◌, List, [], ◌∷◌, length, Some, arith, ◌==◌, ◌⊎◌, inl, inr, filter}
use Rattle.std.specs.Prelude.{nat_le, nat_lt}
use Rattle.std.specs.List.{range_with_len}
use Rattle.std.proofs.lemmas.Bool.Decides.{nat_tests}
use Rattle.jx_base.specs.declared.act.Entry.{Entry}
use Rattle.jx_base.specs.declared.program.System.{System}
use Rattle.jx_base.specs.Basics.{up_to, contains_number, passes}
use Rattle.jx_base.specs.Histories.{Past}
use Rattle.jx_model.specs.Domains.{domains_made, is_live}
use Rattle.jx_model.specs.Calls.{calls_made}
use Rattle.jx_model.specs.MemoryObjects.{Part, objects_made, object_part, extents_made, is_valid}
use Rattle.jx_model.specs.Holding.{keeps_object, holds_object, holders, carried, riders, riding_count, hold_count, is_of_extent, is_extent_in_use}
use Rattle.jx_model.specs.Legal.{IsAdmittedPast}
use Rattle.jx_base.proofs.BasicLaws.{both, eq_of, passed, at_most, beyond}
use Rattle.table_threads.proofs.Records.{any_at, any_found, is_that}
use Rattle.table_threads.proofs.Actors.{live_made}
use Rattle.table_objects.proofs.Holders.{holder_is, contains_kept}
use Rattle.table_objects.proofs.UsedBefore.{Use, ByDomain, ByCall, use_before, carried_none}
use Rattle.table_objects.proofs.Parts.{PartSource, NewExtent, OfObject, part_old, part_new, part_made, part_source, part_extent, valid_before}

-- ---- uses and counts

in_length : (xs : List ℕ) (k : ℕ) → contains_number xs k ≡ true → 1 ≤ length xs
unfolding contains_number
in_length [] k h = cc
in_length (x ∷ xs) k h = omega arith

some_kept : (p : ℕ → Bool) (a n : ℕ) → 1 ≤ length (filter p (range_with_len a n)) → (x : ℕ) × (a ≤ x) × (x < a + n) × (p x ≡ true)
some_kept p a zero h = absurd (omega (arith, h))
some_kept p a (suc n) h = by (p a) refl h (some_kept p (a + 1) n)
  where
    by : (b : Bool) → p a ≡ b → 1 ≤ length (cond b (a ∷ filter p (range_with_len (a + 1) n)) (filter p (range_with_len (a + 1) n))) →
        (1 ≤ length (filter p (range_with_len (a + 1) n)) → (x : ℕ) × (a + 1 ≤ x) × (x < a + 1 + n) × (p x ≡ true)) → (x : ℕ) × (a ≤ x) × (x < a + suc n) × (p x ≡ true)
    by true q h again = (a, omega arith, omega arith, q)
    by false q h again = let r = again h in (r.0, omega (arith, r.1), omega (arith, r.2), r.3)

pub some_number : (n : ℕ) → 1 ≤ n → nat_lt 0 n ≡ true
some_number n h = grind (arith, nat_tests)

is_some_number : (n : ℕ) → nat_lt 0 n ≡ true → 1 ≤ n
is_some_number n h = grind (arith, nat_tests)

-- who holds an object is live
pub holder_lives : (past : Past) (d m : ℕ) → holds_object past d m ≡ true → is_live past d ≡ true
unfolding holds_object
holder_lives past d m h = (both (is_live past d) (keeps_object past d m) h).0

-- a call that carries an object was made
pub carrier_made : (past : Past) (c m : ℕ) → contains_number (carried past c) m ≡ true → (1 ≤ c) × (c ≤ calls_made past)
unfolding contains_number
carrier_made past c m h = (low c refl, high (nat_le c (calls_made past)) refl)
  where
    none : {A : Type 0} → (c ≡ 0) ⊎ (calls_made past < c) → A
    none x = cc (ap (λ (xs : List ℕ). contains_number xs m) (carried_none past c x), h)

    low : (n : ℕ) → n ≡ c → 1 ≤ n
    low zero q = none (inl (sym q))
    low (suc n) q = omega arith

    high : (b : Bool) → nat_le c (calls_made past) ≡ b → c ≤ calls_made past
    high true q = at_most c (calls_made past) q
    high false q = none (inr (beyond c (calls_made past) q))

-- what is held or carried counts
pub use_counts : (past : Past) (m : ℕ) → Use past m → nat_lt 0 (hold_count past m) ≡ true
unfolding hold_count riding_count riders up_to
use_counts past m (ByDomain d h) =
    some_number (hold_count past m) (omega (arith, in_length (holders past m) d (holder_is past d m (live_made past d (holder_lives past d m h)) ∙ h)))
use_counts past m (ByCall c h) =
    let x = carrier_made past c m h in
    some_number (hold_count past m) (omega (arith, in_length (filter (λ c. contains_number (carried past c) m) (range_with_len 1 (calls_made past))) c (contains_kept (λ c. contains_number (carried past c) m) 1 (calls_made past) c x.0 (omega (arith, x.1)) ∙ h)))

-- what counts is held or carried
pub count_used : (past : Past) (m : ℕ) → nat_lt 0 (hold_count past m) ≡ true → Use past m
unfolding hold_count riding_count riders holders up_to
count_used past m h = by (nat_lt 0 (length (filter (λ d. holds_object past d m) (range_with_len 1 (domains_made past))))) refl
  where
    by : (b : Bool) → nat_lt 0 (length (filter (λ d. holds_object past d m) (range_with_len 1 (domains_made past)))) ≡ b → Use past m
    by true q = let x = some_kept (λ d. holds_object past d m) 1 (domains_made past) (is_some_number (length (filter (λ d. holds_object past d m) (range_with_len 1 (domains_made past)))) q) in ByDomain x.0 x.3
    by false q =
        let z = none_number (length (filter (λ d. holds_object past d m) (range_with_len 1 (domains_made past)))) q in
        let w = is_some_number (hold_count past m) h in
        let x = some_kept (λ c. contains_number (carried past c) m) 1 (calls_made past) (omega (arith, z, w)) in ByCall x.0 x.3
      where
        none_number : (n : ℕ) → nat_lt 0 n ≡ false → n ≡ 0
        none_number n q = grind (arith, nat_tests)

-- ---- extents in use

-- a valid object on the extent that is held or carried
pub record IsUsedBy (past : Past) (x m : ℕ) : Type 0 where
  pub part : Part
  pub is : object_part past m ≡ Some part
  pub extent : part.extent ≡ x
  pub valid : is_valid past m ≡ true
  pub used : Use past m

-- an extent in use is used by an object
pub used_by : (past : Past) (x : ℕ) → is_extent_in_use past x ≡ true → (m : ℕ) × IsUsedBy past x m
unfolding is_extent_in_use up_to is_of_extent
used_by past x h =
    let f = any_found (λ m. is_of_extent past x m && is_valid past m && nat_lt 0 (hold_count past m)) 1 (objects_made past) h in
    let b = both (is_of_extent past x f.0 && is_valid past f.0) (nat_lt 0 (hold_count past f.0)) f.3 in
    let c = both (is_of_extent past x f.0) (is_valid past f.0) b.0 in
    let p = passed (λ (o : Part). o.extent == x) (object_part past f.0) c.0 in
    (f.0, record { part = p.0; is = p.1; extent = eq_of p.0.extent x p.2; valid = c.1; used = count_used past f.0 b.1 })

-- an extent that an object uses is in use
pub in_use : (past : Past) (x m : ℕ) → IsUsedBy past x m → is_extent_in_use past x ≡ true
unfolding is_extent_in_use up_to is_of_extent passes
in_use past x m h =
    let u = part_made past m h.part h.is in
    any_at (λ m. is_of_extent past x m && is_valid past m && nat_lt 0 (hold_count past m)) 1 (objects_made past) m u.0 (omega (arith, u.1))
    (all_true (is_of_extent past x m) (is_valid past m) (nat_lt 0 (hold_count past m)) (ap (passes (λ (o : Part). o.extent == x)) h.is ∙ is_that h.part.extent x h.extent) h.valid (use_counts past m h.used))
  where
    all_true : (p q r : Bool) → p ≡ true → q ≡ true → r ≡ true → (p && q && r) ≡ true
    all_true p q r h i j = rw (h, i, j) refl

-- an extent in use was made
pub in_use_made : (s : System) (past : Past) (x : ℕ) → IsAdmittedPast s past → is_extent_in_use past x ≡ true → (1 ≤ x) × (x ≤ extents_made past)
in_use_made s past x a h =
    let u = used_by past x h in
    let v = part_extent s past u.0 u.1.part a u.1.is in
    (omega (arith, v.0, u.1.extent), omega (arith, v.1, u.1.extent))

-- an extent that was made before an entry and is in use after it was in use before it: one that was free stays free
pub in_use_before : (s : System) (e : Entry) (past : Past) (x : ℕ) → IsAdmittedPast s (e ∷ past) → x ≤ extents_made past → is_extent_in_use (e ∷ past) x ≡ true → is_extent_in_use past x ≡ true
in_use_before s e past x a l h = by (used_by (e ∷ past) x h)
  where
    by : (m : ℕ) × IsUsedBy (e ∷ past) x m → is_extent_in_use past x ≡ true
    by u = old (nat_le u.0 (objects_made past)) refl
      where
        source : PartSource past e u.1.part → is_extent_in_use past x ≡ true
        source (NewExtent q z r) = absurd (omega (arith, z, u.1.extent, l))
        source (OfObject k p q z v w) = in_use past x k.0 (record { part = p; is = q; extent = sym z.extent ∙ u.1.extent; valid = w; used = ByDomain e.domain.0 v })

        old : (b : Bool) → nat_le u.0 (objects_made past) ≡ b → is_extent_in_use past x ≡ true
        old true q =
            let v = at_most u.0 (objects_made past) q in
            in_use past x u.0 (record { part = u.1.part; is = sym (part_old e past u.0 v) ∙ u.1.is; extent = u.1.extent; valid = valid_before e past u.0 v u.1.valid; used = use_before s e past u.0 a v u.1.used })
        old false q =
            let v = beyond u.0 (objects_made past) q in
            source (part_source s e past u.1.part (u.0 - (objects_made past + 1)) a.0 (sym (part_new e past u.0 (u.0 - (objects_made past + 1)) (omega (arith, v))) ∙ u.1.is))
