-- The memory objects that domains hold and calls carry have their records.
use Rattle.std.proofs.Common.{◌≡◌, refl, sym, ◌∙◌, ap, subst, ℕ, suc, zero, ◌-◌, ◌<◌, ◌≤◌, Bool, true, false, cond, ◌&&◌, ◌||◌, List, [], ◌∷◌, length, filter, Option, Some, None, arith, inl, inr, slice_get}
use Rattle.std.specs.Prelude.{IsSomeAnd, nat_lt}
use Rattle.std.specs.List.{list_any}
use Rattle.std.proofs.lemmas.Bool.Decides.{nat_tests}
use Rattle.jx_base.specs.declared.program.System.{System}
use Rattle.jx_base.specs.Basics.{contains_number, numbered, passes}
use Rattle.jx_base.specs.Histories.{Past, count_where}
use Rattle.jx_model.specs.Calls.{calls_made}
use Rattle.jx_model.specs.Domains.{is_live}
use Rattle.jx_model.specs.Holding.{carried, holds_object, keeps_object}
use Rattle.jx_model.specs.Legal.{IsAdmittedPast}
use Rattle.jx_model.specs.MemoryObjects.{objects_made}
use Rattle.jx_model.specs.Tables.{ObjectRecord, call_record, call_records, object_record, object_records}
use Rattle.memory_objects.specs.ObjectLists.{CanRide, IsKept, IsRiding, is_kept}
use Rattle.memory_space.proofs.Backed.{any_flag}
use Rattle.memory_space.specs.SpaceLists.{objects_in}
use Rattle.table_objects.proofs.ExtentsInUse.{carrier_made}
use Rattle.table_objects.proofs.Riding.{riding_by_records, use_made}
use Rattle.table_objects.proofs.UsedBefore.{ByCall, ByDomain, Use, carried_none, use_before}
use Rattle.table_objects.specs.ObjectChanges.{carries, count_of}
use Rattle.table_reads.specs.TableReads.{flag_at}
use Rattle.table_threads.proofs.Numbered.{numbered_place}
use Rattle.table_threads.proofs.Records.{numbered_record, records_length}
use Rattle.table_reads.proofs.ReplyReads.{object_by_records}
use Rattle.table_threads.specs.Changes.{is_set}
use Rattle.nucleus_tables.proofs.CarriedObjects.{records_counted}
use Rattle.nucleus_tables.specs.Inner.{IsOf, past_in}
use Rattle.nucleus_tables.specs.Riding.{counted}
use Rattle.nucleus_tables.specs.declared.tables.Tables.{Tables}

-- ---- counts

-- one that passes counts
pub count_there : {A : Type 0} (p : A → Bool) (xs : List A) (i : ℕ) (x : A) → slice_get xs i ≡ Some x → p x ≡ true → 1 ≤ count_of p xs
count_there p [] i x q h = cc
count_there {A} p (y ∷ xs) zero x q h = let z : y ≡ x = cc in by (p y) (ap p z ∙ h)
  where
    by : (b : Bool) → b ≡ true → 1 ≤ length (cond b (y ∷ filter p xs) (filter p xs))
    by true h = omega arith
    by false h = cc
count_there {A} p (y ∷ xs) (suc i) x q h = by (p y) (count_there p xs i x q h)
  where
    by : (b : Bool) → 1 ≤ length (filter p xs) → 1 ≤ length (cond b (y ∷ filter p xs) (filter p xs))
    by true l = omega (arith, l)
    by false l = l

-- no more pass than there are
pub count_within : {A : Type 0} (p : A → Bool) (xs : List A) → count_of p xs ≤ length xs
count_within p [] = omega arith
count_within {A} p (y ∷ xs) = by (p y) (count_within p xs)
  where
    by : (b : Bool) → length (filter p xs) ≤ length xs → length (cond b (y ∷ filter p xs) (filter p xs)) ≤ suc (length xs)
    by true l = omega (arith, l)
    by false l = omega (arith, l)

-- ---- numbers

none_held : (d m : ℕ) → holds_object [] d m ≡ true → ⊥
unfolding holds_object keeps_object
none_held d m = by (is_live [] d)
  where
    by : (b : Bool) → (b && false) ≡ true → ⊥
    by true h = cc
    by false h = cc

none_carried : (c m : ℕ) → contains_number (carried [] c) m ≡ true → ⊥
unfolding contains_number count_where
none_carried c m h = by c h
  where
    empty : (xs : List ℕ) → xs ≡ [] → contains_number xs m ≡ true → ⊥
    empty xs q h = let z : contains_number [] m ≡ true = ap (λ (xs : List ℕ). contains_number xs m) (sym q) ∙ h in cc

    by : (c : ℕ) → contains_number (carried [] c) m ≡ true → ⊥
    by zero h = empty (carried [] 0) (carried_none [] 0 (inl refl)) h
    by (suc k) h = empty (carried [] (suc k)) (carried_none [] (suc k) (inr (omega arith))) h

-- an object that is held or carried has a number from 1 on
pub use_low : (s : System) (past : Past) (m : ℕ) → IsAdmittedPast s past → Use past m → 1 ≤ m
use_low s past (suc m) a u = omega arith
use_low s [] zero a (ByDomain d q) = absurd (none_held d 0 q)
use_low s [] zero a (ByCall c q) = absurd (none_carried c 0 q)
use_low s (e ∷ past) zero a u = use_low s past 0 a.1 (use_before s e past 0 a (omega arith) u)

module _ (s : System) (x : Tables) (h : IsOf s x) where
  -- the records are counted by the calls
  pub objects_counted : counted (call_records (past_in x)) x.space.objects ≡ x.space.objects
  objects_counted = ap (counted (call_records (past_in x))) h.stands.objects ∙ records_counted s (past_in x) ∙ sym h.stands.objects

  -- the record of one that is held or carried
  pub used_there : (m : ℕ) → Use (past_in x) m → numbered x.space.objects m ≡ Some (object_record s (past_in x) m)
  unfolding object_records
  used_there m u =
      ap (λ (items : List ObjectRecord). numbered items m) h.stands.objects
      ∙ numbered_record (object_record s (past_in x)) (objects_made (past_in x)) m (use_low s (past_in x) m h.stands.admitted u) (use_made s (past_in x) m h.stands.admitted u)

  riding_is : (m : ℕ) → (object_record s (past_in x) m).riding ≡ count_of (carries m) (call_records (past_in x))
  unfolding object_record
  riding_is m = riding_by_records (past_in x) m

  -- one that a call carries counts that
  riding_counts : (c m : ℕ) → contains_number (carried (past_in x) c) m ≡ true → 1 ≤ count_of (carries m) (call_records (past_in x))
  unfolding call_records call_record
  riding_counts c m q =
      let r = carrier_made (past_in x) c m q in
      count_there (carries m) (call_records (past_in x)) (c - 1) (call_record (past_in x) c)
      (sym (numbered_place (call_records (past_in x)) c r.0) ∙ numbered_record (call_record (past_in x)) (calls_made (past_in x)) c r.0 r.1) q

  -- so it is riding
  pub riding_there : (c m : ℕ) → contains_number (carried (past_in x) c) m ≡ true → IsRiding (objects_in x.space) m
  riding_there c m q =
      subst (λ (o : Option ObjectRecord). IsSomeAnd o (λ r. 1 ≤ r.riding)) (sym (used_there m (ByCall c q)))
      (omega (arith, riding_is m, riding_counts c m q))

  -- and kept
  kept_if : (o : Option ObjectRecord) (r : ObjectRecord) → o ≡ Some r → is_kept r ≡ true → IsSomeAnd o (λ r. is_kept r ≡ true)
  kept_if o r q k = subst (λ (o : Option ObjectRecord). IsSomeAnd o (λ r. is_kept r ≡ true)) (sym q) k

  pub kept_there : (m : ℕ) → Use (past_in x) m → IsKept (objects_in x.space) m
  unfolding passes
  kept_there m (ByCall c q) =
      kept_if (numbered x.space.objects m) (object_record s (past_in x) m) (used_there m (ByCall c q))
      (by (list_any is_set (object_record s (past_in x) m).holders) (nat_lt 0 (object_record s (past_in x) m).riding) (rides (riding_is m) (riding_counts c m q)))
    where
      rides : (object_record s (past_in x) m).riding ≡ count_of (carries m) (call_records (past_in x)) → 1 ≤ count_of (carries m) (call_records (past_in x)) →
          nat_lt 0 (object_record s (past_in x) m).riding ≡ true
      rides e l = grind (arith, nat_tests)

      by : (a b : Bool) → b ≡ true → (a || b) ≡ true
      by true b k = refl
      by false b k = k
  kept_there m (ByDomain d q) =
      held (numbered x.space.objects m)
      (ap (λ (items : List ObjectRecord). passes (λ item. flag_at item.holders d) (numbered items m)) h.stands.objects
      ∙ sym (object_by_records s (past_in x) d m h.stands.admitted) ∙ q)
    where
      first : (a b : Bool) → a ≡ true → (a || b) ≡ true
      first true b k = refl
      first false b k = cc

      held : (o : Option ObjectRecord) → passes (λ (item : ObjectRecord). flag_at item.holders d) o ≡ true → IsSomeAnd o (λ (r : ObjectRecord). is_kept r ≡ true)
      held None k = cc
      held (Some r) k = first (list_any is_set r.holders) (nat_lt 0 r.riding) (any_flag r.holders d k)

  -- one call more can carry it, where there are few calls
  pub can_ride : (m : ℕ) → calls_made (past_in x) < 4294967295 → Use (past_in x) m → CanRide (objects_in x.space) m
  unfolding call_records
  can_ride m l u =
      subst (λ (o : Option ObjectRecord). IsSomeAnd o (λ r. r.riding < 4294967295)) (sym (used_there m u))
      (omega (arith, l, riding_is m, count_within (carries m) (call_records (past_in x)), records_length (call_record (past_in x)) (calls_made (past_in x))))
