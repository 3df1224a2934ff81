-- What is found of an object that a domain holds and that is valid.
use Rattle.std.proofs.Common.{◌≡◌, refl, sym, ◌∙◌, ap, ℕ, ◌-◌, ◌<◌, ◌≤◌, not, Bool, true, false, List, length, Option, Some, None, get_or, Ok, Err, Result, if◌then◌else◌, arith}
use Rattle.std.specs.Prelude.{IsSome}
use Rattle.std.specs.Option.{option_map}
use Rattle.std.proofs.lemmas.List.{length-map}
use Rattle.std.proofs.lemmas.Option.{slice_get_read, slice_get-map}
use Rattle.jx_base.specs.Basics.{numbered, passes}
use Rattle.jx_base.specs.declared.act.Refusal.{Refusal}
use Rattle.jx_base.specs.declared.act.Refusal.TheVariants as refusal
use Rattle.jx_laws.proofs.Lists.{numbered_within}
use Rattle.jx_model.specs.MemoryObjects.{Part}
use Rattle.jx_model.specs.Tables.{ObjectRecord}
use Rattle.memory_objects.specs.declared.objects.Objects.TheInside.{Inside}
use Rattle.memory_objects.specs.declared.rows.PartRow.{PartRow}
use Rattle.memory_objects.specs.Inner.{IsObjects}
use Rattle.memory_objects.specs.ObjectLists.{ObjectsState, held_part, holds_in, part_or, valid_in}
use Rattle.memory_objects.specs.Rows.{part_of, parts_of, record_of, records_of}
use Rattle.table_threads.proofs.Numbered.{numbered_at}

-- what passes has a number of the list
pub test_within : {A : Type 0} (p : A → Bool) (xs : List A) (m : ℕ) → passes p (numbered xs m) ≡ true → (1 ≤ m) × (m ≤ length xs)
unfolding passes
test_within {A = A} p xs m h = by (numbered xs m) refl h
  where
    by : (o : Option A) → numbered xs m ≡ o → passes p o ≡ true → (1 ≤ m) × (m ≤ length xs)
    by None q g = cc
    by (Some x) q g = numbered_within xs m x q

-- the part of a valid object that is held
pub held_is : (y : ObjectsState) (d m : ℕ) (o : Part) → holds_in y.records d m ≡ true → valid_in y.records m ≡ true → numbered y.parts m ≡ Some o → Ok o ≡ held_part y d m
held_is y d m o h v p =
    let rest : Result Part Refusal = part_or (numbered y.parts m) refusal.Revoked in
    sym (ap (λ (b : Bool). if not b then Err refusal.NotHeld else if not (valid_in y.records m) then Err refusal.Revoked else rest) h
    ∙ ap (λ (b : Bool). if not b then Err refusal.Revoked else rest) v
    ∙ ap (λ (q : Option Part). part_or q refusal.Revoked) p)

-- a valid object has a part
pub record HasPart (x : Inside) (m : ℕ) : Type 0 where
  pub first : 1 ≤ m
  pub below : m - 1 < length x.parts.items

-- so it has
pub part_place : (x : Inside) (m : ℕ) → IsObjects x → valid_in (records_of x.records.items) m ≡ true → HasPart x m
part_place x m inv h =
    let w = test_within (λ (r : ObjectRecord). r.valid) (records_of x.records.items) m h in
    record { first = w.0; below = omega (arith, w.0, w.1, length-map x.records.items record_of, inv.count) }

-- the part that is read there
pub part_read : (x : Inside) (m : ℕ) (row : PartRow) → HasPart x m → row ≡ get_or x.parts.items (m - 1) row → numbered (parts_of x.parts.items) m ≡ Some (part_of row)
part_read x m row at r =
    numbered_at (parts_of x.parts.items) m (m - 1) at.first refl
    ∙ slice_get-map part_of x.parts.items (m - 1)
    ∙ ap (option_map part_of) (slice_get_read x.parts.items (length x.parts.items) (m - 1) row refl at.below r)

-- what is known of a part that is held
pub record IsHeld (y : ObjectsState) (d m : ℕ) (o : Part) : Type 0 where
  pub held : holds_in y.records d m ≡ true
  pub valid : valid_in y.records m ≡ true
  pub part : numbered y.parts m ≡ Some o

-- what is found is held
pub is_held : (y : ObjectsState) (d m : ℕ) (o : Part) → Ok o ≡ held_part y d m → IsHeld y d m o
is_held y d m o h = by (holds_in y.records d m) (valid_in y.records m) (numbered y.parts m) refl refl refl h
  where
    by : (a b : Bool) (q : Option Part) → holds_in y.records d m ≡ a → valid_in y.records m ≡ b → numbered y.parts m ≡ q →
        Ok o ≡ (if not a then Err refusal.NotHeld else if not b then Err refusal.Revoked else part_or q refusal.Revoked) → IsHeld y d m o
    by false b q e f g h = cc
    by true false q e f g h = cc
    by true true None e f g h = cc
    by true true (Some p) e f g h = record { held = e; valid = f; part = g ∙ (let x : p ≡ o = cc in ap Some x) }

-- what passes is there
pub test_some : {A : Type 0} (p : A → Bool) (xs : List A) (m : ℕ) → passes p (numbered xs m) ≡ true → IsSome (numbered xs m)
unfolding passes
test_some {A = A} p xs m h = by (numbered xs m) h
  where
    by : (o : Option A) → passes p o ≡ true → IsSome o
    by None g = cc
    by (Some x) g = refl
