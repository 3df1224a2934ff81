-- The replies to a sub, split and revoke, and the parts that they make.
use Rattle.std.proofs.Common.{◌≡◌, refl, sym, ◌∙◌, ap, ℕ, ◌+◌, ◌-◌, ◌<◌, ◌&&◌, not, Bool, true, false, List, [], ◌∷◌, ◌++◌, length, Option, Some, if◌then◌else◌, append-nil, append_assoc, length-append, Ok, Err, arith}
use Rattle.std.specs.Prelude.{ℤ, pos, nat_lt}
use Rattle.std.proofs.lemmas.Bool.Decides.{nat_tests}
use Rattle.jx_base.specs.Basics.{numbered, not_below_zero}
use Rattle.jx_base.specs.declared.act.Act.TheVariants as act
use Rattle.jx_base.specs.declared.act.Reply.TheVariants as reply
use Rattle.jx_base.specs.declared.act.Refusal.TheVariants as refusal
use Rattle.jx_base.specs.declared.ids.ObjectId.{ObjectId}
use Rattle.jx_base.proofs.BasicLaws.{ap2}
use Rattle.jx_model.specs.MemoryObjects.{Part, made_of, new_parts, part_within, sides_at}
use Rattle.jx_model.specs.Replies.{◌refuses◌else◌, is_positive_up_to, is_within}
use Rattle.jx_model.specs.Tables.{ObjectRecord}
use Rattle.memory_objects.specs.ObjectLists.{ObjectsState, derived_in, divided_in, lacks_in, new_record, next_object, one_more, holds_in, place_within, released_in, with_parts}

-- ---- replies

-- a sub out of range
pub derived_range : (y : ObjectsState) (at count : ℤ) (o : Part) → (is_within at count o.size && is_positive_up_to o.size count) ≡ false → reply.Refused refusal.Range ≡ derived_in y at count o
unfolding ◌refuses◌else◌
derived_range y at count o h = sym (ap (λ (b : Bool). if not b then reply.Refused refusal.Range else one_more y) h)

-- another sub
pub derived_else : (y : ObjectsState) (at count : ℤ) (o : Part) → (is_within at count o.size && is_positive_up_to o.size count) ≡ true → one_more y ≡ derived_in y at count o
unfolding ◌refuses◌else◌
derived_else y at count o h = sym (ap (λ (b : Bool). if not b then reply.Refused refusal.Range else one_more y) h)

-- a split out of range
pub divided_range : (y : ObjectsState) (at : ℤ) (o : Part) → is_positive_up_to (o.size - 1) at ≡ false → reply.Refused refusal.Range ≡ divided_in y at o
unfolding ◌refuses◌else◌
divided_range y at o h = sym (ap (λ (b : Bool). if not b then reply.Refused refusal.Range else if lacks_in y 2 then reply.Refused refusal.TooMany else reply.Pair (next_object y 1) (next_object y 2)) h)

-- another split
pub divided_else : (y : ObjectsState) (at : ℤ) (o : Part) (b : Bool) → is_positive_up_to (o.size - 1) at ≡ true → lacks_in y 2 ≡ b →
    (if b then reply.Refused refusal.TooMany else reply.Pair (next_object y 1) (next_object y 2)) ≡ divided_in y at o
unfolding ◌refuses◌else◌
divided_else y at o b h k =
    ap (λ (a : Bool). if a then reply.Refused refusal.TooMany else reply.Pair (next_object y 1) (next_object y 2)) (sym k)
    ∙ sym (ap (λ (b : Bool). if not b then reply.Refused refusal.Range else if lacks_in y 2 then reply.Refused refusal.TooMany else reply.Pair (next_object y 1) (next_object y 2)) h)

-- one object more, where the limit allows it
pub one_by : (y : ObjectsState) (b : Bool) → lacks_in y 1 ≡ b → (if b then reply.Refused refusal.TooMany else reply.Object (next_object y 1)) ≡ one_more y
unfolding ◌refuses◌else◌
one_by y b h = ap (λ (a : Bool). if a then reply.Refused refusal.TooMany else reply.Object (next_object y 1)) (sym h)

-- a test that fails turned
pub lacking : (b : Bool) → false ≡ not b → b ≡ true
lacking true h = refl
lacking false h = cc

-- and one that passes
pub has_room : (b : Bool) → true ≡ not b → b ≡ false
has_room true h = cc
has_room false h = refl

-- ---- parts

-- no parts more
pub none_made : (y : ObjectsState) (d : ℕ) → y ≡ with_parts y d []
none_made y d = sym (ap2 (λ (ps : List Part) (rs : List ObjectRecord). let z : ObjectsState = record { parts = ps; records = rs; extents = y.extents } in z) (append-nil y.parts) (append-nil y.records))

-- two parts, one after the other
pub two_made : (y : ObjectsState) (d : ℕ) (o p : Part) → with_parts (with_parts y d (o ∷ [])) d (p ∷ []) ≡ with_parts y d (o ∷ p ∷ [])
two_made y d o p = ap2 (λ (ps : List Part) (rs : List ObjectRecord). let z : ObjectsState = record { parts = ps; records = rs; extents = y.extents } in z) (append_assoc y.parts (o ∷ []) (p ∷ [])) (append_assoc y.records (new_record d ∷ []) (new_record d ∷ []))

-- the part that a sub makes
pub sub_made : (parts : List Part) (m new : ObjectId) (o : Part) (at count : ℤ) (a k : ℕ) → numbered parts m.0 ≡ Some o → at ≡ pos a → count ≡ pos k →
    (part_within m.0 o a k ∷ []) ≡ new_parts parts 0 (act.Sub m at count) (reply.Object new)
unfolding new_parts made_of not_below_zero
sub_made parts m new o at count a k p q r =
    sym (ap (λ (x : Option Part). made_of x (λ z. part_within m.0 z (not_below_zero at) (not_below_zero count) ∷ [])) p
    ∙ ap2 (λ (x y : ℤ). part_within m.0 o (not_below_zero x) (not_below_zero y) ∷ []) q r)

-- the parts that a split makes
pub split_made : (parts : List Part) (m x y : ObjectId) (o : Part) (at : ℤ) (a : ℕ) → numbered parts m.0 ≡ Some o → at ≡ pos a →
    (part_within o.parent o 0 a ∷ part_within o.parent o a (o.size - a) ∷ []) ≡ new_parts parts 0 (act.Split m at) (reply.Pair x y)
unfolding new_parts made_of not_below_zero sides_at
split_made parts m x y o at a p q =
    sym (ap (λ (z : Option Part). made_of z (sides_at (not_below_zero at))) p ∙ ap (λ (z : ℤ). sides_at (not_below_zero z) o) q)

-- the part that a revoke makes
pub revoke_made : (parts : List Part) (m new : ObjectId) (o : Part) → numbered parts m.0 ≡ Some o → (o ∷ []) ≡ new_parts parts 0 (act.Revoke m) (reply.Object new)
unfolding new_parts made_of
revoke_made parts m new o p = sym (ap (λ (z : Option Part). made_of z (λ o. o ∷ [])) p)

-- the object after the next one
pub second_object : (y : ObjectsState) (d : ℕ) (o : Part) → next_object (with_parts y d (o ∷ [])) 1 ≡ next_object y 2
second_object y d o =
    let n : length (y.parts ++ o ∷ []) + 1 ≡ length y.parts + 2 = omega (arith, length-append y.parts (o ∷ [])) in
    ap (λ (k : ℕ). let m : ObjectId = record { 0 = k } in m) n

-- ---- places

-- a place within a part
pub place_there : (at count : ℤ) (o : Part) (a : ℕ) → is_within at count o.size ≡ true → at ≡ pos a → Ok (o.extent, o.from + a) ≡ place_within at count o
unfolding not_below_zero
place_there at count o a h q =
    sym (ap (λ (b : Bool). if b then Ok (o.extent, o.from + not_below_zero at) else Err refusal.Range) h ∙ ap (λ (z : ℤ). Ok (o.extent, o.from + not_below_zero z)) q)

-- one that isn't
pub place_past : (at count : ℤ) (o : Part) → is_within at count o.size ≡ false → Err refusal.Range ≡ place_within at count o
place_past at count o h = sym (ap (λ (b : Bool). if b then Ok (o.extent, o.from + not_below_zero at) else Err refusal.Range) h)

-- ---- releases

-- a release by a domain that holds the object or not
pub released_by : (y : ObjectsState) (d m : ℕ) (b : Bool) → b ≡ holds_in y.records d m → (if b then reply.Done else reply.Refused refusal.NotHeld) ≡ released_in y d m
unfolding ◌refuses◌else◌
released_by y d m b h = turn b ∙ ap (λ (a : Bool). if not a then reply.Refused refusal.NotHeld else reply.Done) h
  where
    turn : (b : Bool) → (if b then reply.Done else reply.Refused refusal.NotHeld) ≡ (if not b then reply.Refused refusal.NotHeld else reply.Done)
    turn true = refl
    turn false = refl

-- ---- room

-- fewer objects than the limit
pub room_for_one : (y : ObjectsState) → lacks_in y 1 ≡ false → length y.parts < 65536
room_for_one y h = few (length y.parts) h
  where
    few : (n : ℕ) → nat_lt 65536 (n + 1) ≡ false → n < 65536
    few n h = grind (arith, nat_tests)
