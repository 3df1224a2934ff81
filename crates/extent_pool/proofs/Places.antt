-- What the code makes of a list of holes, place by place.
use Rattle.std.proofs.Common.{◌≡◌, refl, sym, ◌∙◌, ap, ap, ℕ, suc, zero, ◌+◌, ◌<◌, ◌≤◌, Bool, true, false, cond, List, [], ◌∷◌, ◌++◌, Some, None, arith, if◌then◌else◌, ◌==◌, take, drop, set, slice_get, get_or, length, position}
use Rattle.std.specs.Prelude.{nat_lt}
use Rattle.std.specs.List.{position_or_len}
use Rattle.std.proofs.lemmas.List.Sums.{fails_before_first}
use Rattle.std.proofs.lemmas.Bool.Decides.{nat_tests}
use Rattle.jx_base.proofs.BasicLaws.{eq_of}
use Rattle.extent_pool.specs.declared.hole.Hole.{Hole}
use Rattle.extent_pool.specs.Holes.{AreApart}
use Rattle.extent_pool.specs.Joins.{hole_end, hole_from, before_holes, joined, AreInOrder}

pub unequal : (x y : ℕ) → (x ≡ y → ⊥) → (x == y) ≡ false
unequal x y f = by (x == y) refl
  where
    by : (b : Bool) → (x == y) ≡ b → b ≡ false
    by true e = absurd (f (eq_of x y e))
    by false e = refl

-- ---- the hole behind

is_from : (h r : Hole) (at : ℕ) → hole_from (Some h) at ≡ Some r → (h ≡ r) × ((h.at == at) ≡ true)
is_from h r at e = by (h.at == at) refl e
  where
    by : (b : Bool) → (h.at == at) ≡ b → (if b then Some h else None) ≡ Some r → (h ≡ r) × ((h.at == at) ≡ true)
    by true q e = (cc, q)
    by false q e = cc

is_not_from : (h : Hole) (at : ℕ) → hole_from (Some h) at ≡ None → (h.at == at) ≡ false
is_not_from h at e = by (h.at == at) refl e
  where
    by : (b : Bool) → (h.at == at) ≡ b → (if b then Some h else None) ≡ None → b ≡ false
    by true q e = cc
    by false q e = refl

turned_round : (x y : ℕ) (b : Bool) → (x == y) ≡ b → (y == x) ≡ b
turned_round x y b e = grind (arith, nat_tests)

before_touching : (f h r : Hole) (holes : List Hole) → hole_from (Some h) (hole_end f) ≡ Some r →
    record { at = f.at; count = f.count + r.count } ∷ holes ≡ before_holes f (h ∷ holes)
before_touching f h r holes e =
    let is = is_from h r (hole_end f) e in
    ap (λ (x : Hole). record { at = f.at; count = f.count + x.count } ∷ holes) (sym is.0)
    ∙ sym (ap (λ (b : Bool). if b then record { at = f.at; count = f.count + h.count } ∷ holes else f ∷ h ∷ holes) (turned_round h.at (hole_end f) true is.1))

before_apart_from : (f : Hole) (holes : List Hole) → hole_from (slice_get holes 0) (hole_end f) ≡ None → f ∷ holes ≡ before_holes f holes
before_apart_from f [] e = refl
before_apart_from f (h ∷ holes) e =
    sym (ap (λ (b : Bool). if b then record { at = f.at; count = f.count + h.count } ∷ holes else f ∷ h ∷ holes)
    (turned_round h.at (hole_end f) false (is_not_from h (hole_end f) e)))

-- ---- one more hole

pub insert_joined : (i : ℕ) (f r : Hole) (holes : List Hole) → hole_from (slice_get holes i) (hole_end f) ≡ Some r →
    set holes i (record { at = f.at; count = f.count + r.count }) ≡ take i holes ++ before_holes f (drop i holes)
insert_joined i f r [] e = cc
insert_joined zero f r (h ∷ holes) e = before_touching f h r holes e
insert_joined (suc i) f r (h ∷ holes) e = ap (λ (xs : List Hole). h ∷ xs) (insert_joined i f r holes e)

pub insert_plain : (i : ℕ) (f : Hole) (holes : List Hole) → hole_from (slice_get holes i) (hole_end f) ≡ None →
    take i holes ++ f ∷ drop i holes ≡ take i holes ++ before_holes f (drop i holes)
insert_plain zero f holes e = before_apart_from f holes e
insert_plain (suc i) f [] e = refl
insert_plain (suc i) f (h ∷ holes) e = ap (λ (xs : List Hole). h ∷ xs) (insert_plain i f holes e)

-- ---- a longer hole

pub longer_joined : (i n : ℕ) (h r : Hole) (holes : List Hole) → slice_get holes i ≡ Some h → hole_from (slice_get holes (suc i)) (h.at + (h.count + n)) ≡ Some r →
    set (take (suc i) holes ++ drop (suc (suc i)) holes) i (record { at = h.at; count = h.count + n + r.count })
    ≡ take i holes ++ before_holes (record { at = h.at; count = h.count + n }) (drop (suc i) holes)
longer_joined i n h r [] e f = cc
longer_joined zero n h r (q ∷ []) e f = cc
longer_joined zero n h r (q ∷ p ∷ holes) e f = before_touching (record { at = h.at; count = h.count + n }) p r holes f
longer_joined (suc i) n h r (q ∷ holes) e f = ap (λ (xs : List Hole). q ∷ xs) (longer_joined i n h r holes e f)

pub longer_plain : (i n : ℕ) (h : Hole) (holes : List Hole) → slice_get holes i ≡ Some h → hole_from (slice_get holes (suc i)) (h.at + (h.count + n)) ≡ None →
    set holes i (record { at = h.at; count = h.count + n }) ≡ take i holes ++ before_holes (record { at = h.at; count = h.count + n }) (drop (suc i) holes)
longer_plain i n h [] e f = cc
longer_plain zero n h (q ∷ holes) e f = before_apart_from (record { at = h.at; count = h.count + n }) holes f
longer_plain (suc i) n h (q ∷ holes) e f = ap (λ (xs : List Hole). q ∷ xs) (longer_plain i n h holes e f)

-- ---- a hole between others

abbrev pub merged : Hole → Hole → Hole
merged left f = record { at = left.at; count = left.count + f.count }

pub release_left : (i : ℕ) (left f : Hole) (holes : List Hole) → slice_get holes i ≡ Some left → (hole_end left == f.at) ≡ true →
    take i holes ++ before_holes (merged left f) (drop (suc i) holes) ≡ joined (take (suc i) holes) f (drop (suc i) holes)
release_left i left f [] e t = cc
release_left zero left f (q ∷ holes) e t =
    let same : left ≡ q = cc in
    ap (λ (x : Hole). before_holes (merged x f) holes) same
    ∙ sym (ap (λ (b : Bool). if b then before_holes (merged q f) holes else q ∷ before_holes f holes) (ap (λ (x : Hole). hole_end x == f.at) (sym same) ∙ t))
release_left (suc i) left f (q ∷ []) e t = cc
release_left (suc i) left f (q ∷ r ∷ holes) e t = ap (λ (xs : List Hole). q ∷ xs) (release_left i left f (r ∷ holes) e t)

pub release_first : (i : ℕ) (f : Hole) (holes : List Hole) → i ≡ 0 → take i holes ++ before_holes f (drop i holes) ≡ joined (take i holes) f (drop i holes)
release_first zero f holes e = refl
release_first (suc i) f holes e = absurd (omega (arith, e))

pub release_plain : (i : ℕ) (left f : Hole) (holes : List Hole) → slice_get holes i ≡ Some left → (hole_end left == f.at) ≡ false →
    take (suc i) holes ++ before_holes f (drop (suc i) holes) ≡ joined (take (suc i) holes) f (drop (suc i) holes)
release_plain i left f [] e t = cc
release_plain zero left f (q ∷ holes) e t =
    let same : q ≡ left = cc in
    sym (ap (λ (b : Bool). if b then before_holes (merged q f) holes else q ∷ before_holes f holes) (ap (λ (x : Hole). hole_end x == f.at) same ∙ t))
release_plain (suc i) left f (q ∷ []) e t = cc
release_plain (suc i) left f (q ∷ r ∷ holes) e t = ap (λ (xs : List Hole). q ∷ xs) (release_plain i left f (r ∷ holes) e t)

-- ---- searches

pub all_fail : (p : Hole → Bool) (holes : List Hole) → position p holes ≡ None → (k : ℕ) (d : Hole) → k < length holes → p (get_or holes k d) ≡ false
all_fail p holes e k d l = by (nat_lt (position_or_len p holes) (length holes)) refl e
  where
    by : (b : Bool) → nat_lt (position_or_len p holes) (length holes) ≡ b → cond b (Some (position_or_len p holes)) None ≡ None → p (get_or holes k d) ≡ false
    by true q e = cc
    by false q e = let m : length holes ≤ position_or_len p holes = grind (arith, nat_tests) in fails_before_first p holes k d (omega (arith, l, m))

-- each hole begins where the holes do or later
begins_above : (low limit : ℕ) (holes : List Hole) → AreApart low limit holes → (k : ℕ) (d : Hole) → k < length holes → low ≤ (get_or holes k d).at
begins_above low limit [] a k d l = absurd (omega (arith, l))
begins_above low limit (h ∷ holes) a zero d l = a.0
begins_above low limit (h ∷ holes) a (suc k) d l = omega (arith, a.0, begins_above (h.at + h.count + 1) limit holes a.3 k d (omega (arith, l)))

pub in_order : (low limit : ℕ) (holes : List Hole) → AreApart low limit holes → AreInOrder holes
in_order low limit [] a i j d l m = absurd (omega (arith, m))
in_order low limit (h ∷ holes) a zero zero d l m = omega arith
in_order low limit (h ∷ holes) a zero (suc j) d l m = omega (arith, begins_above (h.at + h.count + 1) limit holes a.3 j d (omega (arith, m)))
in_order low limit (h ∷ holes) a (suc i) zero d l m = absurd (omega (arith, l))
in_order low limit (h ∷ holes) a (suc i) (suc j) d l m = in_order (h.at + h.count + 1) limit holes a.3 i j d (omega (arith, l)) (omega (arith, m))
