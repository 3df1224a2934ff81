-- Ranges of bytes within a part, from numbers that aren't below 0.
use Rattle.std.proofs.Common.{◌≡◌, refl, sym, ◌∙◌, ap, ℕ, ◌+◌, ◌-◌, ◌<◌, ◌≤◌, ◌&&◌, Bool, true, false, Some, None, if◌then◌else◌, arith}
use mir.Val.{SFits}
use Rattle.std.specs.Prelude.{ℤ, pos, negsuc, nat_le}
use Rattle.std.specs.Int.{cast_signed, cast_unsigned, w32}
use Rattle.std.proofs.lemmas.Int.{to_z-of_z}
use Rattle.std.proofs.lemmas.Bool.Decides.{nat_tests}
use Rattle.jx_base.proofs.BasicLaws.{ap2}
use Rattle.jx_model.specs.Replies.{is_positive_up_to, is_within}
use Rattle.memory_objects.specs.declared.ranges.Span.{Span}
use Rattle.memory_objects.specs.Ranges.{natural, side_in, span_in, span_of}

-- a number that isn't below 0
pub natural_is : (z : ℤ) (n : ℕ) → natural z ≡ Some n → z ≡ pos n
natural_is (pos k) n h = let q : k ≡ n = cc in ap pos q
natural_is (negsuc k) n h = cc

at_most : (a b : ℕ) → a ≤ b → nat_le a b ≡ true
at_most a b h = grind (arith, nat_tests)

beyond : (a b : ℕ) → b < a → nat_le a b ≡ false
beyond a b h = grind (arith, nat_tests)

le_of : (a b : ℕ) → nat_le a b ≡ true → a ≤ b
le_of a b h = grind (arith, nat_tests)

-- ---- sides

-- a side without a byte
pub side_zero : (z : ℤ) (n size : ℕ) → natural z ≡ Some n → n ≡ 0 → None ≡ side_in z size
unfolding is_positive_up_to
side_zero z n size h e = sym (ap (λ (x : ℤ). side_in x size) (natural_is z n h ∙ ap pos e))

-- another side without a byte
pub side_past : (z : ℤ) (n size : ℕ) → natural z ≡ Some n → 1 ≤ n → size ≤ n → None ≡ side_in z size
unfolding is_positive_up_to
side_past z n size h one l =
    sym (ap (λ (x : ℤ). side_in x size) (natural_is z n h)
    ∙ ap (λ (b : Bool). if b then Some n else None) (ap2 (λ (a b : Bool). a && b) (at_most 1 n one) (beyond n (size - 1) (omega (arith, one, l)))))

-- both sides have bytes
pub side_there : (z : ℤ) (n size : ℕ) → natural z ≡ Some n → 1 ≤ n → n < size → Some n ≡ side_in z size
unfolding is_positive_up_to
side_there z n size h one l =
    sym (ap (λ (x : ℤ). side_in x size) (natural_is z n h)
    ∙ ap (λ (b : Bool). if b then Some n else None) (ap2 (λ (a b : Bool). a && b) (at_most 1 n one) (at_most n (size - 1) (omega (arith, l)))))

-- ---- spans

-- bytes that end past the size
pub span_past : (y z : ℤ) (at count size : ℕ) → natural y ≡ Some at → natural z ≡ Some count → size < at + count → None ≡ span_in y z size
unfolding is_within
span_past y z at count size h k l =
    sym (ap2 (λ (a b : ℤ). span_in a b size) (natural_is y at h) (natural_is z count k)
    ∙ ap (λ (b : Bool). if b then span_of (pos at) (pos count) else None) (beyond (at + count) size l))

-- bytes that don't
pub span_there : (y z : ℤ) (at count size : ℕ) → natural y ≡ Some at → natural z ≡ Some count → at + count ≤ size → Some (record { at = at; count = count }) ≡ span_in y z size
unfolding is_within
span_there y z at count size h k l =
    sym (ap2 (λ (a b : ℤ). span_in a b size) (natural_is y at h) (natural_is z count k)
    ∙ ap (λ (b : Bool). if b then span_of (pos at) (pos count) else None) (at_most (at + count) size l))

-- a range that is there
pub record IsSpan (y z : ℤ) (size : ℕ) (s : Span) : Type 0 where
  pub within : is_within y z size ≡ true
  pub at : y ≡ pos s.at
  pub count : z ≡ pos s.count
  pub low : s.at + s.count ≤ size

-- what is found is a range within the size
pub span_is : (y z : ℤ) (size : ℕ) (s : Span) → Some s ≡ span_in y z size → IsSpan y z size s
unfolding is_within
span_is (pos a) (pos c) size s h = by (nat_le (a + c) size) refl h
  where
    by : (b : Bool) → nat_le (a + c) size ≡ b → Some s ≡ (if b then span_of (pos a) (pos c) else None) → IsSpan (pos a) (pos c) size s
    by false q g = cc
    by true q g =
        let e : s ≡ (let t : Span = record { at = a; count = c } in t) = cc in
        let x : a ≡ s.at = sym (ap (λ (t : Span). t.at) e) in
        let y : c ≡ s.count = sym (ap (λ (t : Span). t.count) e) in
        record { within = q; at = ap pos x; count = ap pos y; low = let l = le_of (a + c) size q in omega (arith, l, x, y) }
span_is (pos a) (negsuc c) size s h = cc
span_is (negsuc a) (pos c) size s h = cc
span_is (negsuc a) (negsuc c) size s h = cc

-- none is found where the bytes don't lie within the size
pub span_none : (y z : ℤ) (size : ℕ) → None ≡ span_in y z size → is_within y z size ≡ false
unfolding is_within
span_none (pos a) (pos c) size h = by (nat_le (a + c) size) h
  where
    by : (b : Bool) → None ≡ (if b then span_of (pos a) (pos c) else None) → b ≡ false
    by false g = refl
    by true g = cc
span_none (pos a) (negsuc c) size h = refl
span_none (negsuc a) (pos c) size h = refl
span_none (negsuc a) (negsuc c) size h = refl

-- ---- what is found of sides

-- a cut that is there
pub record IsSide (z : ℤ) (size n : ℕ) : Type 0 where
  pub positive : is_positive_up_to (size - 1) z ≡ true
  pub at : z ≡ pos n
  pub one : 1 ≤ n
  pub low : n < size

-- what is found is a cut with bytes on both sides
pub side_is : (z : ℤ) (size n : ℕ) → Some n ≡ side_in z size → IsSide z size n
unfolding is_positive_up_to
side_is (pos k) size n h = by (nat_le 1 k) (nat_le k (size - 1)) refl refl h
  where
    by : (a b : Bool) → nat_le 1 k ≡ a → nat_le k (size - 1) ≡ b → Some n ≡ (if a && b then Some k else None) → IsSide (pos k) size n
    by true true p q g =
        let e : n ≡ k = cc in
        let l = le_of 1 k p in
        let u = le_of k (size - 1) q in
        record { positive = ap2 (λ (a b : Bool). a && b) p q; at = ap pos (sym e); one = omega (arith, l, e); low = omega (arith, l, u, e) }
    by true false p q g = cc
    by false true p q g = cc
    by false false p q g = cc
side_is (negsuc k) size n h = cc

-- none is found where a side has none
pub side_none : (z : ℤ) (size : ℕ) → None ≡ side_in z size → is_positive_up_to (size - 1) z ≡ false
unfolding is_positive_up_to
side_none (pos k) size h = by (nat_le 1 k && nat_le k (size - 1)) h
  where
    by : (b : Bool) → None ≡ (if b then Some k else None) → b ≡ false
    by false g = refl
    by true g = cc
side_none (negsuc k) size h = refl

-- ---- counts

-- no count is positive that is 0
pub positive_zero : (limit : ℕ) (z : ℤ) (n : ℕ) → z ≡ pos n → n ≡ 0 → is_positive_up_to limit z ≡ false
unfolding is_positive_up_to
positive_zero limit z n e h = ap (is_positive_up_to limit) (e ∙ ap pos h)

-- a count that isn't 0 and not above the limit
pub positive_count : (limit : ℕ) (z : ℤ) (n : ℕ) → z ≡ pos n → 1 ≤ n → n ≤ limit → is_positive_up_to limit z ≡ true
unfolding is_positive_up_to
positive_count limit z n e one low = ap (is_positive_up_to limit) e ∙ ap2 (λ (a b : Bool). a && b) (at_most 1 n one) (at_most n limit low)

-- ---- numbers of 32 bits

-- a range of two such numbers
pub same_span : (y z : ℤ) (size : ℕ) → SFits w32 y → SFits w32 z → span_in (cast_signed w32 (cast_unsigned w32 y)) (cast_signed w32 (cast_unsigned w32 z)) size ≡ span_in y z size
same_span y z size f g = ap2 (λ (a b : ℤ). span_in a b size) (to_z-of_z w32 y f) (to_z-of_z w32 z g)

-- a cut at such a number
pub same_side : (z : ℤ) (size : ℕ) → SFits w32 z → side_in (cast_signed w32 (cast_unsigned w32 z)) size ≡ side_in z size
same_side z size f = ap (λ (a : ℤ). side_in a size) (to_z-of_z w32 z f)
