-- Numbers, digit by digit, up to the largest one.
use Rattle.std.proofs.Common.{◌≡◌, ℕ, zero, suc, ◌+◌, ◌-◌, ◌*◌, ◌^◌, ◌<◌, ◌≤◌, min, List, [], ◌∷◌, length, Bool, true, false, Option, Some, None, refl, sym, ap, ◌∙◌, get_or, take, arith, add-one}
use Rattle.std.specs.Prelude.{ℤ, pos, negsuc, ◌-ℤ◌, int_le, ◌==◌, option_map, if◌then◌else◌, ◌&&◌}
use Rattle.std.specs.List.{list_all}
use Rattle.std.proofs.lemmas.List.{take_all}
use Rattle.std.proofs.lemmas.List.Folds.{list_all_more, list_all_at}
use Rattle.std.proofs.lemmas.List.Sums.{fold_more}
use Rattle.std.proofs.lemmas.Bool.Decides.{nat_tests}
use mir.Val.{SFits}
use mir.Syntax.{w64}
use Rattle.std.proofs.lemmas.Int.{ints}
use Rattle.asm_words.specs.Numbers.{is_digit, value_of, natural_of, within}
use Rattle.asm_words.specs.Readings.{capped}

-- ---- a loop over the digits

pub begins : 0 ≡ min (value_of []) (2 ^ 64 - 1)
unfolding value_of
begins = refl

more_value : (digits : List ℕ) (i : ℕ) → i < length digits → value_of (take (i + 1) digits) ≡ value_of (take i digits) * 10 + (get_or digits i 0 - 0x30)
unfolding value_of
more_value digits i l = fold_more (λ n u. n * 10 + (u - 0x30)) 0 digits i 0 l

saturated : (n d : ℕ) → min (min (min n (2 ^ 64 - 1) * 10) (2 ^ 64 - 1) + d) (2 ^ 64 - 1) ≡ min (n * 10 + d) (2 ^ 64 - 1)
saturated n d = omega arith

pub goes_on : (digits : List ℕ) (i total : ℕ) → i < length digits → total ≡ min (value_of (take i digits)) (2 ^ 64 - 1)
    → min (min (total * 10) (2 ^ 64 - 1) + (get_or digits i 0 - 0x30)) (2 ^ 64 - 1) ≡ min (value_of (take (i + 1) digits)) (2 ^ 64 - 1)
goes_on digits i total l e = rw (e, more_value digits i l) (saturated (value_of (take i digits)) (get_or digits i 0 - 0x30))

pub digits_go_on : (digits : List ℕ) (i : ℕ) → i < length digits → is_digit (get_or digits i 0) ≡ true → list_all is_digit (take i digits) ≡ true
    → list_all is_digit (take (i + 1) digits) ≡ true
digits_go_on digits i l e h = list_all_more is_digit digits i 0 l ∙ rw (e, h) refl

pub are_none : (digits : List ℕ) → (length digits == 0) ≡ true → None ≡ option_map (λ n. min n (2 ^ 64 - 1)) (natural_of digits)
unfolding natural_of
are_none [] h = refl
are_none (u ∷ units) h = absurd (grind (arith, nat_tests))

pub fails : (digits : List ℕ) (i : ℕ) → i < length digits → is_digit (get_or digits i 0) ≡ false → None ≡ option_map (λ n. min n (2 ^ 64 - 1)) (natural_of digits)
unfolding natural_of
fails [] i l e = refl
fails (u ∷ units) i l e = let h : list_all is_digit (u ∷ units) ≡ false = list_all_at is_digit (u ∷ units) i 0 l e in rw h refl

pub ends : (digits : List ℕ) (i total : ℕ) → (length digits == 0) ≡ false → length digits ≤ i → list_all is_digit (take i digits) ≡ true
    → total ≡ min (value_of (take i digits)) (2 ^ 64 - 1) → Some total ≡ option_map (λ n. min n (2 ^ 64 - 1)) (natural_of digits)
unfolding natural_of
ends [] i total some l h e = cc
ends (u ∷ units) i total some l h e =
    let k : list_all is_digit (u ∷ units) ≡ true = ap (list_all is_digit) (sym (take_all i (u ∷ units) l)) ∙ h in
    rw k (ap Some (e ∙ ap (λ digits. min (value_of digits) (2 ^ 64 - 1)) (take_all i (u ∷ units) l)))

-- ---- numbers with a sign

pub is_bounded : (o : Option ℕ) (m : ℕ) → Some m ≡ option_map (λ n. min n (2 ^ 64 - 1)) o → m < 2 ^ 64
is_bounded None m e = absurd (cc)
is_bounded (Some n) m e = let k : m ≡ min n (2 ^ 64 - 1) = cc in omega arith

capped_below : (n : ℕ) → pos 0 -ℤ pos (min n (2 ^ 64 - 1)) ≡ capped (pos 0 -ℤ pos n)
unfolding capped
capped_below zero = refl
capped_below (suc n) =
    let e : pos 0 -ℤ pos (suc n) ≡ negsuc n = grind (arith, ints) in
    ap (λ m. pos 0 -ℤ pos (min m (2 ^ 64 - 1))) (sym (add-one n)) ∙ ap capped (sym e)

pub is_negative : (o : Option ℕ) (m : ℕ) (z : ℤ) → Some m ≡ option_map (λ n. min n (2 ^ 64 - 1)) o → z ≡ pos 0 -ℤ pos m
    → Some z ≡ option_map capped (option_map (λ n. pos 0 -ℤ pos n) o)
is_negative None m z e h = absurd (cc)
is_negative (Some n) m z e h = let k : m ≡ min n (2 ^ 64 - 1) = cc in ap Some (h ∙ (ap (λ m. pos 0 -ℤ pos m) k ∙ capped_below n))

pub is_positive : (o : Option ℕ) (m : ℕ) (z : ℤ) → Some m ≡ option_map (λ n. min n (2 ^ 64 - 1)) o → z ≡ pos m
    → Some z ≡ option_map capped (option_map pos o)
unfolding capped
is_positive None m z e h = absurd (cc)
is_positive (Some n) m z e h = let k : m ≡ min n (2 ^ 64 - 1) = cc in ap Some (h ∙ ap pos k)

if_same : (t u : Bool) (x y : ℤ) → t ≡ u → (u ≡ true → x ≡ y) → (if t then Some x else None) ≡ (if u then Some y else None)
if_same true true x y e h = ap Some (h refl)
if_same true false x y e h = absurd (cc)
if_same false true x y e h = absurd (cc)
if_same false false x y e h = refl

same_positive : (low high : ℤ) (n : ℕ) → SFits w64 high → (int_le low (pos (min n (2 ^ 64 - 1))) && int_le (pos (min n (2 ^ 64 - 1))) high) ≡ (int_le low (pos n) && int_le (pos n) high)
same_positive low high n f = grind (arith, ints)

is_same_positive : (low high : ℤ) (n : ℕ) → SFits w64 high → (int_le low (pos n) && int_le (pos n) high) ≡ true → pos (min n (2 ^ 64 - 1)) ≡ pos n
is_same_positive low high n f e = grind (arith, ints)

same_negative : (low high : ℤ) (n : ℕ) → SFits w64 low → (int_le low (pos 0 -ℤ pos (min (n + 1) (2 ^ 64 - 1))) && int_le (pos 0 -ℤ pos (min (n + 1) (2 ^ 64 - 1))) high) ≡ (int_le low (negsuc n) && int_le (negsuc n) high)
same_negative low high n f = grind (arith, ints)

is_same_negative : (low high : ℤ) (n : ℕ) → SFits w64 low → (int_le low (negsuc n) && int_le (negsuc n) high) ≡ true → pos 0 -ℤ pos (min (n + 1) (2 ^ 64 - 1)) ≡ negsuc n
is_same_negative low high n f e = grind (arith, ints)

-- a number that is capped lies outside of all numbers of 64 bits with a sign, as it did before
pub within_capped : (low high : ℤ) (o : Option ℤ) → SFits w64 low → SFits w64 high → within low high (option_map capped o) ≡ within low high o
unfolding within capped
within_capped low high None f g = refl
within_capped low high (Some (pos n)) f g = if_same _ _ _ _ (same_positive low high n g) (is_same_positive low high n g)
within_capped low high (Some (negsuc n)) f g = if_same _ _ _ _ (same_negative low high n f) (is_same_negative low high n f)
