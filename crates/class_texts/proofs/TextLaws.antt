-- A text has one spelling in modified UTF-8, and bytes spell one text.
use Rattle.std.proofs.Common.{◌≡◌, ℕ, zero, suc, ◌+◌, ◌/◌, ◌%◌, ◌≤◌, ◌<◌, ◌^◌, List, [], ◌∷◌, ◌++◌, length, Bool, true, false, Option, Some, None, refl, sym, ap, subst, ◌∙◌, inl, inr, length-append, get_or, drop, arith}
use Rattle.std.specs.Prelude.{◌⊎◌, ◌↔◌, if◌then◌else◌}
use Rattle.std.specs.List.{AllByRecursion}
use Rattle.std.proofs.lemmas.List.{append-nil, drop_all}
use Rattle.std.proofs.lemmas.Option.{same_Some}
use Rattle.std.proofs.lemmas.Bool.Decides.{nat_tests}
use Rattle.class_grammar.specs.ModifiedUtf8.{IsModifiedUtf8, unit_bytes, modified_utf8, is_continuation, begins_one, begins_two, begins_three, unit_of_two, unit_of_three, is_two, is_three, with_unit, text_of_bytes}
use Rattle.class_texts.specs.Texts.{IsTextOf, two, three, with_rest, unit_of_three_at, unit_of_two_at, unit_at}
use Rattle.class_texts.proofs.Texts.{continued, text_step}

-- ---- one unit

one_byte : (b : ℕ) → begins_one b ≡ true → (b ∷ [] ≡ unit_bytes b) × (b < 2 ^ 16)
unfolding begins_one unit_bytes
one_byte b e = grind (arith, nat_tests)

two_bytes : (b c u : ℕ) → two b c ≡ Some u → (b ∷ c ∷ [] ≡ unit_bytes u) × (u < 2 ^ 16)
unfolding two is_two begins_two is_continuation unit_of_two unit_bytes
two_bytes b c u e = grind (arith, nat_tests)

three_bytes : (b c d u : ℕ) → three b c d ≡ Some u → (b ∷ c ∷ d ∷ [] ≡ unit_bytes u) × (u < 2 ^ 16)
unfolding three is_three begins_three is_continuation unit_of_three unit_bytes
three_bytes b c d u e = grind (arith, nat_tests)

one_again : (u : ℕ) → 1 ≤ u → u < 0x80 → (unit_bytes u ≡ u ∷ []) × (begins_one u ≡ true)
unfolding begins_one unit_bytes
one_again u h lt = grind (arith, nat_tests)

two_again : (u : ℕ) → (u ≡ 0) ⊎ (0x80 ≤ u) → u < 0x800
    → (unit_bytes u ≡ (0xc0 + u / 64) ∷ (0x80 + u % 64) ∷ []) × (begins_one (0xc0 + u / 64) ≡ false) × (two (0xc0 + u / 64) (0x80 + u % 64) ≡ Some u)
unfolding two is_two begins_one begins_two is_continuation unit_of_two unit_bytes
two_again u h lt = (grind (arith, nat_tests), grind (arith, nat_tests), grind (arith, nat_tests))

three_again : (u : ℕ) → 0x800 ≤ u → u < 2 ^ 16
    → (unit_bytes u ≡ (0xe0 + u / 4096) ∷ (0x80 + u / 64 % 64) ∷ (0x80 + u % 64) ∷ []) × (begins_one (0xe0 + u / 4096) ≡ false) × (two (0xe0 + u / 4096) (0x80 + u / 64 % 64) ≡ None) × (three (0xe0 + u / 4096) (0x80 + u / 64 % 64) (0x80 + u % 64) ≡ Some u)
unfolding two three is_two is_three begins_one begins_two begins_three is_continuation unit_of_two unit_of_three unit_bytes
three_again u h lt = (grind (arith, nat_tests), grind (arith, nat_tests), grind (arith, nat_tests), grind (arith, nat_tests))

if_some : {A : Type 0} (t : Bool) (x y : A) (o : Option A) → (if t then Some x else o) ≡ Some y → ((t ≡ true) × (x ≡ y)) ⊎ (o ≡ Some y)
if_some true x y o e = inl (refl, cc)
if_some false x y o e = inr e

rest_some : (t : Option ℕ) (rest : List ℕ) (y : ℕ × List ℕ) (o : Option (ℕ × List ℕ)) → with_rest t rest o ≡ Some y → ((t ≡ Some y.0) × (rest ≡ y.1)) ⊎ (o ≡ Some y)
rest_some None rest y o e = inr e
rest_some (Some u) rest y o e = inl (cc, cc)

Spelled : List ℕ → ℕ × List ℕ → Type 0
Spelled bytes x = (bytes ≡ unit_bytes x.0 ++ x.1) × (x.0 < 2 ^ 16)

three_spelled : (b c : ℕ) (bytes : List ℕ) (x : ℕ × List ℕ) → unit_of_three_at b c bytes ≡ Some x → Spelled (b ∷ c ∷ bytes) x
unfolding unit_of_three_at Spelled
three_spelled b c [] x e = absurd (cc)
three_spelled b c (d ∷ rest) x e = elim (rest_some (three b c d) rest x None e) [
  | inl h ↦ let w = three_bytes b c d x.0 h.0 in (ap (λ y. b ∷ c ∷ d ∷ y) h.1 ∙ ap (λ y. y ++ x.1) w.0, w.1)
  | inr h ↦ absurd (cc)
]

two_spelled : (b : ℕ) (bytes : List ℕ) (x : ℕ × List ℕ) → unit_of_two_at b bytes ≡ Some x → Spelled (b ∷ bytes) x
unfolding unit_of_two_at Spelled
two_spelled b [] x e = absurd (cc)
two_spelled b (c ∷ rest) x e = elim (rest_some (two b c) rest x (unit_of_three_at b c rest) e) [
  | inl h ↦ let w = two_bytes b c x.0 h.0 in (ap (λ y. b ∷ c ∷ y) h.1 ∙ ap (λ y. y ++ x.1) w.0, w.1)
  | inr h ↦ three_spelled b c rest x h
]

unit_spelled : (bytes : List ℕ) (x : ℕ × List ℕ) → unit_at bytes ≡ Some x → Spelled bytes x
unfolding unit_at Spelled
unit_spelled [] x e = absurd (cc)
unit_spelled (b ∷ rest) x e = elim (if_some (begins_one b) (b, rest) x (unit_of_two_at b rest) e) [
  | inl h ↦ let w = one_byte b h.0 in let k : b ≡ x.0 = ap (λ (p : ℕ × List ℕ). p.0) h.1 in let m : rest ≡ x.1 = ap (λ (p : ℕ × List ℕ). p.1) h.1 in
      (ap (λ y. b ∷ y) m ∙ ap (λ y. y ++ x.1) (w.0 ∙ ap unit_bytes k), subst (λ n. n < 2 ^ 16) k w.1)
  | inr h ↦ two_spelled b rest x h
]

sum_lt : (a b : ℕ) → (a < b) ⊎ (b ≤ a)
sum_lt a b = grind arith

-- how many bytes a unit takes up
data Size (u : ℕ) : Type 0 where
  Short : 1 ≤ u → u < 0x80 → Size u
  Middle : (u ≡ 0) ⊎ (0x80 ≤ u) → u < 0x800 → Size u
  Long : 0x800 ≤ u → Size u

sort_unit : (u : ℕ) → u < 2 ^ 16 → Size u
sort_unit u fits = elim (sum_lt u 0x800) [
  | inl small ↦ elim (sum_lt u 0x80) [
    | inl tiny ↦ elim (sum_lt u 1) [ inl z ↦ Middle (inl (omega arith)) small | inr p ↦ Short p tiny ]
    | inr big ↦ Middle (inr big) small
  ]
  | inr big ↦ Long big
]

unit_again : (u : ℕ) (rest : List ℕ) → u < 2 ^ 16 → unit_at (unit_bytes u ++ rest) ≡ Some (u, rest)
unfolding unit_at unit_of_two_at unit_of_three_at
unit_again u rest fits = elim (sort_unit u fits) [
  | Short h lt ↦ let w = one_again u h lt in rw (w.0, w.1) refl
  | Middle h lt ↦ let w = two_again u h lt in rw (w.0, w.1, w.2) refl
  | Long h ↦ let w = three_again u h fits in rw (w.0, w.1, w.2, w.3) refl
]

-- ---- texts

-- a text that begins with a unit
some_with : (u : ℕ) (o : Option (List ℕ)) (units : List ℕ) → with_unit u o ≡ Some units → (us : List ℕ) × (o ≡ Some us) × (units ≡ u ∷ us)
unfolding with_unit
some_with u None units e = absurd (cc)
some_with u (Some us) units e = (us, refl, cc)

continued_some : (o : Option (ℕ × List ℕ)) (units : List ℕ) → continued o ≡ Some units → (x : ℕ × List ℕ) × (o ≡ Some x) × (with_unit x.0 (text_of_bytes x.1) ≡ Some units)
continued_some None units e = absurd (cc)
continued_some (Some x) units e = (x, refl, e)

-- a unit takes up a byte or more
takes_up : (u : ℕ) → 1 ≤ length (unit_bytes u)
unfolding unit_bytes
takes_up u = grind (arith, nat_tests)

text_spelled : (n : ℕ) (bytes units : List ℕ) → length bytes ≤ n → text_of_bytes bytes ≡ Some units → IsModifiedUtf8 bytes units
unfolding text_of_bytes Spelled
text_spelled n [] units le e = let k : [] ≡ units = cc in subst (IsModifiedUtf8 []) k (record { spelled = refl; are_units = tt })
text_spelled zero (b ∷ bytes) units le e = absurd (omega arith)
text_spelled (suc n) (b ∷ bytes) units le e =
    let x = continued_some (unit_at (b ∷ bytes)) units (sym (text_step b bytes) ∙ e) in
    let y = some_with x.0.0 (text_of_bytes x.0.1) units x.2 in
    let w = unit_spelled (b ∷ bytes) x.0 x.1 in
    let whole : length (b ∷ bytes) ≡ length (unit_bytes x.0.0) + length x.0.1 = ap length w.0 ∙ length-append (unit_bytes x.0.0) x.0.1 in
    let k = takes_up x.0.0 in
    let h = text_spelled n x.0.1 y.0 (omega arith) y.1 in
    subst (IsModifiedUtf8 (b ∷ bytes)) (sym y.2) (record { spelled = w.0 ∙ ap (λ t. unit_bytes x.0.0 ++ t) h.spelled; are_units = (w.1, h.are_units) })

from_unit : (u : ℕ) (rest bytes : List ℕ) → unit_at bytes ≡ Some (u, rest) → text_of_bytes bytes ≡ with_unit u (text_of_bytes rest)
unfolding unit_at
from_unit u rest [] e = absurd (cc)
from_unit u rest (b ∷ bytes) e = text_step b bytes ∙ ap continued e

text_again : (units : List ℕ) → AllByRecursion (λ u. u < 2 ^ 16) units → text_of_bytes (modified_utf8 units) ≡ Some units
unfolding text_of_bytes with_unit
text_again [] h = refl
text_again (u ∷ us) h =
    from_unit u (modified_utf8 us) (unit_bytes u ++ modified_utf8 us) (unit_again u (modified_utf8 us) h.0) ∙ ap (with_unit u) (text_again us h.1)

-- what reading the bytes gives is the text that they spell
pub text_law : (bytes units : List ℕ) → text_of_bytes bytes ≡ Some units ↔ IsModifiedUtf8 bytes units
text_law bytes units =
    (text_spelled (length bytes) bytes units (omega arith), λ h. ap text_of_bytes h.spelled ∙ text_again units h.are_units)

pub is_text : (bytes : List ℕ) (o : Option (List ℕ)) → o ≡ text_of_bytes bytes → IsTextOf bytes o
is_text bytes None e = λ units h. let k : text_of_bytes bytes ≡ Some units = (text_law bytes units).1 h in absurd (cc)
is_text bytes (Some units) e = (text_law bytes units).0 (sym e)

-- units by their places
pub units_fit : (units : List ℕ) → ((i : ℕ) → get_or units i 0 < 2 ^ 16) → AllByRecursion (λ u. u < 2 ^ 16) units
units_fit [] h = tt
units_fit (u ∷ us) h = (h 0, units_fit us (λ i. h (suc i)))

pub written : (front : List ℕ) (units : List ℕ) (i : ℕ) → length units ≤ i → front ++ modified_utf8 (drop i units) ≡ modified_utf8 units → front ≡ modified_utf8 units
written front units i le e = sym (append-nil front) ∙ ap (λ us. front ++ modified_utf8 us) (sym (drop_all i units le)) ∙ e

pub one_spelling : (a b units : List ℕ) → IsModifiedUtf8 a units → IsModifiedUtf8 b units → a ≡ b
one_spelling a b units h k = h.spelled ∙ sym k.spelled

pub one_text : (bytes a b : List ℕ) → IsModifiedUtf8 bytes a → IsModifiedUtf8 bytes b → a ≡ b
one_text bytes a b h k = same_Some a b (sym ((text_law bytes a).1 h) ∙ (text_law bytes b).1 k)
