-- A text in quotes is read as it is written.
use Rattle.std.proofs.Common.{◌≡◌, ℕ, zero, suc, ◌+◌, ◌*◌, ◌/◌, ◌%◌, ◌≤◌, ◌<◌, ◌^◌, List, [], ◌∷◌, ◌++◌, length, Bool, true, false, Option, Some, None, refl, sym, ap, subst, ◌∙◌, inl, inr, append_assoc, length-append, arith}
use Rattle.std.specs.Prelude.{◌⊎◌, ◌==◌, if◌then◌else◌}
use Rattle.std.specs.List.{AllByRecursion}
use Rattle.std.proofs.lemmas.Bool.Decides.{nat_tests}
use Rattle.jx_base.specs.Texts.{hex_digit, is_plain, escape, unit_text, units_text, quoted}
use Rattle.asm_words.specs.Words.{quote}
use Rattle.asm_words.specs.Numbers.{digit_value, with_digit, four_digits}
use Rattle.asm_words.specs.Quotes.{IsQuoted, backslash, letter_u, with_unit, is_upper, escaped_unit, up_to_quote, unquoted}
use Rattle.asm_words.specs.Readings.{is_closing, with_rest, escape_at, unit_at}
use Rattle.asm_words.proofs.Texts.{continued, text_step}

-- ---- a digit

digit_spelled : (a x : ℕ) → digit_value a ≡ Some x → is_upper a ≡ false → (hex_digit x ≡ a) × (x < 16)
unfolding digit_value is_upper
digit_spelled a x e h = (grind (arith, nat_tests), grind (arith, nat_tests))

digit_again : (x : ℕ) → x < 16 → (digit_value (hex_digit x) ≡ Some x) × (is_upper (hex_digit x) ≡ false)
unfolding digit_value is_upper
digit_again x h = (grind (arith, nat_tests), grind (arith, nat_tests))

-- ---- four digits

with_some : (n d : Option ℕ) (u : ℕ) → with_digit n d ≡ Some u → (x : ℕ) × (y : ℕ) × (n ≡ Some x) × (d ≡ Some y) × (u ≡ x * 16 + y)
unfolding with_digit
with_some None d u e = absurd (cc)
with_some (Some x) None u e = absurd (cc)
with_some (Some x) (Some y) u e = (x, y, refl, refl, cc)

record Digits (a b c d u : ℕ) : Type 0 where
  one : hex_digit (u / 4096) ≡ a
  two : hex_digit (u / 256 % 16) ≡ b
  three : hex_digit (u / 16 % 16) ≡ c
  four : hex_digit (u % 16) ≡ d
  is_unit : u < 2 ^ 16

parted : (x y z w u : ℕ) → x < 16 → y < 16 → z < 16 → w < 16 → u ≡ ((x * 16 + y) * 16 + z) * 16 + w
    → (u / 4096 ≡ x) × (u / 256 % 16 ≡ y) × (u / 16 % 16 ≡ z) × (u % 16 ≡ w) × (u < 2 ^ 16)
parted x y z w u p q r s e = (omega arith, omega arith, omega arith, omega arith, omega arith)

digits_spelled : (a b c d u : ℕ) → four_digits a b c d ≡ Some u → is_upper a ≡ false → is_upper b ≡ false → is_upper c ≡ false → is_upper d ≡ false → Digits a b c d u
unfolding four_digits
digits_spelled a b c d u e ha hb hc hd =
    let k = with_some (with_digit (with_digit (digit_value a) (digit_value b)) (digit_value c)) (digit_value d) u e in
    let l = with_some (with_digit (digit_value a) (digit_value b)) (digit_value c) k.0 k.2 in
    let m = with_some (digit_value a) (digit_value b) l.0 l.2 in
    let p = digit_spelled a m.0 m.2 ha in let q = digit_spelled b m.1 m.3 hb in let r = digit_spelled c l.1 l.3 hc in let s = digit_spelled d k.1 k.3 hd in
    let w = parted m.0 m.1 l.1 k.1 u p.1 q.1 r.1 s.1 (k.4 ∙ ap (λ n. n * 16 + k.1) (l.4 ∙ ap (λ n. n * 16 + l.1) m.4)) in
    record { one = ap hex_digit w.0 ∙ p.0; two = ap hex_digit w.1 ∙ q.0; three = ap hex_digit w.2 ∙ r.0; four = ap hex_digit w.3 ∙ s.0; is_unit = w.4 }

summed : (u : ℕ) → u < 2 ^ 16 → ((u / 4096 * 16 + u / 256 % 16) * 16 + u / 16 % 16) * 16 + u % 16 ≡ u
summed u h = omega arith

digits_again : (u : ℕ) → u < 2 ^ 16 → four_digits (hex_digit (u / 4096)) (hex_digit (u / 256 % 16)) (hex_digit (u / 16 % 16)) (hex_digit (u % 16)) ≡ Some u
unfolding four_digits with_digit
digits_again u h =
    let p = digit_again (u / 4096) (omega arith) in let q = digit_again (u / 256 % 16) (omega arith) in
    let r = digit_again (u / 16 % 16) (omega arith) in let s = digit_again (u % 16) (omega arith) in
    rw (p.0, q.0, r.0, s.0) (ap Some (summed u h))

-- ---- an escape

unless : (t : Bool) (o : Option ℕ) (u : ℕ) → (if t then None else o) ≡ Some u → (t ≡ false) × (o ≡ Some u)
unless true o u e = absurd (cc)
unless false o u e = (refl, e)

not_plain : (o : Option ℕ) (u : ℕ) → elim o [ None ↦ None | Some v ↦ if is_plain v then None else Some v ] ≡ Some u → (o ≡ Some u) × (is_plain u ≡ false)
not_plain None u e = absurd (cc)
not_plain (Some v) u e =
    let k = unless (is_plain v) (Some v) u e in let m : v ≡ u = cc in (k.1, ap is_plain (sym m) ∙ k.0)

escape_spelled : (a b c d u : ℕ) → escaped_unit a b c d ≡ Some u → (escape u ≡ backslash ∷ letter_u ∷ a ∷ b ∷ c ∷ d ∷ []) × (is_plain u ≡ false) × (u < 2 ^ 16)
unfolding escaped_unit
escape_spelled a b c d u e =
    let k = unless (is_upper a) _ u e in let l = unless (is_upper b) _ u k.1 in let m = unless (is_upper c) _ u l.1 in let n = unless (is_upper d) _ u m.1 in
    let w = not_plain (four_digits a b c d) u n.1 in
    let h = digits_spelled a b c d u w.0 k.0 l.0 m.0 n.0 in
    (rw (h.one, h.two, h.three, h.four) refl, w.1, h.is_unit)

escape_again : (u : ℕ) → u < 2 ^ 16 → is_plain u ≡ false
    → escaped_unit (hex_digit (u / 4096)) (hex_digit (u / 256 % 16)) (hex_digit (u / 16 % 16)) (hex_digit (u % 16)) ≡ Some u
unfolding escaped_unit
escape_again u h e =
    let p = digit_again (u / 4096) (omega arith) in let q = digit_again (u / 256 % 16) (omega arith) in
    let r = digit_again (u / 16 % 16) (omega arith) in let s = digit_again (u % 16) (omega arith) in
    rw (p.1, q.1, r.1, s.1, digits_again u h, e) refl

-- ---- a unit

if_some : (t : Bool) (o p : Option (ℕ × List ℕ)) (x : ℕ × List ℕ) → (if t then o else p) ≡ Some x → ((t ≡ true) × (o ≡ Some x)) ⊎ ((t ≡ false) × (p ≡ Some x))
if_some true o p x e = inl (refl, e)
if_some false o p x e = inr (refl, e)

rest_some : (o : Option ℕ) (rest : List ℕ) (x : ℕ × List ℕ) → with_rest o rest ≡ Some x → (o ≡ Some x.0) × (rest ≡ x.1)
unfolding with_rest
rest_some None rest x e = absurd (cc)
rest_some (Some u) rest x e = (cc, cc)

Spelled : List ℕ → ℕ × List ℕ → Type 0
Spelled units x = (units ≡ unit_text x.0 ++ x.1) × (x.0 < 2 ^ 16)

is_the : (u v : ℕ) → (u == v) ≡ true → u ≡ v
is_the u v e = grind (arith, nat_tests)

escape_at_spelled : (units : List ℕ) (x : ℕ × List ℕ) → escape_at units ≡ Some x → Spelled (backslash ∷ units) x
unfolding escape_at Spelled unit_text
escape_at_spelled [] x e = absurd (cc)
escape_at_spelled (v ∷ []) x e = absurd (cc)
escape_at_spelled (v ∷ a ∷ []) x e = absurd (cc)
escape_at_spelled (v ∷ a ∷ b ∷ []) x e = absurd (cc)
escape_at_spelled (v ∷ a ∷ b ∷ c ∷ []) x e = absurd (cc)
escape_at_spelled (v ∷ a ∷ b ∷ c ∷ d ∷ rest) x e = elim (if_some (v == letter_u) (with_rest (escaped_unit a b c d) rest) None x e) [
  | inl h ↦
      let k = rest_some (escaped_unit a b c d) rest x h.1 in let w = escape_spelled a b c d x.0 k.0 in (
        ap (λ v. backslash ∷ v ∷ a ∷ b ∷ c ∷ d ∷ rest) (is_the v letter_u h.0)
            ∙ (ap (λ rest. backslash ∷ letter_u ∷ a ∷ b ∷ c ∷ d ∷ rest) k.1 ∙ (ap (λ text. text ++ x.1) (sym w.0) ∙ (rw (w.1) refl))),
        w.2,
      )
  | inr h ↦ absurd (cc)
]

is_small : (u : ℕ) → is_plain u ≡ true → u < 2 ^ 16
is_small u e = grind (arith, nat_tests)

plain_spelled : (u : ℕ) (units : List ℕ) → is_plain u ≡ true → Spelled (u ∷ units) (u, units)
unfolding Spelled unit_text
plain_spelled u units e = (rw e refl, is_small u e)

unit_spelled : (u : ℕ) (units : List ℕ) (x : ℕ × List ℕ) → unit_at (u ∷ units) ≡ Some x → Spelled (u ∷ units) x
unfolding unit_at
unit_spelled u units x e = elim (if_some (u == backslash) (escape_at units) (if is_plain u then Some (u, units) else None) x e) [
  | inl h ↦ subst (λ v. Spelled (v ∷ units) x) (sym (is_the u backslash h.0)) (escape_at_spelled units x h.1)
  | inr h ↦ elim (if_some (is_plain u) (Some (u, units)) None x h.1) [
    | inl k ↦ let m : (u, units) ≡ x = cc in subst (Spelled (u ∷ units)) m (plain_spelled u units k.0)
    | inr k ↦ absurd (cc)
  ]
]

plain_is_not : (u : ℕ) → is_plain u ≡ true → ((u == backslash) ≡ false) × ((u == quote) ≡ false)
plain_is_not u e = (grind (arith, nat_tests), grind (arith, nat_tests))

is_not_closing : (u : ℕ) (units : List ℕ) → (u == quote) ≡ false → is_closing (u ∷ units) ≡ false
unfolding is_closing
is_not_closing u [] e = e
is_not_closing u (v ∷ units) e = refl

Read : ℕ → List ℕ → Type 0
Read u rest = (is_closing (unit_text u ++ rest) ≡ false) × (unit_at (unit_text u ++ rest) ≡ Some (u, rest))

picks : (s t : Bool) (o p : Option (ℕ × List ℕ)) → s ≡ false → t ≡ true → (if s then o else if t then p else None) ≡ p
picks true t o p e h = absurd (cc)
picks false true o p e h = refl
picks false false o p e h = absurd (cc)

plain_text : (u : ℕ) → is_plain u ≡ true → unit_text u ≡ u ∷ []
unfolding unit_text
plain_text u e = rw e refl

escaped_text : (u : ℕ) → is_plain u ≡ false → unit_text u ≡ escape u
unfolding unit_text
escaped_text u e = rw e refl

plain_read : (u : ℕ) (rest : List ℕ) → is_plain u ≡ true → unit_at (u ∷ rest) ≡ Some (u, rest)
unfolding unit_at
plain_read u rest e = picks (u == backslash) (is_plain u) (escape_at rest) (Some (u, rest)) (plain_is_not u e).0 e

escaped_read : (u : ℕ) (rest : List ℕ) → is_plain u ≡ false → u < 2 ^ 16 → unit_at (escape u ++ rest) ≡ Some (u, rest)
unfolding unit_at escape_at with_rest
escaped_read u rest e h = rw (escape_again u h e) refl

unit_read : (t : Bool) (u : ℕ) (rest : List ℕ) → is_plain u ≡ t → u < 2 ^ 16 → Read u rest
unfolding Read
unit_read true u rest e h =
    rw (plain_text u e) (is_not_closing u rest (plain_is_not u e).1, plain_read u rest e)
unit_read false u rest e h = rw (escaped_text u e) (is_not_closing backslash _ refl, escaped_read u rest e h)

-- ---- texts

from_unit : (u : ℕ) (rest units : List ℕ) → is_closing units ≡ false → unit_at units ≡ Some (u, rest) → up_to_quote units ≡ with_unit u (up_to_quote rest)
unfolding unit_at
from_unit u rest [] h e = absurd (cc)
from_unit u rest (v ∷ units) h e = text_step v units h ∙ ap continued e

text_again : (units : List ℕ) → AllByRecursion (λ u. u < 2 ^ 16) units → up_to_quote (units_text units ++ quote ∷ []) ≡ Some units
unfolding up_to_quote with_unit Read
text_again [] h = refl
text_again (u ∷ us) h =
    let rest = units_text us ++ quote ∷ [] in let w = unit_read (is_plain u) u rest refl h.0 in
    ap up_to_quote (append_assoc (unit_text u) (units_text us) (quote ∷ [])) ∙ (from_unit u rest (unit_text u ++ rest) w.0 w.1 ∙ ap (with_unit u) (text_again us h.1))

some_with : (u : ℕ) (o : Option (List ℕ)) (units : List ℕ) → with_unit u o ≡ Some units → (us : List ℕ) × (o ≡ Some us) × (units ≡ u ∷ us)
unfolding with_unit
some_with u None units e = absurd (cc)
some_with u (Some us) units e = (us, refl, cc)

continued_some : (o : Option (ℕ × List ℕ)) (units : List ℕ) → continued o ≡ Some units → (x : ℕ × List ℕ) × (o ≡ Some x) × (with_unit x.0 (up_to_quote x.1) ≡ Some units)
continued_some None units e = absurd (cc)
continued_some (Some x) units e = (x, refl, e)

takes_up : (u : ℕ) → 1 ≤ length (unit_text u)
unfolding unit_text
takes_up u = grind (arith, nat_tests)

Texted : List ℕ → List ℕ → Type 0
Texted word units = (word ≡ units_text units ++ quote ∷ []) × AllByRecursion (λ u. u < 2 ^ 16) units

closing_text : (u : ℕ) (rest units : List ℕ) → is_closing (u ∷ rest) ≡ true → up_to_quote (u ∷ rest) ≡ Some units → Texted (u ∷ rest) units
unfolding is_closing up_to_quote Texted
closing_text u [] units h e =
    let k : Some [] ≡ Some units = rw h at e in let m : [] ≡ units = cc in
    subst (λ us. Texted (u ∷ []) us) m (ap (λ v. v ∷ []) (is_the u quote h), tt)
closing_text u (v ∷ rest) units h e = absurd (cc)

by_unit : (u : ℕ) (rest units : List ℕ) → is_closing (u ∷ rest) ≡ false → up_to_quote (u ∷ rest) ≡ Some units
    → ((after us : List ℕ) → length after ≤ length rest → up_to_quote after ≡ Some us → Texted after us) → Texted (u ∷ rest) units
unfolding Texted Spelled
by_unit u rest units h e ih =
    let x = continued_some (unit_at (u ∷ rest)) units (sym (text_step u rest h) ∙ e) in
    let y = some_with x.0.0 (up_to_quote x.0.1) units x.2 in
    let w = unit_spelled u rest x.0 x.1 in
    let whole : length (u ∷ rest) ≡ length (unit_text x.0.0) + length x.0.1 = ap length w.0 ∙ length-append (unit_text x.0.0) x.0.1 in
    let k = takes_up x.0.0 in
    let t = ih x.0.1 y.0 (omega arith) y.1 in
    subst (λ us. Texted (u ∷ rest) us) (sym y.2)
    (w.0 ∙ (ap (λ text. unit_text x.0.0 ++ text) t.0 ∙ sym (append_assoc (unit_text x.0.0) (units_text y.0) (quote ∷ []))), (w.1, t.1))

by_closing : (t : Bool) (u : ℕ) (rest units : List ℕ) → is_closing (u ∷ rest) ≡ t → up_to_quote (u ∷ rest) ≡ Some units
    → ((after us : List ℕ) → length after ≤ length rest → up_to_quote after ≡ Some us → Texted after us) → Texted (u ∷ rest) units
by_closing true u rest units h e ih = closing_text u rest units h e
by_closing false u rest units h e ih = by_unit u rest units h e ih

text_spelled : (n : ℕ) (word units : List ℕ) → length word ≤ n → up_to_quote word ≡ Some units → Texted word units
unfolding up_to_quote
text_spelled n [] units le e = absurd (cc)
text_spelled zero (u ∷ rest) units le e = absurd (omega arith)
text_spelled (suc n) (u ∷ rest) units le e = by_closing (is_closing (u ∷ rest)) u rest units refl e (λ after us l k. text_spelled n after us (omega arith) k)

if_text : (t : Bool) (o : Option (List ℕ)) (units : List ℕ) → (if t then o else None) ≡ Some units → (t ≡ true) × (o ≡ Some units)
if_text true o units e = (refl, e)
if_text false o units e = absurd (cc)

pub read_is_quoted : (word units : List ℕ) → unquoted word ≡ Some units → IsQuoted word units
unfolding unquoted quoted Texted
read_is_quoted [] units e = absurd (cc)
read_is_quoted (u ∷ rest) units e =
    let k = if_text (u == quote) (up_to_quote rest) units e in let t = text_spelled (length rest) rest units (omega arith) k.1 in
    record { spelled = ap (λ v. v ∷ rest) (is_the u quote k.0) ∙ ap (λ text. quote ∷ text) t.0; are_units = t.1 }

pub quoted_is_read : (word units : List ℕ) → IsQuoted word units → unquoted word ≡ Some units
unfolding unquoted quoted
quoted_is_read word units h = ap unquoted h.spelled ∙ text_again units h.are_units
