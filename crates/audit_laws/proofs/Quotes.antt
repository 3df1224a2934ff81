-- Where a quoted text ends.
use Rattle.std.proofs.Common.{◌≡◌, ℕ, ◌+◌, ◌*◌, ◌/◌, ◌%◌, ◌^◌, ◌<◌, Bool, true, false, cond, List, [], ◌∷◌, ◌++◌, refl, sym, ap, ◌∙◌, arith, append_assoc}
use Rattle.std.proofs.lemmas.Bool.Decides.{nat_tests}
use Rattle.std.proofs.Math.Nat.{mod-lt, div-div-eq-div-mul}
use Rattle.jx_base.specs.Texts.{hex_digit, is_plain, escape, unit_text, units_text, quoted}
use Rattle.program_model.specs.DistinctNames.{AreUnits}
use Rattle.audit_laws.proofs.Cuts.{parts_of_cons}

-- ---- units

-- digits to the base 16 differ
hex_takes : (d e : ℕ) → d < 16 → e < 16 → hex_digit d ≡ hex_digit e → d ≡ e
hex_takes d e h k q = grind (arith, nat_tests)

-- a number of four digits to the base 16
four_digits : (u : ℕ) → u ≡ u / 4096 * 4096 + (u / 256 % 16 * 256 + (u / 16 % 16 * 16 + u % 16))
four_digits u =
    let a : u / 16 / 16 ≡ u / 256 = div-div-eq-div-mul u 16 16 in
    let b : u / 256 / 16 ≡ u / 4096 = div-div-eq-div-mul u 256 16 in
    omega arith

-- numbers of the same four digits are the same
same_number : (u v : ℕ) → u / 4096 ≡ v / 4096 → u / 256 % 16 ≡ v / 256 % 16 → u / 16 % 16 ≡ v / 16 % 16 → u % 16 ≡ v % 16 → u ≡ v
same_number u v a b c d = let p = four_digits u in let q = four_digits v in omega arith

-- a remainder by 16 is a digit
below_sixteen : (n : ℕ) → n % 16 < 16
below_sixteen n = mod-lt n (omega arith)

-- escapes before rests tell their units
escape_takes : (u v : ℕ) (r q : List ℕ) → u < 2 ^ 16 → v < 2 ^ 16 → escape u ++ r ≡ escape v ++ q → (u ≡ v) × (r ≡ q)
escape_takes u v r q h k e =
    let c = parts_of_cons (parts_of_cons (parts_of_cons e).1).1 in let d = parts_of_cons c.1 in let f = parts_of_cons d.1 in (
      same_number u v
          (hex_takes _ _ (omega arith) (omega arith) c.0)
          (hex_takes _ _ (below_sixteen (u / 256)) (below_sixteen (v / 256)) d.0)
          (hex_takes _ _ (below_sixteen (u / 16)) (below_sixteen (v / 16)) f.0)
          (hex_takes _ _ (below_sixteen u) (below_sixteen v) (parts_of_cons f.1).0),
      (parts_of_cons f.1).1,
    )

-- a unit that stands for itself is neither the quote nor the sign of an escape
plain_is : (u v : ℕ) → is_plain u ≡ true → is_plain v ≡ false → u ≡ v → ⊥
plain_is u v h k e = let f : true ≡ false = sym h ∙ ap is_plain e ∙ k in cc

-- units within quotes before rests are taken off
unit_takes : (u v : ℕ) (r q : List ℕ) → u < 2 ^ 16 → v < 2 ^ 16 → unit_text u ++ r ≡ unit_text v ++ q → (u ≡ v) × (r ≡ q)
unfolding unit_text
unit_takes u v r q h k e = by (is_plain u) (is_plain v) refl refl e
  where
    by : (a b : Bool) → is_plain u ≡ a → is_plain v ≡ b → cond a (u ∷ []) (escape u) ++ r ≡ cond b (v ∷ []) (escape v) ++ q → (u ≡ v) × (r ≡ q)
    by true true f g e = parts_of_cons e
    by true false f g e = absurd (plain_is u 92 f refl (parts_of_cons e).0)
    by false true f g e = absurd (plain_is v 92 g refl (sym (parts_of_cons e).0))
    by false false f g e = escape_takes u v r q h k e

-- a unit's text begins with no quote
no_quote : (u : ℕ) (r q : List ℕ) → unit_text u ++ r ≡ 34 ∷ q → ⊥
unfolding unit_text
no_quote u r q e = by (is_plain u) refl e
  where
    by : (a : Bool) → is_plain u ≡ a → cond a (u ∷ []) (escape u) ++ r ≡ 34 ∷ q → ⊥
    by true f e = plain_is u 34 f refl (parts_of_cons e).0
    by false f e = let g : ◌≡◌ {A = ℕ} 92 34 = (parts_of_cons e).0 in omega arith

-- ---- texts

-- texts within quotes, before the closing quote and rests, are taken off
units_takes : (x y : List ℕ) (r q : List ℕ) → AreUnits x → AreUnits y → units_text x ++ 34 ∷ r ≡ units_text y ++ 34 ∷ q → (x ≡ y) × (r ≡ q)
units_takes [] [] r q h k e = (refl, (parts_of_cons e).1)
units_takes [] (v ∷ y) r q h k e = absurd (no_quote v _ _ (sym (append_assoc (unit_text v) (units_text y) (34 ∷ q)) ∙ sym e))
units_takes (u ∷ x) [] r q h k e = absurd (no_quote u _ _ (sym (append_assoc (unit_text u) (units_text x) (34 ∷ r)) ∙ e))
units_takes (u ∷ x) (v ∷ y) r q h k e =
    let c = unit_takes u v _ _ h.0 k.0 (sym (append_assoc (unit_text u) (units_text x) (34 ∷ r)) ∙ e ∙ append_assoc (unit_text v) (units_text y) (34 ∷ q)) in
    let m = units_takes x y r q h.1 k.1 c.1 in ((λ t. c.0 t ∷ m.0 t), m.1)

-- quoted texts before rests are taken off
pub quoted_takes : (x y : List ℕ) (r q : List ℕ) → AreUnits x → AreUnits y → quoted x ++ r ≡ quoted y ++ q → (x ≡ y) × (r ≡ q)
unfolding quoted
quoted_takes x y r q h k e =
    units_takes x y r q h k (sym (append_assoc (units_text x) (34 ∷ []) r) ∙ (parts_of_cons e).1 ∙ append_assoc (units_text y) (34 ∷ []) q)
