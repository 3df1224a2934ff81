-- Reading a text in quotes, unit by unit.
use Rattle.std.proofs.Common.{◌≡◌, ℕ, List, [], ◌∷◌, ◌++◌, Bool, true, false, Option, Some, None, refl, sym, ap, ◌∙◌, append_assoc, append-nil, arith}
use Rattle.std.specs.Prelude.{option_map, if◌then◌else◌, ◌==◌}
use Rattle.std.proofs.lemmas.Bool.Decides.{nat_tests}
use Rattle.jx_base.specs.Texts.{is_plain}
use Rattle.asm_words.specs.Quotes.{backslash, with_unit, with_plain, with_escaped, up_to_quote}
use Rattle.asm_words.specs.Readings.{is_closing, with_rest, escape_at, unit_at}

-- the text that begins with a unit
abbrev pub continued : Option (ℕ × List ℕ) → Option (List ℕ)
continued None = None
continued (Some x) = with_unit x.0 (up_to_quote x.1)

continued_if : (t : Bool) (x y : Option (ℕ × List ℕ)) → continued (if t then x else y) ≡ (if t then continued x else continued y)
continued_if true x y = refl
continued_if false x y = refl

continued_escape : (e : Option ℕ) (units : List ℕ) → continued (with_rest e units) ≡ with_escaped e (up_to_quote units)
unfolding with_rest with_escaped
continued_escape None units = refl
continued_escape (Some u) units = refl

either_way : (t : Bool) (o : Option (List ℕ)) → (if t then o else o) ≡ o
either_way true o = refl
either_way false o = refl

-- a backslash is not plain
plain_alone : (u : ℕ) (o : Option (List ℕ)) → (if u == backslash then None else if is_plain u then o else None) ≡ (if is_plain u then o else None)
plain_alone u o = grind (arith, nat_tests)

pub text_step : (u : ℕ) (units : List ℕ) → is_closing (u ∷ units) ≡ false → up_to_quote (u ∷ units) ≡ continued (unit_at (u ∷ units))
unfolding up_to_quote unit_at escape_at with_plain with_unit is_closing
text_step u [] h = rw h (simp (continued_if, either_way))
text_step u (v ∷ []) h = simp (continued_if, plain_alone)
text_step u (v ∷ a ∷ []) h = simp (continued_if, plain_alone)
text_step u (v ∷ a ∷ b ∷ []) h = simp (continued_if, plain_alone)
text_step u (v ∷ a ∷ b ∷ c ∷ []) h = simp (continued_if, plain_alone)
text_step u (v ∷ a ∷ b ∷ c ∷ d ∷ units) h = simp (continued_if, continued_escape)

-- ---- a loop over the units

pushed : (front : List ℕ) (u : ℕ) (o : Option (List ℕ)) → option_map (λ us. (front ++ u ∷ []) ++ us) o ≡ option_map (λ us. front ++ us) (with_unit u o)
unfolding with_unit
pushed front u None = refl
pushed front u (Some us) = ap Some (append_assoc front (u ∷ []) us)

pub goes_on : (front rest : List ℕ) (u : ℕ) (after : List ℕ) (total : Option (List ℕ)) → is_closing rest ≡ false → Some (u, after) ≡ unit_at rest
    → option_map (λ us. front ++ us) (up_to_quote rest) ≡ total → option_map (λ us. (front ++ u ∷ []) ++ us) (up_to_quote after) ≡ total
unfolding unit_at
goes_on front [] u after total h e so_far = absurd (cc)
goes_on front (v ∷ units) u after total h e so_far =
    pushed front u (up_to_quote after) ∙ (ap (option_map (λ us. front ++ us)) (sym (text_step v units h ∙ ap continued (sym e))) ∙ so_far)

pub ends : (front rest : List ℕ) (total : Option (List ℕ)) → is_closing rest ≡ false → None ≡ unit_at rest
    → option_map (λ us. front ++ us) (up_to_quote rest) ≡ total → None ≡ total
unfolding up_to_quote
ends front [] total h e so_far = so_far
ends front (v ∷ units) total h e so_far = ap (option_map (λ us. front ++ us)) (sym (text_step v units h ∙ ap continued (sym e))) ∙ so_far

pub is_done : (front rest : List ℕ) (total : Option (List ℕ)) → is_closing rest ≡ true → option_map (λ us. front ++ us) (up_to_quote rest) ≡ total → Some front ≡ total
unfolding is_closing up_to_quote
is_done front [] total h so_far = absurd (cc)
is_done front (u ∷ []) total h so_far = ap Some (sym (append-nil front)) ∙ (rw h at so_far)
is_done front (u ∷ v ∷ units) total h so_far = absurd (cc)
