-- Reading modified UTF-8, unit by unit.
use Rattle.std.proofs.Common.{◌≡◌, ℕ, List, [], ◌∷◌, ◌++◌, length, Bool, true, false, Option, Some, None, refl, sym, ap, ◌∙◌, append_assoc}
use Rattle.std.proofs.lemmas.List.{append-nil}
use Rattle.std.specs.Prelude.{option_map, if◌then◌else◌, ◌==◌}
use Rattle.class_grammar.specs.ModifiedUtf8.{begins_one, with_unit, text_of_bytes}
use Rattle.class_texts.specs.Texts.{two, three, with_rest, unit_of_three_at, unit_of_two_at, unit_at}
use Rattle.class_texts.proofs.Tests.{not_nil}

-- the text that begins with a unit
abbrev pub continued : Option (ℕ × List ℕ) → Option (List ℕ)
continued None = None
continued (Some x) = with_unit x.0 (text_of_bytes x.1)

push_if : (t : Bool) (x : ℕ × List ℕ) (o : Option (ℕ × List ℕ)) → continued (if t then Some x else o) ≡ (if t then with_unit x.0 (text_of_bytes x.1) else continued o)
push_if true x o = refl
push_if false x o = refl

push_rest : (t : Bool) (u : ℕ) (rest : List ℕ) (o : Option (ℕ × List ℕ)) → with_rest (if t then Some u else None) rest o ≡ (if t then Some (u, rest) else o)
push_rest true u rest o = refl
push_rest false u rest o = refl

pub text_step : (b : ℕ) (bytes : List ℕ) → text_of_bytes (b ∷ bytes) ≡ continued (unit_at (b ∷ bytes))
unfolding text_of_bytes with_unit unit_at unit_of_two_at unit_of_three_at two three
text_step b [] = sym (push_if (begins_one b) (b, []) None)
text_step b (c ∷ []) = simp (push_rest, push_if)
text_step b (c ∷ d ∷ bytes) = simp (push_rest, push_if)

pushed : (front : List ℕ) (u : ℕ) (o : Option (List ℕ)) → option_map (λ us. (front ++ u ∷ []) ++ us) o ≡ option_map (λ us. front ++ us) (with_unit u o)
unfolding with_unit
pushed front u None = refl
pushed front u (Some us) = ap Some (append_assoc front (u ∷ []) us)

-- what a loop has read, and what it reads from there
pub goes_on : (front rest : List ℕ) (u : ℕ) (after : List ℕ) (total : Option (List ℕ)) → (length rest == 0) ≡ false → Some (u, after) ≡ unit_at rest
    → option_map (λ us. front ++ us) (text_of_bytes rest) ≡ total → option_map (λ us. (front ++ u ∷ []) ++ us) (text_of_bytes after) ≡ total
unfolding with_unit
goes_on front [] u after total h e so_far = cc
goes_on front (b ∷ bytes) u after total h e so_far =
    let one : text_of_bytes (b ∷ bytes) ≡ with_unit u (text_of_bytes after) = text_step b bytes ∙ ap continued (sym e) in
    pushed front u (text_of_bytes after) ∙ ap (option_map (λ us. front ++ us)) (sym one) ∙ so_far

pub ends : (front rest : List ℕ) (total : Option (List ℕ)) → (length rest == 0) ≡ false → None ≡ unit_at rest
    → option_map (λ us. front ++ us) (text_of_bytes rest) ≡ total → None ≡ total
unfolding with_unit
ends front [] total h e so_far = cc
ends front (b ∷ bytes) total h e so_far =
    ap (option_map (λ us. front ++ us)) (sym (text_step b bytes ∙ ap continued (sym e))) ∙ so_far

pub is_done : (front rest : List ℕ) (total : Option (List ℕ)) → (length rest == 0) ≡ true → option_map (λ us. front ++ us) (text_of_bytes rest) ≡ total → Some front ≡ total
unfolding text_of_bytes
is_done front [] total h so_far = ap Some (sym (append-nil front)) ∙ so_far
is_done front (b ∷ bytes) total h so_far = absurd (not_nil b bytes h)
