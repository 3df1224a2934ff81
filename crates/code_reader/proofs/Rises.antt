-- The keys among keys and targets, by their places.
use Rattle.std.proofs.Common.{◌≡◌, ℕ, suc, ◌+◌, ◌≤◌, ◌<◌, List, [], ◌∷◌, length, drop, get_or, refl, ap, ◌∙◌, arith, true, false}
use Rattle.std.specs.Prelude.{ℤ, pos, int_lt, ◌&&◌}
use Rattle.std.proofs.lemmas.List.{length-drop}
use Rattle.std.proofs.Math.Seq.{drop-cons}
use Rattle.class_grammar.specs.CodeGrammar.{keys_rise}

-- the list from i on
three_at : (xs : List ℤ) (i : ℕ) → i + 2 < length xs → drop i xs ≡ get_or xs i (pos 0) ∷ get_or xs (i + 1) (pos 0) ∷ drop (i + 2) xs
three_at xs i h =
    let a : i < length xs = omega arith in
    let b : suc i < length xs = omega arith in
    let e : drop i xs ≡ get_or xs i (pos 0) ∷ get_or xs (suc i) (pos 0) ∷ drop (suc (suc i)) xs =
    drop-cons xs i (pos 0) a ∙ ap (λ t. get_or xs i (pos 0) ∷ t) (drop-cons xs (suc i) (pos 0) b) in
    let one : i + 1 ≡ suc i = omega arith in
    let two : i + 2 ≡ suc (suc i) = omega arith in
    rw (one, two) e

one_more : (k t l : ℤ) (s rest : List ℤ) → s ≡ l ∷ rest → keys_rise (k ∷ t ∷ s) ≡ (int_lt k l && keys_rise s)
unfolding keys_rise
one_more k t l s rest e = rw e refl

step_at : (xs : List ℤ) (i : ℕ) → i + 2 < length xs → keys_rise (drop i xs) ≡ (int_lt (get_or xs i (pos 0)) (get_or xs (i + 2) (pos 0)) && keys_rise (drop (i + 2) xs))
step_at xs i h =
    ap keys_rise (three_at xs i h) ∙ one_more (get_or xs i (pos 0)) (get_or xs (i + 1) (pos 0)) (get_or xs (i + 2) (pos 0)) (drop (i + 2) xs) _ (drop-cons xs (i + 2) (pos 0) h)

pub rise_more : (xs : List ℤ) (i : ℕ) → i + 2 < length xs → int_lt (get_or xs i (pos 0)) (get_or xs (i + 2) (pos 0)) ≡ true → keys_rise (drop i xs) ≡ keys_rise (drop (i + 2) xs)
rise_more xs i h e = step_at xs i h ∙ ap (λ b. b && keys_rise (drop (i + 2) xs)) e

pub rise_ends : (xs : List ℤ) (i : ℕ) → i + 2 < length xs → int_lt (get_or xs i (pos 0)) (get_or xs (i + 2) (pos 0)) ≡ false → keys_rise (drop i xs) ≡ false
rise_ends xs i h e = step_at xs i h ∙ ap (λ b. b && keys_rise (drop (i + 2) xs)) e

short : (s : List ℤ) → length s ≤ 2 → keys_rise s ≡ true
unfolding keys_rise
short [] h = refl
short (k ∷ []) h = refl
short (k ∷ t ∷ []) h = refl
short (k ∷ t ∷ l ∷ s) h = absurd (omega arith)

pub rise_done : (xs : List ℤ) (i : ℕ) → length xs ≤ i + 2 → keys_rise (drop i xs) ≡ true
rise_done xs i h = short (drop i xs) (omega (arith, length-drop i xs))

pub ruleset rises = (rise_more, rise_ends, rise_done)
