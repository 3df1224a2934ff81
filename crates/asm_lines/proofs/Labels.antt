-- A label: a word with a colon at its end.
use Rattle.std.proofs.Common.{◌≡◌, ℕ, zero, suc, ◌+◌, ◌-◌, ◌<◌, List, [], ◌∷◌, length, get_or, take, Bool, true, false, Some, None, nat_eq, nat_lt, refl, ap, ◌∙◌, arith}
use Rattle.std.specs.Prelude.{option_map, if◌then◌else◌, ◌&&◌}
use Rattle.std.proofs.lemmas.Bool.Decides.{nat_tests}
use Rattle.asm_lines.specs.Lines.{label_of}

mapped : (t : Bool) (u : ℕ) (units : List ℕ) → option_map (λ name. u ∷ name) (if t then Some units else None) ≡ (if t then Some (u ∷ units) else None)
mapped true u units = refl
mapped false u units = refl

label_at : (word : List ℕ) (n : ℕ) → length word ≡ n + 1 → 0 < n → label_of word ≡ (if nat_eq (get_or word n 0) 58 then Some (take n word) else None)
unfolding label_of
label_at [] n e h = absurd (omega arith)
label_at (u ∷ []) n e h = absurd (omega arith)
label_at (u ∷ v ∷ []) n e h = let p : n ≡ 1 = omega arith in rw p refl
label_at (u ∷ v ∷ w ∷ units) zero e h = absurd (omega arith)
label_at (u ∷ v ∷ w ∷ units) (suc n) e h =
    ap (option_map (λ name. u ∷ name)) (label_at (v ∷ w ∷ units) n (omega arith) (omega arith)) ∙ mapped (nat_eq (get_or (v ∷ w ∷ units) n 0) 58) u (take n (v ∷ w ∷ units))

pub label_is : (word : List ℕ) → label_of word ≡ (if nat_lt 1 (length word) && nat_eq (get_or word (length word - 1) 0) 58 then Some (take (length word - 1) word) else None)
unfolding label_of
label_is [] = refl
label_is (u ∷ []) = refl
label_is (u ∷ v ∷ units) =
    let t : nat_lt 1 (length (u ∷ v ∷ units)) ≡ true = grind (arith, nat_tests) in
    label_at (u ∷ v ∷ units) (length (u ∷ v ∷ units) - 1) (omega arith) (omega arith) ∙ rw t refl
