-- Repeated parts, read one behind the other as a loop does.
use Rattle.std.proofs.Common.{◌≡◌, ℕ, suc, ◌-◌, ◌+◌, ◌≤◌, ◌<◌, List, ◌++◌, Result, Ok, Err, refl, sym, ap, ◌∙◌, append_assoc, arith}
use Rattle.std.proofs.lemmas.List.{append-nil}
use Rattle.class_grammar.specs.Parts.{Part, onward, repeated, with_front}

abbrev pack : {A F : Type 0} → List ℕ → List A → Result (List A × List ℕ) F
pack rest xs = Ok (xs, rest)

regroup : {A F : Type 0} (front part : List A) (read : Result (List A × List ℕ) F)
    → with_front front (onward read (λ xs rest. Ok (part ++ xs, rest))) ≡ with_front (front ++ part) read
regroup {F = F} front part (Ok x) = ap (pack {F = F} x.1) (sym (append_assoc front part x.0))
regroup front part (Err f) = refl

module _ {A F : Type 0} (p : Part (List A) F) where
  -- part i was read: what is still to be read of n parts
  pub goes_on : (front : List A) (n i : ℕ) (text : List ℕ) (xs : List A) (after : List ℕ) (total : Result (List A × List ℕ) F)
      → i < n → p.reads text ≡ Ok (xs, after)
      → with_front front ((repeated (n - i) p).reads text) ≡ total
      → with_front (front ++ xs) ((repeated (n - (i + 1)) p).reads after) ≡ total
  unfolding repeated
  goes_on front n i text xs after total lt h so_far =
      let k : n - i ≡ suc (n - (i + 1)) = omega arith in
      let one : with_front front ((repeated (n - i) p).reads text) ≡ with_front (front ++ xs) ((repeated (n - (i + 1)) p).reads after) = rw (k, h) (regroup front xs ((repeated (n - (i + 1)) p).reads after)) in
      sym one ∙ so_far

  -- part i fails: so do they all
  pub ends : (f : F) (front : List A) (n i : ℕ) (text : List ℕ) (total : Result (List A × List ℕ) F)
      → i < n → p.reads text ≡ Err f → with_front front ((repeated (n - i) p).reads text) ≡ total
      → total ≡ Err f
  unfolding repeated
  ends f front n i text total lt h so_far =
      let k : n - i ≡ suc (n - (i + 1)) = omega arith in
      let one : with_front front ((repeated (n - i) p).reads text) ≡ Err f = rw (k, h) refl in
      sym so_far ∙ one

  -- all were read
  pub is_done : (front : List A) (n i : ℕ) (text : List ℕ) (total : Result (List A × List ℕ) F)
      → n ≤ i → with_front front ((repeated (n - i) p).reads text) ≡ total
      → total ≡ Ok (front, text)
  unfolding repeated
  is_done front n i text total le so_far =
      let k : n - i ≡ 0 = omega arith in
      let one : with_front front ((repeated (n - i) p).reads text) ≡ Ok (front, text) = rw k (ap (pack {F = F} text) (append-nil front)) in
      sym so_far ∙ one
