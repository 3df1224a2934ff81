-- The targets among keys and targets, by their places.
use Rattle.std.proofs.Common.{◌≡◌, ℕ, ◌-◌, ◌≤◌, ◌<◌, List, [], ◌∷◌, length, drop, take, get_or, Bool, true, false, refl, sym, ap, ◌∙◌, arith}
use Rattle.std.specs.Prelude.{ℤ, pos, ◌&&◌}
use Rattle.std.specs.List.{list_all}
use Rattle.std.proofs.lemmas.List.{length-drop}
use Rattle.std.proofs.Math.Seq.{take-length}
use Rattle.class_grammar.specs.CodeGrammar.{key_targets}

module _ (is_start : ℤ → Bool) where
  abbrev lead : List ℤ → Bool
  lead pairs = list_all is_start (key_targets pairs)

  one_more : (pairs : List ℤ) → 2 ≤ length pairs → lead pairs ≡ (is_start (get_or pairs 1 (pos 0)) && lead (drop 2 pairs))
  unfolding key_targets
  one_more [] h = absurd (omega arith)
  one_more (k ∷ []) h = absurd (omega arith)
  one_more (k ∷ t ∷ rest) h = refl

  pub leads_on : (pairs : List ℤ) (n : ℕ) (total : Bool) → n ≡ length pairs → 2 ≤ length pairs → is_start (get_or pairs 1 (pos 0)) ≡ true → lead pairs ≡ total → lead (take (n - 2) (drop 2 pairs)) ≡ total
  leads_on pairs n total whole h e so_far =
      let rest : take (n - 2) (drop 2 pairs) ≡ drop 2 pairs = ap (λ k. take k (drop 2 pairs)) (omega (arith, length-drop 2 pairs)) ∙ take-length (drop 2 pairs) in
      ap lead rest ∙ sym (one_more pairs h ∙ ap (λ b. b && lead (drop 2 pairs)) e) ∙ so_far

  pub leads_away : (pairs : List ℤ) → 2 ≤ length pairs → is_start (get_or pairs 1 (pos 0)) ≡ false → lead pairs ≡ false
  leads_away pairs h e = one_more pairs h ∙ ap (λ b. b && lead (drop 2 pairs)) e

  pub leads_nowhere : (pairs : List ℤ) → length pairs < 2 → lead pairs ≡ true
  unfolding key_targets
  leads_nowhere [] h = refl
  leads_nowhere (k ∷ []) h = refl
  leads_nowhere (k ∷ t ∷ rest) h = absurd (omega arith)
