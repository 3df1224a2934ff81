-- Cells that fit one by one.
use Rattle.std.proofs.Common.{◌≡◌, ◌≢◌, refl, sym, ◌∙◌, ap, ℕ, zero, suc, ◌+◌, ◌<◌, ◌≤◌, Bool, true, false, ◌&&◌, List, [], ◌∷◌, length, take, get_or, arith}
use Rattle.std.proofs.lemmas.List.{take_all}
use Rattle.jx_base.specs.declared.program.System.{System}
use Rattle.jx_base.specs.declared.value.Node.{Node}
use Rattle.jx_base.specs.declared.value.Word.{Word}
use Rattle.program_model.specs.Parcels.{cell_fits, cells_fit}

pub fit_more : (s : System) (nodes : List Node) (ws : List Word) (ts : List (List ℕ)) (i : ℕ) (w : Word) (t : List ℕ) → i < length ws → i < length ts →
    cells_fit s nodes (take (i + 1) ws) (take (i + 1) ts) ≡ (cells_fit s nodes (take i ws) (take i ts) && cell_fits s nodes (get_or ws i w) (get_or ts i t))
unfolding cells_fit
fit_more s nodes [] ts i w t l m = absurd (omega (arith, l))
fit_more s nodes (x ∷ ws) [] i w t l m = absurd (omega (arith, m))
fit_more s nodes (x ∷ ws) (u ∷ ts) zero w t l m = and_true (cell_fits s nodes x u)
  where
    and_true : (b : Bool) → (b && true) ≡ b
    and_true true = refl
    and_true false = refl
fit_more s nodes (x ∷ ws) (u ∷ ts) (suc i) w t l m =
    let n : suc i + 1 ≡ suc (i + 1) = omega arith in
    ap (λ (k : ℕ). cells_fit s nodes (take k (x ∷ ws)) (take k (u ∷ ts))) n
    ∙ ap (λ (b : Bool). cell_fits s nodes x u && b) (fit_more s nodes ws ts i w t (omega (arith, l)) (omega (arith, m)))
    ∙ assoc (cell_fits s nodes x u) (cells_fit s nodes (take i ws) (take i ts)) (cell_fits s nodes (get_or ws i w) (get_or ts i t))
  where
    assoc : (p q r : Bool) → (p && (q && r)) ≡ ((p && q) && r)
    assoc true q r = refl
    assoc false q r = refl

pub fit_not : (s : System) (nodes : List Node) (ws : List Word) (ts : List (List ℕ)) (i : ℕ) (w : Word) (t : List ℕ) → i < length ws → i < length ts →
    cell_fits s nodes (get_or ws i w) (get_or ts i t) ≡ false → cells_fit s nodes ws ts ≡ false
unfolding cells_fit
fit_not s nodes [] ts i w t l m h = absurd (omega (arith, l))
fit_not s nodes (x ∷ ws) [] i w t l m h = refl
fit_not s nodes (x ∷ ws) (u ∷ ts) zero w t l m h = ap (λ (b : Bool). b && cells_fit s nodes ws ts) h
fit_not s nodes (x ∷ ws) (u ∷ ts) (suc i) w t l m h =
    ap (λ (b : Bool). cell_fits s nodes x u && b) (fit_not s nodes ws ts i w t (omega (arith, l)) (omega (arith, m)) h) ∙ and_false (cell_fits s nodes x u)
  where
    and_false : (b : Bool) → (b && false) ≡ false
    and_false true = refl
    and_false false = refl

pub fit_lengths : (s : System) (nodes : List Node) (ws : List Word) (ts : List (List ℕ)) → length ws ≢ length ts → cells_fit s nodes ws ts ≡ false
unfolding cells_fit
fit_lengths s nodes [] [] h = absurd (h refl)
fit_lengths s nodes [] (u ∷ ts) h = refl
fit_lengths s nodes (x ∷ ws) [] h = refl
fit_lengths s nodes (x ∷ ws) (u ∷ ts) h =
    ap (λ (b : Bool). cell_fits s nodes x u && b) (fit_lengths s nodes ws ts (λ e. h (ap suc e))) ∙ and_false (cell_fits s nodes x u)
  where
    and_false : (b : Bool) → (b && false) ≡ false
    and_false true = refl
    and_false false = refl

pub fit_none : (s : System) (nodes : List Node) → cells_fit s nodes [] [] ≡ true
unfolding cells_fit
fit_none s nodes = refl

pub fit_all : (s : System) (nodes : List Node) (ws : List Word) (ts : List (List ℕ)) (i : ℕ) → length ws ≤ i → length ts ≤ i →
    cells_fit s nodes (take i ws) (take i ts) ≡ true → cells_fit s nodes ws ts ≡ true
fit_all s nodes ws ts i l m h = ap (λ xs. cells_fit s nodes xs ts) (sym (take_all i ws l)) ∙ ap (cells_fit s nodes (take i ws)) (sym (take_all i ts m)) ∙ h
