-- The limits of a thread's frames, of which the running one is the last.
use Rattle.std.proofs.Common.{◌≡◌, refl, sym, ◌∙◌, ap, arith, ℕ, ◌+◌, ◌<◌, ◌≤◌, Bool, true, false, ◌||◌, List, [], ◌∷◌, length, reverse, sum_by}
use Rattle.std.specs.Prelude.{nat_le, nat_lt}
use Rattle.std.proofs.lemmas.Bool.Decides.{nat_tests}
use Rattle.std.proofs.lemmas.List.{length-reverse, reverse-append}
use Rattle.std.proofs.lemmas.List.Sums.{sum_by-cons, sum_by_push}
use Rattle.jx_base.specs.declared.frame.Frame.{Frame}
use Rattle.jx_base.specs.declared.program.System.{System}
use Rattle.machine_model.specs.State.{frame_limit, is_overflow, slot_limit, slots_of_method}

sum_reversed : {A : Type 0} (f : A → ℕ) (xs : List A) → sum_by f (reverse xs) ≡ sum_by f xs
sum_reversed f [] = refl
sum_reversed f (x ∷ xs) =
    let sum = ap (sum_by f) (reverse-append (x ∷ []) xs) ∙ sum_by_push f (reverse xs) x in
    omega (arith, sum, sum_reversed f xs, sum_by-cons f x xs)

module _ (s : System) (m : ℕ) (frames : List Frame) where
  -- there are too many
  pub too_many : 256 ≤ length frames → nat_le 256 (length frames) ≡ is_overflow s m (reverse frames)
  unfolding is_overflow frame_limit
  too_many l =
      let h : nat_le 256 (length frames) ≡ true = grind (arith, nat_tests, l) in
      let n : nat_le 256 (length (reverse frames)) ≡ true = ap (nat_le 256) (length-reverse frames) ∙ h in
      h ∙ sym (ap (λ (b : Bool). b || nat_lt slot_limit (slots_of_method s m + sum_by (λ f. slots_of_method s f.method) (reverse frames))) n)

  -- else the slots count
  pub by_slots : length frames < 256 → (a b : ℕ) → a ≡ slots_of_method s m → b ≡ sum_by (λ f. slots_of_method s f.method) frames
      → nat_lt 65536 (a + b) ≡ is_overflow s m (reverse frames)
  unfolding is_overflow frame_limit slot_limit
  by_slots l a b i j =
      let few : nat_le 256 (length frames) ≡ false = grind (arith, nat_tests, l) in
      let n : nat_le 256 (length (reverse frames)) ≡ false = ap (nat_le 256) (length-reverse frames) ∙ few in
      let total : a + b ≡ slots_of_method s m + sum_by (λ f. slots_of_method s f.method) (reverse frames) =
      omega (arith, i, j, sum_reversed (λ f. slots_of_method s f.method) frames) in
      ap (nat_lt 65536) total
      ∙ sym (ap (λ (b : Bool). b || nat_lt 65536 (slots_of_method s m + sum_by (λ f. slots_of_method s f.method) (reverse frames))) n)
