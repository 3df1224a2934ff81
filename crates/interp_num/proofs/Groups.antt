-- Groups on a stack: what is copied, and what lies below it.
use Rattle.std.proofs.Common.{◌≡◌, ℕ, ◌+◌, ◌*◌, ◌≤◌, ◌<◌, [], ◌∷◌, ◌++◌, length, drop, refl, sym, ap, ◌∙◌, arith, Some}
use Rattle.std.proofs.lemmas.List.{append_assoc}
use Rattle.jx_base.specs.declared.row.Slots.{Slots}
use Rattle.jx_base.specs.declared.row.Slots.TheVariants as slots
use Rattle.jx_base.specs.declared.value.Value.{Value}
use Rattle.machine_model.specs.NumericRows.{depth_of, group_of, given, leaves, copy_row, swap_row, Locals, Stack}
use Rattle.machine_model.specs.NumericRows.{NumericOutcome as outcome}
use Rattle.interp_num.proofs.Depths.{depth_append, leaves_within, leaves_over, drop_two}

-- a group and one under it, with what lies below them
pub record AreTwo (copied under : Slots) (s g h rest : Stack) : Type 0 where
  pub first : group_of copied s ≡ Some g
  pub second : group_of under (drop (length g) s) ≡ Some h
  pub below : rest ≡ drop (length h) (drop (length g) s)

pub copied : (most : ℕ) (locals : Locals) (a b : Slots) (s g h rest : Stack) → AreTwo a b s g h rest → copy_row most a b locals s ≡ leaves most locals (g ++ (h ++ (g ++ rest)))
unfolding copy_row given
copied most locals a b s g h rest k =
    let same : g ++ h ++ g ++ rest ≡ g ++ (h ++ (g ++ rest)) = simp append_assoc in
    rw (← same) (rw (k.below, k.first, k.second) refl)

depth_copied : (g h rest : Stack) → depth_of (g ++ (h ++ (g ++ rest))) ≡ depth_of g + (depth_of h + (depth_of g + depth_of rest))
depth_copied g h rest = depth_append g (h ++ (g ++ rest)) ∙ ap (λ n. depth_of g + n) (depth_append h (g ++ rest) ∙ ap (λ n. depth_of h + n) (depth_append g rest))

pub copied_within : (most : ℕ) (locals : Locals) (a b : Slots) (s g h rest new : Stack) → AreTwo a b s g h rest → new ≡ g ++ (h ++ (g ++ rest)) → depth_of rest + (2 * depth_of g + depth_of h) ≤ most → copy_row most a b locals s ≡ outcome.Next locals new
copied_within most locals a b s g h rest new k e d =
    copied most locals a b s g h rest k ∙ leaves_within most locals (g ++ (h ++ (g ++ rest))) (omega (arith, depth_copied g h rest)) ∙ ap (λ x. outcome.Next locals x) (sym e)

pub copied_over : (most : ℕ) (locals : Locals) (a b : Slots) (s g h rest : Stack) → AreTwo a b s g h rest → most < depth_of rest + (2 * depth_of g + depth_of h) → copy_row most a b locals s ≡ outcome.BadCode
copied_over most locals a b s g h rest k d =
    copied most locals a b s g h rest k ∙ leaves_over most locals (g ++ (h ++ (g ++ rest))) (omega (arith, depth_copied g h rest))

-- two values of one slot change places
pub swapped : (most : ℕ) (locals : Locals) (s rest : Stack) (upper lower : Value) → group_of slots.One s ≡ Some (upper ∷ []) → group_of slots.One (drop 1 s) ≡ Some (lower ∷ []) → rest ≡ upper ∷ drop 1 (drop 1 s) → swap_row most locals s ≡ leaves most locals (lower ∷ rest)
unfolding swap_row given
swapped most locals s rest upper lower a b e = rw (e, drop_two, a, b) refl
