-- How many slots values and stacks fill.
use Rattle.std.proofs.Common.{◌≡◌, ℕ, ◌+◌, ◌≤◌, ◌<◌, [], ◌∷◌, ◌++◌, length, drop, refl, sym, ap, ◌∙◌, arith, Some, None}
use Rattle.std.specs.Prelude.{slice_get}
use Rattle.std.proofs.lemmas.List.Sums.{sum_by-cons, sum_by-append}
use Rattle.std.proofs.lemmas.Bool.Decides.{nat_tests}
use Rattle.jx_base.specs.declared.value.Value.{Value}
use Rattle.jx_base.specs.declared.value.Value.TheVariants as value
use Rattle.machine_model.specs.NumericRows.{slots_of, depth_of, leaves, Locals, Stack}
use Rattle.machine_model.specs.NumericRows.{NumericOutcome as outcome}

-- a value fills a slot at least
pub some_slot : (v : Value) → 1 ≤ slots_of v
unfolding slots_of
some_slot (value.Long n) = omega arith
some_slot _ = omega arith

pub depth_cons : (v : Value) (s : Stack) → depth_of (v ∷ s) ≡ slots_of v + depth_of s
unfolding depth_of
depth_cons v s = sum_by-cons slots_of v s

pub depth_append : (a b : Stack) → depth_of (a ++ b) ≡ depth_of a + depth_of b
unfolding depth_of
depth_append a b = sum_by-append slots_of a b

pub depth_none : depth_of [] ≡ 0
unfolding depth_of
depth_none = refl

-- so many values fill as many slots at least
pub length_within : (s : Stack) → length s ≤ depth_of s
length_within [] = omega arith
length_within (v ∷ s) = omega (arith, length_within s, depth_cons v s, some_slot v)

-- the value on the top, and what lies below it
pub depth_top : (s : Stack) (v : Value) → slice_get s 0 ≡ Some v → depth_of s ≡ slots_of v + depth_of (drop 1 s)
depth_top [] v e = cc
depth_top (w ∷ s) v e = let q : w ≡ v = cc in depth_cons w s ∙ ap (λ x. slots_of x + depth_of s) q

-- nothing is on an empty stack
pub empty_of_top : (s : Stack) → slice_get s 0 ≡ None → s ≡ []
empty_of_top [] e = refl
empty_of_top (v ∷ s) e = cc

-- the value put back
pub put_back : (s : Stack) (v : Value) → slice_get s 0 ≡ Some v → v ∷ drop 1 s ≡ s
put_back [] v e = cc
put_back (w ∷ s) v e = let q : w ≡ v = cc in ap (λ x. x ∷ s) (sym q)

pub length_top : (s : Stack) (v : Value) → slice_get s 0 ≡ Some v → length s ≡ length (drop 1 s) + 1
length_top [] v e = cc
length_top (w ∷ s) v e = omega arith

-- a stack that is within its limit
pub leaves_within : (most : ℕ) (locals : Locals) (s : Stack) → depth_of s ≤ most → leaves most locals s ≡ outcome.Next locals s
unfolding leaves
leaves_within most locals s h = grind (arith, nat_tests)

-- a stack that is not
pub leaves_over : (most : ℕ) (locals : Locals) (s : Stack) → most < depth_of s → leaves most locals s ≡ outcome.BadCode
unfolding leaves
leaves_over most locals s h = grind (arith, nat_tests)

pub drop_two : (s : Stack) → drop 1 (drop 1 s) ≡ drop 2 s
drop_two [] = refl
drop_two (v ∷ []) = refl
drop_two (v ∷ w ∷ s) = refl

pub ruleset drops = (drop_two)
