-- What the value on the top fills, and what lies below it.
use Rattle.std.proofs.Common.{arith, sym, ap, ◌+◌, ◌≡◌, length, drop, Option, None, Some, slice_get}
use Rattle.std.specs.Prelude.{IfSome}
use Rattle.jx_base.specs.Stacks.{StackState}
use Rattle.jx_base.specs.declared.value.Value.{Value}
use Rattle.machine_model.specs.NumericRows.{depth_of, slots_of, Stack}
use Rattle.interp_num.proofs.stack.pop.Goals as goal
use Rattle.interp_num.proofs.Depths.{depth_top, length_top}

length_popped : (s new : Stack) (o : Option Value) → o ≡ slice_get s 0 → new ≡ drop 1 s → IfSome o (λ _. length s ≡ length new + 1)
length_popped s new None e r = tt
length_popped s new (Some v) e r = omega (arith, length_top s v (sym e), ap length r)

depth_popped : (s new : Stack) (o : Option Value) → o ≡ slice_get s 0 → new ≡ drop 1 s → IfSome o (λ v. depth_of s ≡ depth_of new + slots_of v)
depth_popped s new None e r = tt
depth_popped s new (Some v) e r = omega (arith, depth_top s v (sym e), ap depth_of r)

pub returns-clause-length : goal.returns-clause-length
returns-clause-length c = length_popped _ _ c.pop.result c.pop.ensures.value (ap (λ (x : StackState). x.values) c.pop.ensures.rest)

pub returns-clause-depth : goal.returns-clause-depth
returns-clause-depth c = depth_popped _ _ c.pop.result c.pop.ensures.value (ap (λ (x : StackState). x.values) c.pop.ensures.rest)
