-- Two values of one slot fill as much when they changed places.
use Rattle.std.proofs.Common.{arith, sym, ap, subst, ◌∙◌, ◌≡◌, ◌∷◌, [], drop, Some}
use Rattle.jx_base.specs.Stacks.{StackState}
use Rattle.jx_base.specs.declared.row.Slots.TheVariants as slots
use Rattle.machine_model.specs.NumericRows.{NumericOutcome, Stack, depth_of, group_of}
use Rattle.interp_num.specs.Steps.{Ran}
use Rattle.interp_num.proofs.moves.swap.Goals as goal
use Rattle.interp_num.proofs.Groups.{swapped}
use Rattle.interp_num.proofs.Depths.{depth_cons}

pub returns-clause-row : goal.returns-clause-row
returns-clause-row c =
    let first = ap (λ (s : StackState). s.values) c.in_ok-upper.ensures.rest in
    let second = subst (λ (x : Stack). group_of slots.One x ≡ Some (c.in_ok-lower.lower ∷ [])) first c.in_ok-lower.ensures.value in
    let pushed = ap (λ (s : StackState). s.values) c.push.ensures in
    let rest = pushed ∙ ap (λ (s : StackState). c.in_ok-upper.upper ∷ s.values) c.in_ok-lower.ensures.rest ∙ ap (λ (x : Stack). c.in_ok-upper.upper ∷ drop 1 x) first in
    let row = swapped c.args.most c.args.frame.now.locals c.args.frame.now.stack.values _ c.in_ok-upper.upper c.in_ok-lower.lower c.in_ok-upper.ensures.value second rest in
    let depth = ap depth_of pushed ∙ depth_cons c.in_ok-upper.upper c.pop_single-2.new.stack.values in
    subst (λ (o : NumericOutcome). Ran c.put.result c.args.frame.now.locals c.put.new.frame o) (sym row) (c.put.ensures.row c.args.most (omega (arith, c.in_ok-upper.ensures.slots, c.in_ok-lower.ensures.slots, c.in_ok-upper.ensures.depth, c.in_ok-lower.ensures.depth)))
