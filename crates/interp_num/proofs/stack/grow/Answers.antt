-- The slots that are left decide.
use Rattle.std.proofs.Common.{arith, refl, ap, ◌∷◌, length}
use Rattle.jx_base.specs.Stacks.{StackState}
use Rattle.interp_num.proofs.stack.grow.Goals as goal
use Rattle.interp_num.proofs.Depths.{depth_cons, leaves_over, some_slot}

pub returns-then-slots_left-slots_of-clause-row : goal.returns-then-slots_left-slots_of-clause-row
returns-then-slots_left-slots_of-clause-row c =
    let s = c.args.frame.now.stack.values in
    (leaves_over c.args.most c.args.frame.now.locals (c.args.value ∷ s) (omega (arith, depth_cons c.args.value s)), refl)

pub put-requires : goal.put-requires
put-requires c =
    let same = ap (λ (x : StackState). length x.values) c.slots_left.ensures.same in
    let room = ap (λ (x : StackState). x.room) c.slots_left.ensures.same in
    let one = some_slot c.args.value in
    omega arith
