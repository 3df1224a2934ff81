-- What is left of the slots, and the room for the values.
use Rattle.std.proofs.Common.{arith, ap, ◌≡◌, ◌+◌, ◌∙◌}
use Rattle.jx_base.specs.Stacks.{StackState}
use Rattle.machine_model.specs.NumericRows.{depth_of}
use Rattle.interp_num.proofs.Depths.{depth_none}
use Rattle.test_interp_num.proofs.running.frame_of.Goals as goal

pub loop-value-init : goal.loop-value-init
loop-value-init c =
    let none = ap (λ (s : StackState). depth_of s.values) c.in_ok-operands.ensures ∙ depth_none in
    let room = ap (λ (s : StackState). s.room) c.in_ok-operands.ensures in
    (omega arith, room)
