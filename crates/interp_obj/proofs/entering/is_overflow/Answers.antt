use Rattle.std.proofs.Common.{arith}
use Rattle.interp_obj.proofs.Limits.{by_slots, too_many}
use Rattle.interp_obj.proofs.entering.is_overflow.Goals as goal

pub overflow_add-result : goal.overflow_add-result
overflow_add-result c = record { fits = omega (arith, c.slots_of_method.ensures.small, c.slots_of_frames.ensures.small, c.if-frames-ge-MOST_FRAMES.false) }

pub returns-then-frames-ge-MOST_FRAMES : goal.returns-then-frames-ge-MOST_FRAMES
returns-then-frames-ge-MOST_FRAMES c = too_many c.args.system.now c.args.method c.args.frames.now c.if-frames-ge-MOST_FRAMES.true

pub returns-else-frames-ge-MOST_FRAMES : goal.returns-else-frames-ge-MOST_FRAMES
returns-else-frames-ge-MOST_FRAMES c =
    by_slots c.args.system.now c.args.method c.args.frames.now c.if-frames-ge-MOST_FRAMES.false c.slots_of_method.result c.slots_of_frames.result
    c.slots_of_method.ensures.slots c.slots_of_frames.ensures.slots
