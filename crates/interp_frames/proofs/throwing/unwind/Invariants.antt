use Rattle.std.proofs.Common.{◌≡◌, length}
use Rattle.std.specs.List.{All}
use Rattle.machine_model.specs.Conditions.{IsFrameOf}
use Rattle.machine_model.specs.State.{frames_at_handler}
use Rattle.interp_core.specs.Cores.{core_state, store_of}
use Rattle.interp_frames.proofs.throwing.unwind.Given as goal

abbrev pub invariant-loop-frame : goal.invariant-loop-frame
invariant-loop-frame l = record {
  store : store_of l.core ≡ store_of l.fn.core;
  frames : All (IsFrameOf l.system) (core_state l.core).frames;
  handler : frames_at_handler l.system l.thrown l.object (core_state l.core).frames ≡ frames_at_handler l.system l.thrown l.object (core_state l.fn.core).frames;
}

abbrev pub decreases-loop-frame : goal.decreases-loop-frame
decreases-loop-frame l = length l.core.frames.items
