use Rattle.std.proofs.Common.{◌≡◌, ◌≤◌, ◌*◌, ◌^◌, take, sum_by}
use Rattle.machine_model.specs.State.{slots_of_method}
use Rattle.interp_obj.proofs.entering.slots_of_frames.Given as goal

abbrev pub invariant-loop-frame : goal.invariant-loop-frame
invariant-loop-frame l =
    (l.slots ≡ sum_by (λ f. slots_of_method l.system f.method) (take l.frame-index l.frames))
    × (l.slots ≤ 2 ^ 33 * l.frame-index)
