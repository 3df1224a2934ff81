use Rattle.std.proofs.Common.{drop}
use Rattle.machine_model.specs.ObjectRows.{leaves_new}
use Rattle.machine_model.specs.State.{new_object}
use Rattle.interp_core.specs.Cores.{core_state, running_stack}
use Rattle.interp_core.specs.Making.{contents_cells}
use Rattle.interp_access.proofs.RowForms.{new_is}
use Rattle.interp_access.proofs.Tops.{same_frames, same_step}
use Rattle.interp_access.proofs.classes.new_row.Goals as goal

pub returns : goal.returns
returns c =
    let s = c.args.system.now in let core = core_state c.args.core.now in
    let cells = contents_cells c.contents_of.result in
    let made = new_object core.store c.args.class cells in
    same_step c.leave_new.result core (core_state c.leave_new.new.core) _ (leaves_new s core (drop 0 (running_stack core)) made) (new_is s core c.args.class (running_stack core) cells c.contents_of.ensures)
    (c.leave_new.ensures core made (same_frames c.args.core.now c.make_object-made.new.core c.make_object-made.ensures.frames) c.make_object-made.ensures.made)
