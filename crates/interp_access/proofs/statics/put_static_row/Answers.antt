use Rattle.std.proofs.Common.{◌∙◌, sym, ap, drop}
use Rattle.machine_model.specs.ObjectRows.{leaves}
use Rattle.machine_model.specs.State.{Store}
use Rattle.interp_core.specs.Cores.{core_state, running_stack}
use Rattle.interp_access.proofs.RowForms.{put_static_by}
use Rattle.interp_access.proofs.Tops.{after_put, same_frames}
use Rattle.interp_access.proofs.statics.put_static_row.Goals as goal

pub returns : goal.returns
returns c =
    let s = c.args.system.now in let core = core_state c.args.core.now in
    after_put s c.leave.result core (core_state c.put_static.new.core) (core_state c.leave.new.core) 1 _ (same_frames c.args.core.now c.put_static.new.core c.put_static.ensures.frames)
    (put_static_by s core c.args.place (running_stack core) c.in-Some.value c.in-Some-static_type.kind.now c.in-Some-fitting_value.kept c.in-Some.ensures c.in-Some-static_type.ensures c.in-Some-fitting_value.ensures
    ∙ ap (λ (t : Store). leaves s core t (drop 1 (running_stack core))) (sym c.put_static.ensures.store))
    c.leave.ensures.row
