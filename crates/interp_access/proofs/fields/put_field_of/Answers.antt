use Rattle.std.proofs.Common.{◌∙◌, Bool, sym, ap, drop}
use Rattle.std.specs.Prelude.{if◌then◌else◌}
use Rattle.machine_model.specs.ObjectRows.{BadCode, leaves}
use Rattle.machine_model.specs.State.{Store, with_cell}
use Rattle.interp_core.specs.Cores.{core_state, running_stack}
use Rattle.interp_access.proofs.Tops.{after_put, same_frames}
use Rattle.interp_access.proofs.fields.put_field_of.Goals as goal

pub returns : goal.returns
returns c =
    let s = c.args.system.now in let core = core_state c.args.core.now in let stack = drop 2 (running_stack core) in
    let put = with_cell core.store c.args.object c.args.place c.args.value in
    after_put s c.leave.result core (core_state c.put_cell.new.core) (core_state c.leave.new.core) 2 _ (same_frames c.args.core.now c.put_cell.new.core c.put_cell.ensures.frames)
    (ap (λ (b : Bool). if b then leaves s core put stack else BadCode) (sym c.if-not-is_object_of.ensures) ∙ ap (λ (t : Store). leaves s core t stack) (sym c.put_cell.ensures.store))
    c.leave.ensures.row
