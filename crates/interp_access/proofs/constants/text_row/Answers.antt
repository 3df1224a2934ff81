use Rattle.std.proofs.Common.{◌∙◌, List, ℕ, sym, ap, drop}
use Rattle.std.specs.Option.{option_map}
use Rattle.machine_model.specs.BuiltInMethods.{text_cells}
use Rattle.machine_model.specs.ObjectRows.{leaves_new, literal_of, with_literal}
use Rattle.machine_model.specs.State.{new_object}
use Rattle.program_model.specs.BuiltIn.{string_class}
use Rattle.interp_core.specs.Cores.{core_state, running_stack}
use Rattle.interp_access.proofs.RowForms.{text_known, text_new}
use Rattle.interp_access.proofs.Tops.{gives_as, same_frames, same_step}
use Rattle.interp_access.proofs.constants.text_row.Goals as goal

pub returns-in-Some : goal.returns-in-Some
returns-in-Some c =
    let s = c.args.system.now in let core = core_state c.args.core.now in let text = c.args.text.now in
    let known = ap (λ (ls : List (List ℕ × ℕ)). literal_of ls text) (sym c.as_slice.ensures.value) ∙ sym c.in-Some.ensures in
    gives_as c.leave.result core (core_state c.leave.new.core) _ _ (text_known s core text (running_stack core) c.in-Some.object known) c.leave.ensures.row

pub returns : goal.returns
returns c =
    let s = c.args.system.now in let core = core_state c.args.core.now in let text = c.args.text.now in
    let unknown = ap (λ (ls : List (List ℕ × ℕ)). literal_of ls text) (sym c.as_slice.ensures.value) ∙ sym c.in_default.ensures in
    let made = option_map (with_literal text) (new_object core.store string_class (text_cells text)) in
    same_step c.leave_new.result core (core_state c.leave_new.new.core) _ (leaves_new s core (drop 0 (running_stack core)) made) (text_new s core text (running_stack core) unknown)
    (c.leave_new.ensures core made (same_frames c.args.core.now c.make_literal.new.core c.in_ok-made.ensures.frames) c.in_ok-made.ensures.made)
