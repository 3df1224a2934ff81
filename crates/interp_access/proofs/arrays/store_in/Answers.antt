use Rattle.std.proofs.Common.{rules, to_z, of_z, ◌≡◌, ◌∙◌, List, length, sym, ap, drop, false}
use Rattle.std.proofs.lemmas.Int.{to_z-of_z}
use Rattle.std.specs.Int.{w32}
use Rattle.std.specs.Prelude.{FitsSigned, ℤ}
use Rattle.jx_base.specs.declared.value.Value.{Value}
use Rattle.machine_model.specs.ObjectRows.{leaves, place_in}
use Rattle.machine_model.specs.State.{Store, with_cell}
use Rattle.program_model.specs.Lookup.{Shape, shape_fits}
use Rattle.interp_core.specs.Cores.{core_state, running_stack}
use Rattle.interp_access.proofs.RowForms.{store_by}
use Rattle.interp_access.proofs.Tops.{after_put, same_frames}
use Rattle.interp_access.proofs.arrays.store_in.Goals as goal

pub returns : goal.returns
returns c =
    let s = c.args.system.now in let core = core_state c.args.core.now in let rest = drop 3 (running_stack core) in
    let kind = c.in-Some.kind.now in let k = c.in-Some-place_in.place in
    let fits_int : FitsSigned w32 c.args.index = search rules in
    let same : to_z w32 (of_z w32 c.args.index) ≡ c.args.index = to_z-of_z w32 c.args.index fits_int in
    let place = c.in-Some-place_in.ensures.place ∙ ap (λ (i : ℤ). place_in i (length c.cells_of.result.now)) same ∙ ap (λ (cells : List Value). place_in c.args.index (length cells)) c.cells_of.ensures in
    let fits = c.if-not-shape_fits.ensures ∙ ap (λ (x : Shape). shape_fits s false x kind) c.shape_of.ensures in
    after_put s c.leave.result core (core_state c.put_cell.new.core) (core_state c.leave.new.core) 3 _ (same_frames c.args.core.now c.put_cell.new.core c.put_cell.ensures.frames)
    (store_by s core c.args.element c.args.value c.args.index c.args.array k kind rest c.in-Some.ensures place fits
    ∙ ap (λ (v : Value). leaves s core (with_cell core.store c.args.array k v) rest) (sym c.kept_value.ensures)
    ∙ ap (λ (t : Store). leaves s core t rest) (sym c.put_cell.ensures.store))
    c.leave.ensures.row
