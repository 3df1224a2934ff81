use Rattle.std.proofs.Common.{rules, arith, sym, ap, ◌∙◌, ◌≡◌, Some, None, slice_get}
use Rattle.std.proofs.lemmas.Grind.{common_steps}
use Rattle.std.proofs.lemmas.Option.{gets}
use Rattle.program_model.specs.Lookup.{shape_fits, type_of_name}
use Rattle.program_types.specs.Shapes.{shape_state}
use Rattle.program_types.proofs.ShapeSteps.{array_type, empty_name, no_type, fits_found, fits_nowhere}
use Rattle.program_types.proofs.shapes.shape_fits_class.Goals as goal

pub returns-in_default : goal.returns-in_default
returns-in_default c =
    let h = c.in_default.ensures.lookup in
    let e : slice_get c.args.system.now.program.classes c.args.class ≡ None = grind (arith, common_steps, gets) in
    sym (fits_nowhere c.args.system.now c.args.loose (shape_state c.args.shape) c.args.class e)

pub returns-in-empty : goal.returns-in-empty
returns-in-empty c =
    let h = c.in-Some.ensures.lookup in
    let v = shape_state c.args.shape in
    let e : slice_get c.args.system.now.program.classes c.args.class ≡ Some c.in-Some.found.now = grind (arith, common_steps, gets) in
    sym (fits_found c.args.system.now c.args.loose v c.args.class c.in-Some.found.now e
    ∙ ap (λ name. shape_fits c.args.system.now c.args.loose v (type_of_name name)) (sym c.as_slice-name.ensures ∙ empty_name c.as_slice-name.result.now c.in-empty.len_below)
    ∙ no_type c.args.system.now c.args.loose v)

pub returns-in-91 : goal.returns-in-91
returns-in-91 c =
    let h = c.in-Some.ensures.lookup in
    let v = shape_state c.args.shape in
    let e : slice_get c.args.system.now.program.classes c.args.class ≡ Some c.in-Some.found.now = grind (arith, common_steps, gets) in
    c.shape_fits.ensures
    ∙ sym (fits_found c.args.system.now c.args.loose v c.args.class c.in-Some.found.now e
    ∙ ap (λ name. shape_fits c.args.system.now c.args.loose v (type_of_name name)) (sym c.as_slice-name.ensures)
    ∙ ap (shape_fits c.args.system.now c.args.loose v) (array_type c.as_slice-name.result.now (search rules)))

pub returns-in_default-name : goal.returns-in_default-name
returns-in_default-name c =
    let h = c.in-Some.ensures.lookup in
    let v = shape_state c.args.shape in
    let e : slice_get c.args.system.now.program.classes c.args.class ≡ Some c.in-Some.found.now = grind (arith, common_steps, gets) in
    c.fits_plain_class.ensures
    ∙ sym (fits_found c.args.system.now c.args.loose v c.args.class c.in-Some.found.now e
    ∙ ap (λ name. shape_fits c.args.system.now c.args.loose v (type_of_name name)) (sym c.as_slice-name.ensures))
