use Rattle.std.proofs.Common.{◌≡◌, ◌∙◌, refl, sym, ap, length, None, Some, slice_get}
use Rattle.std.proofs.lemmas.Bool.{ltb-false, ltb-true}
use Rattle.std.proofs.lemmas.Option.{slice_get_past, slice_get_read}
use Rattle.program_model.specs.Lookup.{selector_at}
use Rattle.service_methods.proofs.OfferedMethods.{no_selector, with_selector}
use Rattle.service_methods.proofs.methods.has_method.Goals as goal

pub returns-in_default : goal.returns-in_default
unfolding selector_at
returns-in_default c =
    let selectors = c.as_slice.result.now in
    let m = c.args.method in
    let none : slice_get c.args.system.now.program.selectors m ≡ None =
    ap (λ xs. slice_get xs m) (sym c.as_slice.ensures)
    ∙ slice_get_past selectors m (ltb-false m (length selectors) (sym c.in_default.ensures.lookup.0)) in
    sym (no_selector c.args.system.now c.args.interface m none)

pub returns : goal.returns
unfolding selector_at
returns c =
    let selectors = c.as_slice.result.now in
    let m = c.args.method in
    let there : slice_get c.args.system.now.program.selectors m ≡ Some c.in-Some.selector.now =
    ap (λ xs. slice_get xs m) (sym c.as_slice.ensures)
    ∙ slice_get_read selectors (length selectors) m c.in-Some.selector.now refl
    (ltb-true m (length selectors) (sym c.in-Some.ensures.lookup.0)) c.in-Some.ensures.lookup.1 in
    c.has_selector.ensures ∙ sym (with_selector c.args.system.now c.args.interface m c.in-Some.selector.now there)
