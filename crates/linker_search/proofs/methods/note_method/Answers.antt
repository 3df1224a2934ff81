use Rattle.std.proofs.Common.{◌≡◌, ◌∙◌, ◌==◌, refl, sym, ap, length, slice_get, Some, None}
use Rattle.std.specs.Prelude.{◌&&◌}
use Rattle.std.proofs.lemmas.Bool.{ltb-false, ltb-true}
use Rattle.std.proofs.lemmas.Option.{slice_get_past, slice_get_read}
use Rattle.std.proofs.lemmas.Result.{on_ok_weaker}
use Rattle.jx_base.proofs.BasicLaws.{and_false}
use Rattle.jx_base.specs.Basics.{passes}
use Rattle.link_model.specs.Linking.{is_method_of}
use Rattle.linker_outline.specs.Indexed.{place_or}
use Rattle.linker_search.specs.Places.{place_in}
use Rattle.linker_search.proofs.OneMore.{not_noted}
use Rattle.linker_search.proofs.methods.note_method.Goals as goal
use Rattle.program_model.specs.Lookup.{same_selector, selector_at}

pub returns-in_default : goal.returns-in_default
unfolding is_method_of passes selector_at
returns-in_default c =
    let method = c.args.method.now in
    let selectors = c.as_slice.result.now in
    let none : slice_get c.args.system.now.program.selectors method.selector.0 ≡ None =
    ap (λ xs. slice_get xs method.selector.0) (sym c.as_slice.ensures)
    ∙ slice_get_past selectors method.selector.0 (ltb-false method.selector.0 (length selectors) (sym c.in_default.ensures.lookup.0)) in
    λ d x. sym (ap (λ t. place_or (place_in c.args.places.now d x) t c.args.place)
    (ap (λ o. (method.class.0 == d) && passes (same_selector x) o) none ∙ and_false (method.class.0 == d))
    ∙ not_noted (place_in c.args.places.now d x) c.args.place)

pub returns : goal.returns
unfolding is_method_of passes selector_at
returns c =
    let method = c.args.method.now in
    let selectors = c.as_slice.result.now in
    let there : slice_get c.args.system.now.program.selectors method.selector.0 ≡ Some c.in-Some.selector.now =
    ap (λ xs. slice_get xs method.selector.0) (sym c.as_slice.ensures)
    ∙ slice_get_read selectors (length selectors) method.selector.0 c.in-Some.selector.now refl
    (ltb-true method.selector.0 (length selectors) (sym c.in-Some.ensures.lookup.0)) c.in-Some.ensures.lookup.1 in
    on_ok_weaker c.note.result
    (λ h d x. h d x ∙ ap (λ y. place_or (place_in c.args.places.now d x) ((method.class.0 == d) && same_selector x y) c.args.place) c.in_ok-copy.ensures
    ∙ ap (λ o. place_or (place_in c.args.places.now d x) ((method.class.0 == d) && passes (same_selector x) o) c.args.place) (sym there))
    c.note.ensures
