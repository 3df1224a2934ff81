use Rattle.std.proofs.Common.{◌∙◌, sym, ap, position, arith}
use Rattle.std.proofs.lemmas.List.{take_all}
use Rattle.link_model.specs.Linking.{is_method_of, own_method}
use Rattle.linker_outline.specs.Indexed.{place_or}
use Rattle.linker_search.proofs.OneMore.{position_next}
use Rattle.linker_search.proofs.methods.method_places.Goals as goal

pub loop-place-preserved : goal.loop-place-preserved
loop-place-preserved c =
    let methods = c.as_slice-methods.result.now in
    let place = c.loop-place.place in
    let item = c.index-methods-place.result in
    λ d x. c.in_ok-note_method.ensures d x
    ∙ ap (λ o. place_or o (is_method_of c.args.system.now x d item) place) (c.loop-place.invariant d x)
    ∙ sym (position_next (is_method_of c.args.system.now x d) methods place item (omega arith) c.index-methods-place.is)

pub returns : goal.returns
unfolding own_method
returns c =
    λ d x. c.loop-place.invariant d x
    ∙ ap (position (is_method_of c.args.system.now x d)) (take_all c.loop-place.place c.as_slice-methods.result.now (omega arith) ∙ c.as_slice-methods.ensures)
