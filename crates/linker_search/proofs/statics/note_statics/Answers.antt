use Rattle.std.proofs.Common.{◌∙◌, ◌==◌, ◌+◌, None, sym, ap, position, take, if◌then◌else◌, arith}
use Rattle.std.specs.Prelude.{◌&&◌}
use Rattle.std.specs.Option.{option_map, option_or}
use Rattle.link_model.specs.Linking.{is_field}
use Rattle.linker_outline.specs.Indexed.{place_or}
use Rattle.linker_search.specs.Places.{place_in}
use Rattle.linker_search.proofs.OneMore.{further_from, position_next}
use Rattle.linker_search.proofs.statics.note_statics.Goals as goal

pub loop-place-preserved : goal.loop-place-preserved
loop-place-preserved c =
    let class = c.args.class in
    let before = c.args.before in
    let statics = c.args.statics.now in
    let place = c.loop-place.place in
    let item = c.index-statics-place.result in
    λ d x. c.in_ok-note_field.ensures d x ∙ ap (λ o. place_or o ((class == d) && is_field x item) (before + place)) (c.loop-place.invariant d x)
    ∙ further_from before (place_in c.args.places.now d x) (class == d) (position (is_field x) (take place statics)) (is_field x item) place
    ∙ ap (λ o. option_or (place_in c.args.places.now d x) (if class == d then option_map (λ i. before + i) o else None))
    (sym (position_next (is_field x) statics place item (omega arith) c.index-statics-place.is))
