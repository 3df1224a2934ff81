use Rattle.std.proofs.Common.{◌∙◌, ◌==◌, None, sym, ap, position, take, if◌then◌else◌, arith}
use Rattle.std.specs.Prelude.{◌&&◌}
use Rattle.std.specs.Option.{option_or}
use Rattle.linker_outline.specs.Indexed.{place_or}
use Rattle.linker_search.specs.OwnFields.{is_own}
use Rattle.linker_search.specs.Places.{place_in}
use Rattle.linker_search.proofs.OneMore.{further, position_next}
use Rattle.linker_search.proofs.instances.note_layout.Goals as goal

pub loop-place-preserved : goal.loop-place-preserved
loop-place-preserved c =
    let class = c.args.class in
    let layout = c.args.layout.now in
    let place = c.loop-place.place in
    let item = c.index-layout-place.result in
    λ d x. c.in_ok-note_own.ensures d x ∙ ap (λ o. place_or o ((class == d) && is_own x d item) place) (c.loop-place.invariant d x)
    ∙ further (place_in c.args.places.now d x) (class == d) (position (is_own x d) (take place layout)) (is_own x d item) place
    ∙ ap (λ o. option_or (place_in c.args.places.now d x) (if class == d then o else None)) (sym (position_next (is_own x d) layout place item (omega arith) c.index-layout-place.is))
