use Rattle.std.proofs.Common.{◌∙◌, ◌==◌, None, ap, position, if◌then◌else◌, arith}
use Rattle.std.specs.Option.{option_or}
use Rattle.linker_search.specs.OwnFields.{instance_place, is_own}
use Rattle.linker_search.specs.Places.{place_in}
use Rattle.linker_search.proofs.OneMore.{class_next}
use Rattle.linker_search.proofs.instances.instance_places.Goals as goal

pub loop-number-preserved : goal.loop-number-preserved
loop-number-preserved c =
    let classes = c.args.classes.now in
    let number = c.loop-number.number in
    let item = c.index-classes-number.result in
    λ d x. c.in_ok-note_layout.ensures d x
    ∙ ap (λ fs. option_or (place_in c.loop-number.places d x) (if number == d then position (is_own x d) fs else None)) c.as_slice.ensures
    ∙ ap (λ o. option_or o (if number == d then instance_place x d item else None)) (c.loop-number.invariant d x)
    ∙ class_next (instance_place x d) classes number d item (omega arith) c.index-classes-number.is
