use Rattle.std.proofs.Common.{◌∙◌, ◌==◌, ◌+◌, None, sym, ap, length, position, if◌then◌else◌, arith}
use Rattle.std.specs.Option.{option_map, option_or}
use Rattle.jx_base.proofs.BasicLaws.{ap2}
use Rattle.link_model.specs.Linking.{is_field}
use Rattle.linker_search.specs.OwnFields.{before, static_place}
use Rattle.linker_search.specs.Places.{place_in}
use Rattle.linker_search.proofs.FieldPlaces.{before_next}
use Rattle.linker_search.proofs.OneMore.{at_class, class_next}
use Rattle.linker_search.proofs.statics.static_places.Goals as goal

pub loop-number-preserved : goal.loop-number-preserved
loop-number-preserved c =
    let classes = c.args.classes.now in
    let number = c.loop-number.number in
    let item = c.index-classes-number.result in
    let statics = c.as_slice-statics.result.now in
    let next = before_next classes number item (omega arith) c.index-classes-number.is in (
      λ d x. c.in_ok-note_statics.ensures d x
          ∙ ap (option_or (place_in c.loop-number.places d x)) (at_class number d (option_map (λ i. c.loop-number.before + i) (position (is_field x) statics)) (static_place classes x d item)
          (λ e. ap2 (λ n fs. option_map (λ i. n + i) (position (is_field x) fs)) (c.loop-number.invariant.1 ∙ ap (before classes) e) c.as_slice-statics.ensures))
          ∙ ap (λ o. option_or o (if number == d then static_place classes x d item else None)) (c.loop-number.invariant.0 d x)
          ∙ class_next (static_place classes x d) classes number d item (omega arith) c.index-classes-number.is,
      ap2 (λ n k. n + k) c.loop-number.invariant.1 (ap length c.as_slice-statics.ensures) ∙ sym next,
      omega (arith, c.if-statics-before.false, c.loop-number.invariant.2),
    )
