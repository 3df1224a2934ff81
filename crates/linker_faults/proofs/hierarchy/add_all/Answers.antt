use Rattle.std.proofs.Common.{◌∙◌, refl, sym, ap, get_or, arith}
use Rattle.jx_base.specs.Basics.{all_added}
use Rattle.std.proofs.lemmas.List.{take_all}
use Rattle.linker_faults.specs.Hierarchies.{joined}
use Rattle.linker_faults.proofs.Growing.{inserted, joined_next, with_one}
use Rattle.linker_faults.proofs.hierarchy.add_all.Goals as goal

pub loop-place-init : goal.loop-place-init
unfolding all_added
loop-place-init c = refl

pub loop-place-preserved : goal.loop-place-preserved
loop-place-preserved c =
    let places = c.args.places.now in
    let index = c.loop-place.place-index in
    c.in_ok-insert.ensures.keys ∙ inserted c.loop-place.reached.keys (get_or places index 0) ∙ ap (λ xs. with_one xs (get_or places index 0)) c.loop-place.invariant
    ∙ sym (joined_next c.args.reached.now.keys places index 0 (omega arith))

pub returns : goal.returns
returns c = c.loop-place.invariant ∙ ap (joined c.args.reached.now.keys) (take_all c.loop-place.place-index c.args.places.now (omega arith))
