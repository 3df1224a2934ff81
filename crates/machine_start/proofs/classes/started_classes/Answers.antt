use Rattle.std.proofs.Common.{ap, ◌∙◌, ◌++◌, take}
use Rattle.std.specs.Prelude.{flat_map}
use Rattle.jx_base.specs.Basics.{distinct, distinct_after, firsts}
use Rattle.machine_model.specs.Start.{started_classes}
use Rattle.program_model.specs.BuiltIn.{built_in_count}
use Rattle.machine_start.proofs.Chains.{started_more, supers_of_place}
use Rattle.machine_start.proofs.classes.started_classes.Goals as goal

pub loop-place-init : goal.loop-place-init
unfolding started_classes distinct distinct_after
loop-place-init c = c.new-classes.ensures.empty

pub loop-place-preserved : goal.loop-place-preserved
unfolding started_classes built_in_count
loop-place-preserved c =
    let s = c.args.system.now in
    let places = c.args.places.now in
    let i = c.loop-place.place-index in
    let before = flat_map (supers_of_place s) (take i places) in
    c.in_ok-add_classes.ensures before c.loop-place.invariant
    ∙ ap (λ xs. firsts (before ++ xs)) (c.as_slice.ensures.value ∙ c.in_ok-supers.ensures)
    ∙ ap firsts (started_more s places i c.loop-place-test.true)
