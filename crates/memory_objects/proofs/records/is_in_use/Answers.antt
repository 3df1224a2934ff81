use Rattle.std.proofs.Common.{◌≡◌, ◌∙◌, ◌<◌, refl, sym, arith, length}
use Rattle.jx_base.specs.Basics.{up_to}
use Rattle.memory_objects.proofs.UsedExtents.{none_more, use_found, use_none, use_there}
use Rattle.memory_objects.proofs.records.is_in_use.Goals as goal

pub loop-place-init : goal.loop-place-init
unfolding up_to
loop-place-init c = refl

pub loop-place-preserved : goal.loop-place-preserved
loop-place-preserved c =
    let parts = c.args.parts.now in
    let rows = c.args.records.now in
    let k = c.loop-place.place in
    let below : k < length rows = omega (arith, c.loop-place-test.true, c.requires) in
    none_more parts rows c.args.extent k c.loop-place.invariant (use_there parts rows c.args.extent k c.loop-place-test.true below ∙ sym c.if-is_use_of.ensures)

pub returns-then-is_use_of : goal.returns-then-is_use_of
returns-then-is_use_of c =
    let parts = c.args.parts.now in
    let rows = c.args.records.now in
    let k = c.loop-place.place in
    let below : k < length rows = omega (arith, c.loop-place-test.true, c.requires) in
    use_found parts rows c.args.extent k c.loop-place-test.true (use_there parts rows c.args.extent k c.loop-place-test.true below ∙ sym c.if-is_use_of.ensures)

pub returns : goal.returns
returns c =
    let all : c.loop-place.place ≡ length c.args.parts.now = omega (arith, c.loop-place-test.false, c.loop-place.auto.place-end) in
    use_none c.args.parts.now c.args.records.now c.args.extent c.loop-place.place all c.loop-place.invariant
