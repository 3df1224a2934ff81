use Rattle.std.proofs.Common.{arith}
use Rattle.linker_outline.proofs.Positions.{noted}
use Rattle.linker_outline.proofs.names.first_places.Goals as goal

pub loop-place-preserved : goal.loop-place-preserved
loop-place-preserved c =
    noted c.args.names.now c.loop-place.place c.index-names-place.result c.loop-place.places c.note.new.places
    (omega arith) c.index-names-place.is (rw c.in_ok-copy.ensures at c.in_ok-note.ensures) c.loop-place.invariant
