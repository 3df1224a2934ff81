use Rattle.std.proofs.Common.{take}
use Rattle.linker_outline.specs.Indexed.{IsIndexed}
use Rattle.linker_outline.proofs.names.first_places.Given as goal

abbrev pub invariant-loop-place : goal.invariant-loop-place
invariant-loop-place l = IsIndexed (take l.place l.names) l.places
