use Rattle.std.proofs.Common.{◌≡◌, take}
use Rattle.parcel_carriage.specs.Words.{has_portal, with_held}
use Rattle.parcel_carriage.proofs.carriage.give_words.Given as goal

abbrev pub invariant-loop-word : goal.invariant-loop-word
invariant-loop-word l =
    l.services ≡ with_held l.domain.0 (has_portal (take l.word-index l.words)) l.initial.services
