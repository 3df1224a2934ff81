use Rattle.std.proofs.Common.{◌∙◌, sym}
use Rattle.linker_search.proofs.MemberPlaces.{known_place, new_place}
use Rattle.linker_search.proofs.places.note.Goals as goal

pub returns-in_ok-insert : goal.returns-in_ok-insert
returns-in_ok-insert c =
    λ d x. new_place c.args.places.now c.insert.new.self c.args.key c.args.place d x
    (sym c.contains_key.ensures ∙ c.if-not-contains_key.true) c.in_ok-insert.ensures.updates

pub returns-else-not-contains_key : goal.returns-else-not-contains_key
returns-else-not-contains_key c =
    λ d x. known_place c.args.places.now c.args.places.now c.args.key c.args.place d x
    (sym c.contains_key.ensures ∙ c.if-not-contains_key.false)
