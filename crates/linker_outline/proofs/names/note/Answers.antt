use Rattle.std.proofs.Common.{◌∙◌, sym}
use Rattle.linker_outline.proofs.Positions.{known_place, new_place}
use Rattle.linker_outline.proofs.names.note.Goals as goal

pub returns-in_ok-insert : goal.returns-in_ok-insert
returns-in_ok-insert c =
    new_place c.args.places.now c.insert.new.self c.args.name c.args.place
    (sym c.contains_key.ensures ∙ c.if-not-contains_key.true) c.in_ok-insert.ensures.updates

pub returns-else-not-contains_key : goal.returns-else-not-contains_key
returns-else-not-contains_key c =
    known_place c.args.places.now c.args.places.now c.args.name c.args.place (sym c.contains_key.ensures ∙ c.if-not-contains_key.false)
