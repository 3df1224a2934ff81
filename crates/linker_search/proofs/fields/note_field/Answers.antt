use Rattle.std.proofs.Common.{◌∙◌, ◌==◌, ap}
use Rattle.std.specs.Prelude.{◌&&◌}
use Rattle.std.proofs.lemmas.Result.{on_ok_weaker}
use Rattle.linker_outline.specs.Indexed.{place_or}
use Rattle.linker_search.specs.Places.{place_in}
use Rattle.linker_search.proofs.FieldPlaces.{field_selector}
use Rattle.linker_search.proofs.fields.note_field.Goals as goal
use Rattle.program_model.specs.Lookup.{same_selector}

pub returns : goal.returns
returns c =
    on_ok_weaker c.note.result
    (λ h d x. h d x ∙ ap (λ t. place_or (place_in c.args.places.now d x) ((c.args.class == d) && t) c.args.place)
    (ap (same_selector x) c.in_ok-selector_of.ensures ∙ field_selector x c.args.field.now)) c.note.ensures
