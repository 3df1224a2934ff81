use Rattle.std.specs.Prelude.{[], ◌∷◌, decimal}
use Rattle.audit_model.specs.Audit.{parcel_text}
use Rattle.page_text.specs.Pieces.{piece_text}
use Rattle.page_text.proofs.Writing.{writes_as}
use Rattle.audit_lines.proofs.SpacedTexts.{behind-end}
use Rattle.audit_lines.proofs.words.write_answer.Goals as goal

pub returns : goal.returns
unfolding piece_text
returns g c = rw (← c.from.ensures) (writes_as (behind-end (c.args.word.now ∷ decimal c.from.result ∷ []) (parcel_text c.args.system.now c.args.parcel.now)) c.write_with_parcel.ensures)
