use Rattle.std.specs.Prelude.{[], ◌∷◌}
use Rattle.audit_model.specs.Audit.{parcel_text}
use Rattle.page_text.specs.Pieces.{piece_text}
use Rattle.page_text.proofs.Writing.{writes_as}
use Rattle.audit_lines.proofs.SpacedTexts.{behind-end}
use Rattle.audit_lines.proofs.words.write_carried.Goals as goal

pub returns : goal.returns
unfolding piece_text
returns g c = writes_as (behind-end (c.args.word.now ∷ []) (parcel_text c.args.system.now c.args.parcel.now)) c.write_with_parcel.ensures
