use Rattle.std.proofs.Common.{sym, ◌∙◌, append-nil}
use Rattle.jx_base.specs.Texts.{quoted, spaced}
use Rattle.page_text.specs.Pieces.{piece_text}
use Rattle.page_text.proofs.Writing.{writes_as}
use Rattle.audit_lines.proofs.parcels.write_class.Goals as goal

pub returns : goal.returns
unfolding spaced piece_text
returns g c = writes_as (sym c.class_name-name.ensures ∙ sym (append-nil (quoted c.class_name-name.result.now))) c.write_words.ensures
