use Rattle.page_text.specs.Pieces.{piece_text}
use Rattle.jx_top.proofs.status_lines.put_key.Goals as goal

pub returns : goal.returns
unfolding piece_text
returns g c = rw c.as_slice.ensures at c.put_line.ensures
