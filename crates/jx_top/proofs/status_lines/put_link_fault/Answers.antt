use Rattle.page_text.specs.Pieces.{piece_text}
use Rattle.jx_top.proofs.status_lines.put_link_fault.Goals as goal

pub returns : goal.returns
unfolding piece_text
returns g c =
    rw (c.as_slice.ensures, c.from.ensures, c.link_kind_number.ensures, c.as_slice-2.ensures) at c.put_line.ensures
