use Rattle.page_text.specs.Pieces.{piece_text}
use Rattle.jx_top.proofs.status_lines.put_plan_fault.Goals as goal

pub returns-in-NotToml : goal.returns-in-NotToml
unfolding piece_text
returns-in-NotToml g c = rw c.in-NotToml.is c.put_line.ensures
