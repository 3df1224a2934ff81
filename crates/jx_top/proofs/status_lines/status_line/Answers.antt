use Rattle.page_text.specs.Pieces.{piece_text}
use Rattle.jx_top.proofs.status_lines.status_line.Goals as goal

pub returns-in-Missing : goal.returns-in-Missing
unfolding piece_text
returns-in-Missing g c = rw c.in-Missing.is (rw c.as_str.ensures.value at c.put_line-in-Missing.ensures)

pub returns-in-SinkFault : goal.returns-in-SinkFault
unfolding piece_text
returns-in-SinkFault g c = rw c.in-SinkFault.is c.put_line-in-SinkFault.ensures

pub returns-in-NotYet : goal.returns-in-NotYet
unfolding piece_text
returns-in-NotYet g c = rw c.in-NotYet.is (rw c.as_str-in-NotYet.ensures.value at c.put_line-in-NotYet.ensures)

pub returns-in-OutOfMemory : goal.returns-in-OutOfMemory
unfolding piece_text
returns-in-OutOfMemory g c = rw c.in-OutOfMemory.is c.put_line-in-OutOfMemory.ensures

pub returns-in-BadClass : goal.returns-in-BadClass
unfolding piece_text
returns-in-BadClass g c =
    let put = rw (c.as_str-in-BadClass.ensures.value, c.from.ensures, c.kind_number.ensures) at c.put_line-in-BadClass.ensures in
    rw c.in-BadClass.is put

pub returns-in-BadAsm : goal.returns-in-BadAsm
unfolding piece_text
returns-in-BadAsm g c =
    let put = rw (c.from-in-BadAsm.ensures, c.from-in-BadAsm-2.ensures, c.asm_kind_number.ensures) at c.put_line-in-BadAsm.ensures in
    rw c.in-BadAsm.is put

pub returns-in-Halted : goal.returns-in-Halted
unfolding piece_text
returns-in-Halted g c = rw c.in-Halted.is c.put_line-in-Halted.ensures
