use Rattle.std.proofs.Common.{refl}
use Rattle.jx_top.proofs.read_classes.read_one.Goals as goal

pub returns-in-Err-Bad : goal.returns-in-Err-Bad
returns-in-Err-Bad c =
    let fault = rw c.in-Err-Bad.field-0-is at c.in-Err-Bad.ensures.fault in
    rw (c.from.ensures, c.from-in-Err-Bad.ensures)
    (record { pc = c.in-Err-Bad.fault.pc; kind = c.in-Err-Bad.fault.kind; fault = fault; defect_is = refl })
