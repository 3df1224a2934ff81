use Rattle.std.proofs.Common.{arith}
use Rattle.std.proofs.lemmas.Result.{err_from_is_err_and}
use Rattle.jx_top.proofs.ReadMethods.{first_bad}
use Rattle.jx_top.proofs.read_classes.read_methods.Goals as goal

pub returns-in_err-read_method : goal.returns-in_err-read_method
returns-in_err-read_method c =
    let r = c.from_residual-in_err-read_method in
    let p = err_from_is_err_and r.result r.ensures.1 in
    rw (p.1, p.2)
    (first_bad c.args.methods.now c.loop-method.method-index c.method-item.result c.in_err-read_method.field-0.0 c.method-item.is (omega arith) c.loop-method.invariant.read c.in_err-read_method.ensures)
