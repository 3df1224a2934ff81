use Rattle.std.proofs.Common.{arith}
use Rattle.std.proofs.lemmas.Result.{err_from_is_err_and}
use Rattle.class_reader.proofs.Attributes.{goes_on, ends, is_done}
use Rattle.class_reader.proofs.members.attributes_at.Goals as goal

pub returns-in_err-found-clause-read : goal.returns-in_err-found-clause-read
returns-in_err-found-clause-read c =
    let p = err_from_is_err_and c.from_residual.result c.from_residual.ensures.1 in
    rw (p.1, p.2) (ends c.args.size c.args.constants.now c.args.may_have c.in_err-found.field-0.0 c.args.count c.loop.counter c.loop.code c.loop.rest.now _ c.loop-test.true c.in_err-found.ensures.read c.loop.invariant.0)

pub loop-preserved : goal.loop-preserved
loop-preserved c =
    (goes_on c.args.size c.args.constants.now c.args.may_have c.args.count c.loop.counter c.loop.code c.in_ok-found.found c.loop.rest.now c.in_ok-found.after.now _ c.loop-test.true c.in_ok-found.ensures.read c.loop.invariant.0, omega (arith, c.in_ok-found.ensures.shorter))

pub returns-clause-read : goal.returns-clause-read
returns-clause-read c =
    is_done c.args.size c.args.constants.now c.args.may_have c.args.count c.loop.counter c.loop.code c.loop.rest.now _ c.loop-test.false c.loop.invariant.0
