use Rattle.std.proofs.Common.{[], ◌∷◌, arith}
use Rattle.std.proofs.lemmas.Result.{err_from_is_err_and}
use Rattle.class_grammar.specs.ClassGrammar.{interface_part}
use Rattle.class_grammar.proofs.Repeats.{goes_on, is_done}
use Rattle.class_reader.proofs.Fronts.{all_fail}
use Rattle.class_reader.proofs.Interfaces.{interface_read, interface_fails}
use Rattle.class_reader.proofs.class.interfaces_at.Goals as goal

pub returns-in_err-interface-clause-read : goal.returns-in_err-interface-clause-read
returns-in_err-interface-clause-read c =
    let p = err_from_is_err_and c.from_residual.result c.from_residual.ensures.1 in
    let fails = interface_fails c.in_err-interface.field-0.0 c.args.size c.args.constants.now c.loop.rest.now c.in_err-interface.ensures.read in
    rw (p.1, p.2) (all_fail (interface_part c.args.size c.args.constants.now) c.in_err-interface.field-0.0 c.loop.interfaces.items c.args.count c.loop.counter c.loop.rest.now _ c.loop-test.true fails c.loop.invariant.0)

pub loop-preserved : goal.loop-preserved
loop-preserved c =
    let e = c.in_ok-push.ensures.items in
    let read = interface_read c.args.size c.args.constants.now c.loop.rest.now c.in_ok-interface.interface c.in_ok-interface.after.now c.in_ok-interface.ensures.read in
    (rw e (goes_on (interface_part c.args.size c.args.constants.now) c.loop.interfaces.items c.args.count c.loop.counter c.loop.rest.now (c.in_ok-interface.interface ∷ []) c.in_ok-interface.after.now _ c.loop-test.true read c.loop.invariant.0), omega (arith, c.in_ok-interface.ensures.shorter))

pub returns-clause-read : goal.returns-clause-read
returns-clause-read c =
    rw c.from_vec.ensures (is_done (interface_part c.args.size c.args.constants.now) c.loop.interfaces.items c.args.count c.loop.counter c.loop.rest.now _ c.loop-test.false c.loop.invariant.0)
