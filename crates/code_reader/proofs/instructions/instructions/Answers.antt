use Rattle.std.proofs.Common.{◌≡◌, ◌<◌, ◌++◌, ◌∷◌, [], length, arith}
use Rattle.std.proofs.lemmas.Bool.Decides.{nat_tests}
use Rattle.std.proofs.lemmas.Result.{err_from_is_err_and}
use Rattle.code_reader.proofs.CodeSteps.{goes_on, fails, is_done}
use Rattle.code_reader.proofs.instructions.instructions.Goals as goal

pub loop-rest-preserved : goal.loop-rest-preserved
loop-rest-preserved c =
    let e : c.push.new.self.items ≡ c.loop-rest.instrs.items ++ c.in_ok-instr.instr ∷ [] = c.in_ok-push.ensures.items in
    rw e (goes_on _ c.loop-rest.instrs.items c.loop-rest.rest.now c.in_ok-instr.instr c.in_ok-instr.after.now _ c.loop-rest.invariant c.in_ok-instr.ensures.read c.in_ok-instr.ensures.shorter)

pub returns-in_err-instr : goal.returns-in_err-instr
returns-in_err-instr c =
    let some : 0 < length c.loop-rest.rest.now = grind (arith, nat_tests, c.loop-rest-test.ensures) in
    let p = err_from_is_err_and c.from_residual.result c.from_residual.ensures.1 in
    rw (p.1, p.2) (fails c.in_err-instr.field-0.0 _ c.loop-rest.instrs.items c.loop-rest.rest.now _ c.loop-rest.invariant some c.in_err-instr.ensures.read)

pub returns : goal.returns
returns c =
    let none : length c.loop-rest.rest.now ≡ 0 = grind (arith, nat_tests, c.loop-rest-test.ensures) in
    is_done _ c.loop-rest.instrs.items c.loop-rest.rest.now _ c.loop-rest.invariant none
