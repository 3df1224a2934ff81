use Rattle.std.proofs.Common.{◌≡◌, ◌++◌, ◌∷◌, [], arith, rules}
use Rattle.std.specs.Prelude.{FitsSigned}
use Rattle.std.specs.Int.{w32}
use Rattle.std.proofs.lemmas.Result.{err_from_is_err_and}
use Rattle.std.proofs.lemmas.Int.{to_z-of_z}
use Rattle.class_grammar.specs.CodeGrammar.{target_operand}
use Rattle.class_grammar.proofs.Repeats.{goes_on, is_done}
use Rattle.code_reader.proofs.Repeats.{fails}
use Rattle.code_reader.proofs.switches.with_targets.Goals as goal

pub returns-in_err-target-clause-read : goal.returns-in_err-target-clause-read
returns-in_err-target-clause-read c =
    let p = err_from_is_err_and c.from_residual.result c.from_residual.ensures.1 in
    rw (p.1, p.2) (fails (target_operand w32 c.args.pc) c.in_err-target.field-0.0 c.loop.operands.items c.args.count c.loop.counter c.loop.rest.now _ c.loop-test.true c.in_err-target.ensures.read c.loop.invariant.0)

pub loop-preserved : goal.loop-preserved
loop-preserved c =
    let t = c.in_ok-target.target in
    let f : FitsSigned w32 t = search rules in
    let e : c.push.new.self.items ≡ c.loop.operands.items ++ t ∷ [] = simp to_z-of_z at c.in_ok-push.ensures.items in
    (rw e (goes_on (target_operand w32 c.args.pc) c.loop.operands.items c.args.count c.loop.counter c.loop.rest.now (t ∷ []) c.in_ok-target.after.now _ c.loop-test.true c.in_ok-target.ensures.read c.loop.invariant.0), omega (arith, c.in_ok-target.ensures.shorter))

pub returns-clause-read : goal.returns-clause-read
returns-clause-read c = is_done (target_operand w32 c.args.pc) c.loop.operands.items c.args.count c.loop.counter c.loop.rest.now _ c.loop-test.false c.loop.invariant.0
