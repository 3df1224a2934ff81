use Rattle.std.proofs.Common.{◌≡◌, ◌++◌, ◌∷◌, [], arith, rules}
use Rattle.std.specs.Prelude.{FitsSigned}
use Rattle.std.specs.Int.{w32}
use Rattle.std.proofs.lemmas.Result.{err_from_is_err_and}
use Rattle.std.proofs.lemmas.Int.{to_z-of_z}
use Rattle.class_grammar.specs.CodeGrammar.{key_operands}
use Rattle.class_grammar.proofs.Repeats.{goes_on, is_done}
use Rattle.code_reader.proofs.Repeats.{fails}
use Rattle.code_reader.proofs.switches.with_keys.Goals as goal

pub returns-in_err-key-clause-read : goal.returns-in_err-key-clause-read
returns-in_err-key-clause-read c =
    let p = err_from_is_err_and c.from_residual.result c.from_residual.ensures.1 in
    rw (p.1, p.2) (fails (key_operands c.args.pc) c.in_err-key.field-0.0 c.loop.operands.items c.args.count c.loop.counter c.loop.rest.now _ c.loop-test.true c.in_err-key.ensures.read c.loop.invariant.0)

pub loop-preserved : goal.loop-preserved
loop-preserved c =
    let k = c.in_ok-key.key in
    let t = c.in_ok-key.target in
    let f : FitsSigned w32 k = search rules in
    let g : FitsSigned w32 t = search rules in
    let e : c.extend_from_slice.new.self.items ≡ c.loop.operands.items ++ k ∷ t ∷ [] = simp to_z-of_z at c.in_ok-extend_from_slice.ensures.items in
    (rw e (goes_on (key_operands c.args.pc) c.loop.operands.items c.args.count c.loop.counter c.loop.rest.now (k ∷ t ∷ []) c.in_ok-key.after.now _ c.loop-test.true c.in_ok-key.ensures.read c.loop.invariant.0), omega (arith, c.in_ok-key.ensures.shorter))

pub returns-clause-read : goal.returns-clause-read
returns-clause-read c = is_done (key_operands c.args.pc) c.loop.operands.items c.args.count c.loop.counter c.loop.rest.now _ c.loop-test.false c.loop.invariant.0
