use Rattle.std.proofs.Common.{◌∙◌, ap, ℕ, ◌+◌, List, ◌++◌, arith}
use Rattle.std.proofs.lemmas.Slice.{between_to_end}
use Rattle.asm_constants.specs.Pools.{two_bytes}
use Rattle.asm_bytes.specs.Files.{method_bytes, methods_bytes}
use Rattle.asm_bytes.proofs.MethodsOn.{one_put, all_put}
use Rattle.asm_bytes.proofs.methods.push_methods.Goals as goal

pub loop-i-preserved : goal.loop-i-preserved
loop-i-preserved c =
    let pool = c.args.pool.now in
    let lines = c.args.lines.now in
    let line = c.index-lines-i.result in
    let before = c.loop-i.bytes.items in
    let behind = between_to_end lines (c.loop-i.i + 1) _ (omega arith) in
    one_put pool lines c.loop-i.i line before _ _ c.loop-i-test.true c.index-lines-i.is
    (c.in_ok-push_method.ensures ∙ ap (λ after. before ++ method_bytes pool line after) behind) c.loop-i.invariant

pub returns : goal.returns
returns c =
    all_put c.args.pool.now c.args.lines.now c.loop-i.i c.loop-i.bytes.items _ c.loop-i-test.false c.loop-i.invariant
    ∙ ap (λ (front : List ℕ). front ++ methods_bytes c.args.pool.now c.args.lines.now) (c.in_ok-push_two.ensures ∙ ap (λ n. c.args.bytes.now.items ++ two_bytes n) c.method_count.ensures)
