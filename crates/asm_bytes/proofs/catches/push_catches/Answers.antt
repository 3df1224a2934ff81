use Rattle.std.proofs.Common.{◌∙◌, ap, List, ℕ, ◌++◌}
use Rattle.std.specs.Prelude.{flat_map}
use Rattle.asm_constants.specs.Pools.{two_bytes}
use Rattle.asm_bytes.specs.Files.{catch_bytes}
use Rattle.asm_bytes.proofs.Appended.{one_put, all_put}
use Rattle.asm_bytes.proofs.catches.push_catches.Goals as goal

pub loop-line-preserved : goal.loop-line-preserved
loop-line-preserved c =
    one_put (catch_bytes c.args.pool.now c.args.marks.now) c.args.body.now c.loop-line.line-index c.line-item.result c.loop-line.bytes.items _ _ c.loop-line-test.true c.line-item.is
    c.in_ok-push_catch_line.ensures c.loop-line.invariant

pub returns : goal.returns
returns c =
    all_put (catch_bytes c.args.pool.now c.args.marks.now) c.args.body.now c.loop-line.line-index c.loop-line.bytes.items _ c.loop-line-test.false c.loop-line.invariant
    ∙ ap (λ (front : List ℕ). front ++ flat_map (catch_bytes c.args.pool.now c.args.marks.now) c.args.body.now) (c.in_ok-push_two.ensures ∙ ap (λ n. c.args.bytes.now.items ++ two_bytes n) c.catch_count.ensures)
