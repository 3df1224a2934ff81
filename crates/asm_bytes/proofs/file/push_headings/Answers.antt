use Rattle.asm_bytes.specs.Files.{heading_bytes}
use Rattle.asm_bytes.proofs.Appended.{one_put, all_put}
use Rattle.asm_bytes.proofs.file.push_headings.Goals as goal

pub loop-line-preserved : goal.loop-line-preserved
loop-line-preserved c =
    one_put (heading_bytes c.args.pool.now) c.args.lines.now c.loop-line.line-index c.line-item.result c.loop-line.bytes.items _ _ c.loop-line-test.true c.line-item.is
    c.in_ok-push_heading.ensures c.loop-line.invariant

pub returns : goal.returns
returns c = all_put (heading_bytes c.args.pool.now) c.args.lines.now c.loop-line.line-index c.loop-line.bytes.items _ c.loop-line-test.false c.loop-line.invariant
