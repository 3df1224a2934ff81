use Rattle.std.proofs.Common.{◌∙◌, ap, ◌++◌}
use Rattle.asm_constants.specs.Pools.{two_bytes}
use Rattle.asm_bytes.proofs.Joined.{attribute_joined}
use Rattle.asm_bytes.proofs.methods.code_attribute.Goals as goal

pub returns : goal.returns
returns c =
    let start = c.new-bytes.result.items in
    let one = c.push_two.new.bytes.items in
    attribute_joined c.args.pool.now c.in_ok-marks.marks c.args.body.now c.args.max_stack c.args.max_locals c.as_slice.result.now start one _ _ _ _
    c.in_ok-marks.ensures (c.as_slice.ensures.value ∙ c.in_ok-code.ensures) c.new-bytes.ensures.items
    (c.in_ok-push_two.ensures ∙ ap (λ n. start ++ two_bytes n) c.from.ensures)
    (c.in_ok-push_two-2.ensures ∙ ap (λ n. one ++ two_bytes n) c.from-2.ensures)
    c.in_ok-push_counted.ensures c.in_ok-push_catches.ensures c.in_ok-push_two-3.ensures
