use Rattle.std.proofs.Common.{◌∙◌, ap, ◌++◌}
use Rattle.asm_constants.specs.Pools.{two_bytes}
use Rattle.asm_bytes.specs.Files.{pc_of, class_index, catch_bytes}
use Rattle.asm_bytes.proofs.Appended.{four_parts}
use Rattle.asm_bytes.proofs.catches.push_catch.Goals as goal

pub returns : goal.returns
unfolding catch_bytes
returns c =
    let old = c.args.bytes.now.items in
    let one = c.push_two.new.bytes.items in
    let two = c.push_two-2.new.bytes.items in
    let three = c.push_two-3.new.bytes.items in
    let marks = c.args.marks.now in
    let catch = c.args.catch.now in
    four_parts c.push_caught.result old one two three c.push_caught.new.bytes.items
    (two_bytes (pc_of marks catch.start)) (two_bytes (pc_of marks catch.end)) (two_bytes (pc_of marks catch.handler)) (two_bytes (class_index c.args.pool.now catch.class))
    (c.in_ok-push_two.ensures ∙ ap (λ n. old ++ two_bytes n) c.pc_of.ensures)
    (c.in_ok-push_two-2.ensures ∙ ap (λ n. one ++ two_bytes n) c.pc_of-2.ensures)
    (c.in_ok-push_two-3.ensures ∙ ap (λ n. two ++ two_bytes n) c.pc_of-3.ensures)
    c.push_caught.ensures
