use Rattle.std.proofs.Common.{length}
use Rattle.asm_constants.specs.declared.content.Content.TheVariants as content
use Rattle.asm_constants.specs.Pools.{index_of, two_bytes}
use Rattle.asm_bodies.specs.Needs.{code_name}
use Rattle.asm_bytes.specs.Files.{four_bytes, code_bytes}
use Rattle.asm_bytes.proofs.Appended.{two_at_last}
use Rattle.asm_bytes.proofs.methods.push_code.Goals as goal

pub returns : goal.returns
unfolding code_bytes
returns c =
    two_at_last c.push_counted.result c.args.bytes.now.items c.push_two.new.bytes.items c.push_text.new.bytes.items c.push_counted.new.bytes.items
    (two_bytes 1) (two_bytes (index_of c.args.pool.now (content.Utf8 code_name))) (four_bytes (length c.args.attribute.now)) c.args.attribute.now
    c.in_ok-push_two.ensures c.in_ok-push_text.ensures c.push_counted.ensures
