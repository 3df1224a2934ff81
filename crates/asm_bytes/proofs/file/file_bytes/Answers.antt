use Rattle.asm_bytes.proofs.Joined.{file_joined}
use Rattle.asm_bytes.proofs.file.file_bytes.Goals as goal

pub returns : goal.returns
returns c =
    file_joined c.args.pool.now c.args.lines.now c.new-bytes.result.items _ _ _ _ _ _ _ c.new-bytes.ensures.items c.in_ok-push_version.ensures
    c.in_ok-push_constants.ensures c.in_ok-push_headings.ensures c.in_ok-push_interfaces.ensures c.in_ok-push_fields.ensures c.in_ok-push_methods.ensures c.in_ok-push_two.ensures
