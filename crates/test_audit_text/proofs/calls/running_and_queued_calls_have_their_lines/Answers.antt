use Rattle.std.proofs.Common.{◌∙◌}
use Rattle.test_audit_text.proofs.CallsMade.{is_admitted}
use Rattle.test_audit_text.proofs.calls.running_and_queued_calls_have_their_lines.Goals as goal

pub write_calls-requires : goal.write_calls-requires
write_calls-requires g c = record {
  admitted = is_admitted c.in_ok-system.system c.as_slice.result.now c.in_ok-system.ensures (c.as_slice.ensures.value ∙ c.in_ok-entries.ensures);
}
