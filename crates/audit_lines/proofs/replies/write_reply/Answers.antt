use mir.Syntax.{w32}
use mir.Val.{SFits}
use Rattle.std.proofs.Common.{rules}
use Rattle.std.proofs.lemmas.Int.{to_z-of_z}
use Rattle.audit_model.specs.Audit.{reply_word, reply_operands}
use Rattle.audit_lines.specs.LineParts.{asked_text, spaced_reply}
use Rattle.audit_lines.proofs.replies.write_reply.Goals as goal

pub returns-in-Done : goal.returns-in-Done
unfolding spaced_reply asked_text reply_word reply_operands
returns-in-Done g c = rw (c.in-Done.is) c.write_alone.ensures

pub returns-in-Service : goal.returns-in-Service
unfolding spaced_reply asked_text reply_word reply_operands
returns-in-Service g c = rw (c.in-Service.is) c.write_number.ensures

pub returns-in-NoName : goal.returns-in-NoName
unfolding spaced_reply asked_text reply_word reply_operands
returns-in-NoName g c = rw (c.in-NoName.is) c.write_alone-in-NoName.ensures

pub returns-in-Queued : goal.returns-in-Queued
unfolding spaced_reply asked_text reply_word reply_operands
returns-in-Queued g c = rw (c.in-Queued.is) c.write_number-in-Queued.ensures

pub returns-in-Job : goal.returns-in-Job
unfolding spaced_reply asked_text reply_word reply_operands
returns-in-Job g c = rw (c.in-Job.is) c.write_asked.ensures

pub returns-in-Value : goal.returns-in-Value
unfolding spaced_reply asked_text reply_word reply_operands
returns-in-Value g c = rw (c.in-Value.is) c.write_carried.ensures

pub returns-in-Thrown : goal.returns-in-Thrown
unfolding spaced_reply asked_text reply_word reply_operands
returns-in-Thrown g c = rw (c.in-Thrown.is) c.write_carried-in-Thrown.ensures

pub returns-in-CopyFailed : goal.returns-in-CopyFailed
unfolding spaced_reply asked_text reply_word reply_operands
returns-in-CopyFailed g c = rw (c.in-CopyFailed.is) c.write_alone-in-CopyFailed.ensures

pub returns-in-Ended : goal.returns-in-Ended
unfolding spaced_reply asked_text reply_word reply_operands
returns-in-Ended g c = rw (c.in-Ended.is) c.write_alone-in-Ended.ensures

pub returns-in-Number : goal.returns-in-Number
unfolding spaced_reply asked_text reply_word reply_operands
returns-in-Number g c =
    let fits : SFits w32 c.in-Number.value = search rules in
    let written = simp to_z-of_z at c.write_signed.ensures in
    rw (c.in-Number.is) written

pub returns-in-Made : goal.returns-in-Made
unfolding spaced_reply asked_text reply_word reply_operands
returns-in-Made g c = rw (c.in-Made.is) c.write_placed.ensures

pub returns-in-Object : goal.returns-in-Object
unfolding spaced_reply asked_text reply_word reply_operands
returns-in-Object g c = rw (c.in-Object.is) c.write_number-in-Object.ensures

pub returns-in-Pair : goal.returns-in-Pair
unfolding spaced_reply asked_text reply_word reply_operands
returns-in-Pair g c = rw (c.in-Pair.is) c.write_pair.ensures

pub returns-in-Domain : goal.returns-in-Domain
unfolding spaced_reply asked_text reply_word reply_operands
returns-in-Domain g c = rw (c.in-Domain.is) c.write_placed-in-Domain.ensures

pub returns-in-Refused : goal.returns-in-Refused
unfolding spaced_reply asked_text reply_word reply_operands
returns-in-Refused g c = rw (c.in-Refused.is, ← c.refusal_word.ensures) c.write_alone-in-Refused.ensures
