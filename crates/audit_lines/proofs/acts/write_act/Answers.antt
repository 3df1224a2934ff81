use mir.Syntax.{w32}
use mir.Val.{SFits}
use Rattle.std.proofs.Common.{rules}
use Rattle.std.proofs.lemmas.Int.{to_z-of_z}
use Rattle.audit_model.specs.Audit.{act_word, act_operands}
use Rattle.audit_lines.specs.LineParts.{asked_text, spaced_act}
use Rattle.audit_lines.proofs.acts.write_act.Goals as goal

pub returns-in-Create : goal.returns-in-Create
unfolding spaced_act asked_text act_word act_operands
returns-in-Create g c = rw (c.in-Create.is, ← c.template_name.ensures) c.write_text.ensures

pub returns-in-Print : goal.returns-in-Print
unfolding spaced_act asked_text act_word act_operands
returns-in-Print g c = rw (c.in-Print.is, ← c.as_slice.ensures) c.write_text-in-Print.ensures

pub returns-in-Export : goal.returns-in-Export
unfolding spaced_act asked_text act_word act_operands
returns-in-Export g c = rw (c.in-Export.is) c.write_export.ensures

pub returns-in-Bind : goal.returns-in-Bind
unfolding spaced_act asked_text act_word act_operands
returns-in-Bind g c = rw (c.in-Bind.is, ← c.as_slice-in-Bind.ensures) c.write_bind.ensures

pub returns-in-Lookup : goal.returns-in-Lookup
unfolding spaced_act asked_text act_word act_operands
returns-in-Lookup g c = rw (c.in-Lookup.is, ← c.as_slice-in-Lookup.ensures) c.write_text-in-Lookup.ensures

pub returns-in-Call : goal.returns-in-Call
unfolding spaced_act asked_text act_word act_operands
returns-in-Call g c = rw (c.in-Call.is) c.write_asked.ensures

pub returns-in-Take : goal.returns-in-Take
unfolding spaced_act asked_text act_word act_operands
returns-in-Take g c = rw (c.in-Take.is) c.write_number.ensures

pub returns-in-Return : goal.returns-in-Return
unfolding spaced_act asked_text act_word act_operands
returns-in-Return g c = rw (c.in-Return.is) c.write_answer.ensures

pub returns-in-Throw : goal.returns-in-Throw
unfolding spaced_act asked_text act_word act_operands
returns-in-Throw g c = rw (c.in-Throw.is) c.write_answer-in-Throw.ensures

pub returns-in-Resume : goal.returns-in-Resume
unfolding spaced_act asked_text act_word act_operands
returns-in-Resume g c = rw (c.in-Resume.is) c.write_number-in-Resume.ensures

pub returns-in-Spawn : goal.returns-in-Spawn
unfolding spaced_act asked_text act_word act_operands
returns-in-Spawn g c = rw (c.in-Spawn.is, ← c.as_slice-in-Spawn.ensures) c.write_text-in-Spawn.ensures

pub returns-in-Kill : goal.returns-in-Kill
unfolding spaced_act asked_text act_word act_operands
returns-in-Kill g c =
    let fits : SFits w32 c.in-Kill.domain = search rules in
    let written = simp to_z-of_z at c.write_signed.ensures in
    rw (c.in-Kill.is) written

pub returns-in-Exit : goal.returns-in-Exit
unfolding spaced_act asked_text act_word act_operands
returns-in-Exit g c =
    let fits : SFits w32 c.in-Exit.code = search rules in
    let written = simp to_z-of_z at c.write_signed-in-Exit.ensures in
    rw (c.in-Exit.is) written

pub returns-in-EndThread : goal.returns-in-EndThread
unfolding spaced_act asked_text act_word act_operands
returns-in-EndThread g c = rw (c.in-EndThread.is) c.write_end_thread.ensures

pub returns-in-End : goal.returns-in-End
unfolding spaced_act asked_text act_word act_operands
returns-in-End g c = rw (c.in-End.is) c.write_end.ensures

pub returns-in-Go : goal.returns-in-Go
unfolding spaced_act asked_text act_word act_operands
returns-in-Go g c = rw (c.in-Go.is) c.write_alone.ensures

pub returns-in-Yield : goal.returns-in-Yield
unfolding spaced_act asked_text act_word act_operands
returns-in-Yield g c = rw (c.in-Yield.is) c.write_alone-in-Yield.ensures

pub returns-in-Quiet : goal.returns-in-Quiet
unfolding spaced_act asked_text act_word act_operands
returns-in-Quiet g c = rw (c.in-Quiet.is) c.write_alone-in-Quiet.ensures

pub returns-in-Halt : goal.returns-in-Halt
unfolding spaced_act asked_text act_word act_operands
returns-in-Halt g c = rw (c.in-Halt.is) c.write_alone-in-Halt.ensures

pub returns-in-Alloc : goal.returns-in-Alloc
unfolding spaced_act asked_text act_word act_operands
returns-in-Alloc g c =
    let fits : SFits w32 c.in-Alloc.size = search rules in
    let written = simp to_z-of_z at c.write_signed-in-Alloc.ensures in
    rw (c.in-Alloc.is) written

pub returns-in-Size : goal.returns-in-Size
unfolding spaced_act asked_text act_word act_operands
returns-in-Size g c = rw (c.in-Size.is) c.write_number-in-Size.ensures

pub returns-in-Get : goal.returns-in-Get
unfolding spaced_act asked_text act_word act_operands
returns-in-Get g c =
    let fits : SFits w32 c.in-Get.at = search rules in
    let written = simp to_z-of_z at c.write_get.ensures in
    rw (c.in-Get.is) written

pub returns-in-Set : goal.returns-in-Set
unfolding spaced_act asked_text act_word act_operands
returns-in-Set g c =
    let at_fits : SFits w32 c.in-Set.at = search rules in
    let value_fits : SFits w32 c.in-Set.value = search rules in
    let written = simp to_z-of_z at c.write_set.ensures in
    rw (c.in-Set.is) written

pub returns-in-Fill : goal.returns-in-Fill
unfolding spaced_act asked_text act_word act_operands
returns-in-Fill g c =
    let at_fits : SFits w32 c.in-Fill.at = search rules in
    let count_fits : SFits w32 c.in-Fill.count = search rules in
    let written = simp to_z-of_z at c.write_fill.ensures in
    rw (c.in-Fill.is) written

pub returns-in-Copy : goal.returns-in-Copy
unfolding spaced_act asked_text act_word act_operands
returns-in-Copy g c =
    let at_fits : SFits w32 c.in-Copy.at = search rules in
    let target_at_fits : SFits w32 c.in-Copy.target_at = search rules in
    let count_fits : SFits w32 c.in-Copy.count = search rules in
    let written = simp to_z-of_z at c.write_copy.ensures in
    rw (c.in-Copy.is) written

pub returns-in-Sub : goal.returns-in-Sub
unfolding spaced_act asked_text act_word act_operands
returns-in-Sub g c =
    let at_fits : SFits w32 c.in-Sub.at = search rules in
    let count_fits : SFits w32 c.in-Sub.count = search rules in
    let written = simp to_z-of_z at c.write_sub.ensures in
    rw (c.in-Sub.is) written

pub returns-in-Split : goal.returns-in-Split
unfolding spaced_act asked_text act_word act_operands
returns-in-Split g c =
    let fits : SFits w32 c.in-Split.at = search rules in
    let written = simp to_z-of_z at c.write_split.ensures in
    rw (c.in-Split.is) written

pub returns-in-Revoke : goal.returns-in-Revoke
unfolding spaced_act asked_text act_word act_operands
returns-in-Revoke g c = rw (c.in-Revoke.is) c.write_number-in-Revoke.ensures

pub returns-in-Release : goal.returns-in-Release
unfolding spaced_act asked_text act_word act_operands
returns-in-Release g c = rw (c.in-Release.is) c.write_number-in-Release.ensures
