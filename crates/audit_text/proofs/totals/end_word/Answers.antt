use Rattle.std.proofs.Common.{sym, ◌∙◌, refl}
use Rattle.audit_model.specs.AuditText.{end_word_of}
use Rattle.audit_text.proofs.LastEntry.{end_word-none, end_word-last, end_word-open}
use Rattle.audit_text.proofs.totals.end_word.Goals as goal

pub returns-in-None : goal.returns-in-None
returns-in-None c = sym (end_word-none c.args.entries.now c.in-None.ensures.cases)

pub returns-in-Quiet : goal.returns-in-Quiet
unfolding end_word_of
returns-in-Quiet c =
    rw (end_word-last c.args.entries.now c.in-Some.field-0-1.now c.in-Some.last.now c.in-Some.ensures.cases.0, c.in-Quiet.is) refl

pub returns-in-Halt : goal.returns-in-Halt
unfolding end_word_of
returns-in-Halt c =
    rw (end_word-last c.args.entries.now c.in-Some.field-0-1.now c.in-Some.last.now c.in-Some.ensures.cases.0, c.in-Halt.is) refl

pub returns-in_default : goal.returns-in_default
returns-in_default c =
    let last = c.in-Some.last.now in
    sym (end_word-last c.args.entries.now c.in-Some.field-0-1.now last c.in-Some.ensures.cases.0 ∙ end_word-open last.act c.in_default.not-Quiet c.in_default.not-Halt)
