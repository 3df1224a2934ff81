use Rattle.std.proofs.Common.{sym}
use Rattle.audit_text.proofs.LastEntry.{before_last-reverse, before_last-none}
use Rattle.audit_text.proofs.totals.words_before_last.Goals as goal

pub words_of-requires : goal.words_of-requires
words_of-requires c = rw (before_last-reverse c.args.entries.now c.in-Some.front.now c.in-Some.field-0-0.now c.in-Some.ensures.cases.0) at c.requires

pub returns-in-None : goal.returns-in-None
returns-in-None c = sym (before_last-none c.args.entries.now c.in-None.ensures.cases)

pub returns-in-Some : goal.returns-in-Some
returns-in-Some c = rw (before_last-reverse c.args.entries.now c.in-Some.front.now c.in-Some.field-0-0.now c.in-Some.ensures.cases.0) c.words_of.ensures
