use Rattle.std.proofs.Common.{List, reverse, subst, arith}
use Rattle.std.proofs.lemmas.List.{take_all}
use Rattle.jx_base.specs.declared.act.Entry.{Entry}
use Rattle.audit_text.specs.Rendering.{HasReasons}
use Rattle.audit_text.proofs.ReasonTable.{no_reasons, reasons_step}
use Rattle.audit_text.proofs.reasons.EndReasons.after.Goals as goal

pub loop-entry-init : goal.loop-entry-init
loop-entry-init c = no_reasons

pub loop-entry-preserved : goal.loop-entry-preserved
loop-entry-preserved c =
    reasons_step c.args.entries.now c.loop-entry.entry-index c.entry-item.result c.loop-entry.reasons.by_number _ c.entry-item.is (omega arith) c.loop-entry.invariant c.note.ensures

pub returns : goal.returns
returns c =
    subst (λ (entries : List Entry). HasReasons c.loop-entry.reasons.by_number (reverse entries)) (take_all c.loop-entry.entry-index c.args.entries.now (omega arith)) c.loop-entry.invariant
