use Rattle.std.proofs.Common.{◌+◌, ◌∙◌, ap, List, length}
use Rattle.std.proofs.lemmas.Result.{IfOk-weaker}
use Rattle.jx_base.specs.declared.act.Entry.{Entry}
use Rattle.test_turn_lock.proofs.Numbering.{added_born, added_made}
use Rattle.test_turn_lock.proofs.printers.create.Goals as goal

pub returns-clause-made : goal.returns-clause-made
returns-clause-made g c = IfOk-weaker c.create-born.result _ _ (λ born added. added_made _ _ c.take-list.result _ _ born.0 c.take-list.ensures.entries added c.give.ensures ∙ ap (λ (made : List Entry). length made + 1) c.take-list.ensures.taken.made) c.create-born.ensures.ok

pub returns-clause-born : goal.returns-clause-born
returns-clause-born g c = IfOk-weaker c.create-born.result _ _ (λ born added. (added_born _ _ c.take-list.result _ _ born.0 c.take-list.ensures.entries added c.give.ensures).0) c.create-born.ensures.ok

pub returns-clause-whole : goal.returns-clause-whole
returns-clause-whole g c = IfOk-weaker c.create-born.result _ _ (λ born added. (added_born _ _ c.take-list.result _ _ born.0 c.take-list.ensures.entries added c.give.ensures).1) c.create-born.ensures.ok
