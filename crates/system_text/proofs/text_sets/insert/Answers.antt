use Rattle.std.proofs.Common.{◌∙◌, sym, ap}
use Rattle.std.specs.Prelude.{not}
use Rattle.system_text.specs.Scan.{texts_at}
use Rattle.system_text.proofs.TextSets.{key_test, with_key}
use Rattle.system_text.proofs.text_sets.insert.Goals as goal

pub returns-clause-added : goal.returns-clause-added
returns-clause-added c = c.in_ok-insert.ensures.added ∙ ap not (sym (key_test c.args.set.now.keys c.args.text.now))

pub returns-clause-texts : goal.returns-clause-texts
returns-clause-texts c = ap texts_at c.in_ok-insert.ensures.keys ∙ with_key c.args.set.now.keys c.args.text
