use Rattle.std.proofs.Common.{◌∙◌, sym}
use Rattle.system_text.proofs.TextSets.{key_test}
use Rattle.system_text.proofs.text_sets.has_text.Goals as goal

pub returns : goal.returns
returns c = c.contains.ensures ∙ sym (key_test c.args.set.now.keys c.args.text.now)
