use Rattle.std.proofs.Common.{◌∙◌, sym}
use Rattle.system_text.proofs.TextSets.{place_of_key}
use Rattle.system_text.proofs.text_sets.place_of.Goals as goal

pub returns : goal.returns
returns c = c.get_index_of.ensures.index ∙ sym (place_of_key c.args.set.now.keys c.args.text.now)
