use Rattle.std.proofs.Common.{◌∙◌, sym, rules}
use Rattle.std.specs.Str.{bytes_eq}
use Rattle.std.proofs.lemmas.Iterator.{YieldsList-from_slice}
use Rattle.std.proofs.lemmas.Iterator.Search.{any_from_yields_List}
use Rattle.system_text.specs.Keys.{has_text}
use Rattle.system_text.proofs.Repeats.{list_any-map}
use Rattle.system_text.proofs.texts.is_among.Goals as goal

pub returns : goal.returns
unfolding has_text
returns c =
    any_from_yields_List (λ other. bytes_eq c.args.text.now other.now) _ _ _ c.any.ensures.ran (YieldsList-from_slice c.args.others.now cc) (λ x b q k. search rules)
    ∙ sym (list_any-map (bytes_eq c.args.text.now) (λ other. other.now) c.args.others.now)
