use Rattle.std.proofs.Common.{◌∙◌, sym, ap}
use Rattle.std.specs.Prelude.{flat_map}
use Rattle.std.specs.Char.Escape.{encode_utf16}
use Rattle.std.proofs.lemmas.Iterator.{YieldsList-from_chars}
use Rattle.std.proofs.lemmas.Iterator.Consumers.{YieldsList-end}
use Rattle.std.proofs.lemmas.List.{map-id}
use Rattle.system_text.specs.Keys.{units_of}
use Rattle.system_text.proofs.texts.units_of.Goals as goal

pub returns : goal.returns
unfolding units_of
returns c =
    let all = YieldsList-end (YieldsList-from_chars c.args.text.now c.utf8.text cc) c.loop-character.yielded _ c.loop-character.yielded_by _ _ c.in-None.is c.next.ensures.steps in
    c.from_vec.ensures ∙ (c.loop-character.invariant ∙ ap (flat_map encode_utf16) (sym (map-id c.loop-character.yielded) ∙ all.0))
