use Rattle.std.proofs.Common.{◌∙◌, sym, ap, position}
use Rattle.program_model.specs.Lookup.{same_selector}
use Rattle.linker_names.specs.Names.{selector_of}
use Rattle.linker_outline.proofs.SelectorKeys.{place_of_key}
use Rattle.linker_outline.proofs.selectors.Selectors.find.Goals as goal

pub returns-clause-place : goal.returns-clause-place
returns-clause-place c =
    c.get_index_of.ensures.index
    ∙ sym (place_of_key (selector_of c.args.member) c.self.inside.keys.keys)
    ∙ ap (position (same_selector (selector_of c.args.member))) c.self.view_is
