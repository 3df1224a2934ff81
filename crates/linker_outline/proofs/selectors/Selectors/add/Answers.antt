use Rattle.std.proofs.Common.{◌∙◌, ap, refl, map}
use Rattle.jx_base.specs.Basics.{added}
use Rattle.program_model.specs.Lookup.{same_selector}
use Rattle.linker_outline.specs.Keys.{selector_of_key}
use Rattle.linker_outline.proofs.SelectorKeys.{key_added}
use Rattle.linker_outline.proofs.selectors.Selectors.add.Goals as goal

pub returns : goal.returns
returns c =
    ap (map selector_of_key) c.in_ok-insert.ensures.keys
    ∙ key_added c.args.selector _ c.self.inside.keys.keys refl
    ∙ ap (λ xs. added same_selector xs c.args.selector) c.self.view_is
