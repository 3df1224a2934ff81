use Rattle.std.proofs.Common.{◌≡◌, map, take}
use Rattle.jx_base.specs.Basics.{all_added}
use Rattle.program_model.specs.Lookup.{same_selector}
use Rattle.linker_outline.proofs.method_selectors.add_of_class.Given as goal

abbrev pub invariant-loop-method : goal.invariant-loop-method
invariant-loop-method l = l.selectors ≡ all_added same_selector l.initial.selectors (map (λ m. m.selector) (take l.method-index l.class.methods))
