use Rattle.std.proofs.Common.{◌≡◌, drop}
use Rattle.jx_base.specs.Basics.{first_some}
use Rattle.link_model.specs.Linking.{own_method}
use Rattle.linker_names.specs.Names.{selector_of}
use Rattle.linker_search.specs.Walked.{distinct_supers}
use Rattle.linker_search.proofs.outline.Outline.method_of_supers.Given as goal

abbrev pub invariant-loop-above : goal.invariant-loop-above
invariant-loop-above l =
    first_some (own_method l.self (selector_of l.member)) (distinct_supers l.self l.class)
    ≡ first_some (own_method l.self (selector_of l.member)) (drop l.above-index l.above-items)
