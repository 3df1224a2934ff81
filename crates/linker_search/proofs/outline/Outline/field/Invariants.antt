use Rattle.std.proofs.Common.{◌≡◌, drop}
use Rattle.jx_base.specs.Basics.{first_some}
use Rattle.link_model.specs.Linking.{own_field}
use Rattle.linker_names.specs.Names.{selector_of}
use Rattle.linker_search.specs.Walked.{distinct_supers}
use Rattle.linker_search.proofs.outline.Outline.field.Given as goal

abbrev pub invariant-loop-above : goal.invariant-loop-above
invariant-loop-above l =
    first_some (own_field l.self (selector_of l.member)) (distinct_supers l.self l.class)
    ≡ first_some (own_field l.self (selector_of l.member)) (drop l.above-index l.above-items)
