use Rattle.std.proofs.Common.{◌≡◌, ◌-◌}
use Rattle.jx_base.specs.Basics.{first_some}
use Rattle.link_model.specs.Linking.{own_method}
use Rattle.linker_names.specs.Names.{selector_of}
use Rattle.program_model.specs.Lookup.{chain_of, chain_within}
use Rattle.linker_search.proofs.outline.Outline.method_of_chain.Given as goal

abbrev pub invariant-loop : goal.invariant-loop
invariant-loop l =
    first_some (own_method l.self (selector_of l.member)) (chain_of l.self l.class)
    ≡ first_some (own_method l.self (selector_of l.member)) (chain_within l.self (l.end - l.counter) l.next)
