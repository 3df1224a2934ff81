use Rattle.std.proofs.Common.{◌≡◌, ◌++◌, ◌-◌}
use Rattle.std.specs.Prelude.{filter}
use Rattle.machine_start.specs.Found.{is_loaded}
use Rattle.program_model.specs.Lookup.{chain_of, chain_within}
use Rattle.machine_start.proofs.classes.loaded_chain.Given as goal

abbrev pub invariant-loop : goal.invariant-loop
invariant-loop l =
    filter is_loaded (chain_of l.system l.class)
    ≡ l.chain.items ++ filter is_loaded (chain_within l.system (l.end - l.counter) l.next)
