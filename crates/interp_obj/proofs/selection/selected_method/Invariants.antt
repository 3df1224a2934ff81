use Rattle.std.proofs.Common.{◌≡◌, ◌-◌}
use Rattle.jx_base.specs.Basics.{first_some}
use Rattle.program_model.specs.Lookup.{chain_of, chain_within, instance_method}
use Rattle.interp_obj.proofs.selection.selected_method.Given as goal

abbrev pub invariant-loop : goal.invariant-loop
invariant-loop l =
    first_some (instance_method l.system l.selector) (chain_of l.system l.class)
    ≡ first_some (instance_method l.system l.selector) (chain_within l.system (l.end - l.counter) l.next)
