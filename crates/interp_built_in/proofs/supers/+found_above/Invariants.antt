use Rattle.std.proofs.Common.{◌≡◌, ◌-◌, false, map, take}
use Rattle.std.specs.List.{flat_map}
use Rattle.jx_base.specs.Basics.{contains_number}
use Rattle.program_model.specs.Lookup.{supers_within}
use Rattle.interp_built_in.proofs.supers.+found_above.Given as goal

abbrev pub decreases-found_above : goal.decreases-found_above
decreases-found_above l = l.steps

abbrev pub invariant-loop-interface : goal.invariant-loop-interface
invariant-loop-interface l =
    contains_number (flat_map (supers_within l.system (l.steps - 1)) (map (λ i. i.0) (take l.interface-index l.interfaces))) l.above ≡ false
