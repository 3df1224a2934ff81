use Rattle.std.proofs.Common.{◌≡◌, ◌-◌, false, map, take}
use Rattle.std.specs.List.{flat_map}
use Rattle.jx_base.specs.Basics.{contains_number}
use Rattle.program_model.specs.Lookup.{supers_within}
use Rattle.program_types.specs.Vain.{AreVain}
use Rattle.program_types.proofs.classes.+reaches.Given as goal

abbrev pub decreases-reaches : goal.decreases-reaches
decreases-reaches l = l.steps

abbrev pub invariant-loop-interface : goal.invariant-loop-interface
invariant-loop-interface l =
    (contains_number (flat_map (supers_within l.system (l.steps - 1)) (map (λ i. i.0) (take l.interface-index l.interfaces))) l.above ≡ false)
    × AreVain l.system l.above l.vain
