use Rattle.std.proofs.Common.{◌≡◌, ℕ, take}
use Rattle.jx_base.specs.declared.program.Selector.{Selector}
use Rattle.linker_search.specs.OwnFields.{instance_place, of_class}
use Rattle.linker_search.specs.Places.{place_in}
use Rattle.linker_search.proofs.instances.instance_places.Given as goal

abbrev pub invariant-loop-number : goal.invariant-loop-number
invariant-loop-number l = (c : ℕ) (x : Selector) → place_in l.places c x ≡ of_class (instance_place x) (take l.number l.classes) c
