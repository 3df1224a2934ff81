use Rattle.std.proofs.Common.{◌≡◌, ◌^◌, ◌<◌, ℕ, take}
use Rattle.jx_base.specs.declared.program.Selector.{Selector}
use Rattle.linker_search.specs.OwnFields.{before, of_class, static_place}
use Rattle.linker_search.specs.Places.{place_in}
use Rattle.linker_search.proofs.statics.static_places.Given as goal

abbrev pub invariant-loop-number : goal.invariant-loop-number
invariant-loop-number l =
    ((c : ℕ) (x : Selector) → place_in l.places c x ≡ of_class (static_place l.classes x) (take l.number l.classes) c)
    × (l.before ≡ before l.classes l.number) × (l.before < 2 ^ 32)
