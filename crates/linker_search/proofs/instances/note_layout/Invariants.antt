use Rattle.std.proofs.Common.{◌≡◌, ◌==◌, ℕ, None, position, take, if◌then◌else◌}
use Rattle.std.specs.Option.{option_or}
use Rattle.jx_base.specs.declared.program.Selector.{Selector}
use Rattle.linker_search.specs.OwnFields.{is_own}
use Rattle.linker_search.specs.Places.{place_in}
use Rattle.linker_search.proofs.instances.note_layout.Given as goal

abbrev pub invariant-loop-place : goal.invariant-loop-place
invariant-loop-place l =
    (c : ℕ) (x : Selector) → place_in l.places c x
    ≡ option_or (place_in l.initial.places c x) (if l.class == c then position (is_own x c) (take l.place l.layout) else None)
