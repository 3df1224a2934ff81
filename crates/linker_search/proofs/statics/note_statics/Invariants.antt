use Rattle.std.proofs.Common.{◌≡◌, ◌+◌, ◌==◌, ℕ, None, position, take, if◌then◌else◌}
use Rattle.std.specs.Option.{option_map, option_or}
use Rattle.jx_base.specs.declared.program.Selector.{Selector}
use Rattle.link_model.specs.Linking.{is_field}
use Rattle.linker_search.specs.Places.{place_in}
use Rattle.linker_search.proofs.statics.note_statics.Given as goal

abbrev pub invariant-loop-place : goal.invariant-loop-place
invariant-loop-place l =
    (c : ℕ) (x : Selector) → place_in l.places c x
    ≡ option_or (place_in l.initial.places c x) (if l.class == c then option_map (λ i. l.before + i) (position (is_field x) (take l.place l.statics)) else None)
