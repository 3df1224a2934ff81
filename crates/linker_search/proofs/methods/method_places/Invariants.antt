use Rattle.std.proofs.Common.{◌≡◌, ℕ, position, take}
use Rattle.jx_base.specs.declared.program.Selector.{Selector}
use Rattle.link_model.specs.Linking.{is_method_of}
use Rattle.linker_search.specs.Places.{place_in}
use Rattle.linker_search.proofs.methods.method_places.Given as goal

abbrev pub invariant-loop-place : goal.invariant-loop-place
invariant-loop-place l = (c : ℕ) (x : Selector) → place_in l.places c x ≡ position (is_method_of l.system x c) (take l.place l.methods)
