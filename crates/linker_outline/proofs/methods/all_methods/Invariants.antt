use Rattle.std.proofs.Common.{◌≡◌, [], ◌++◌, length, map, take}
use Rattle.link_model.specs.Linking.{built_in_sources_from, file_sources_from, linked_method}
use Rattle.linker_outline.proofs.methods.all_methods.Given as goal

abbrev pub invariant-loop-place : goal.invariant-loop-place
invariant-loop-place l = l.methods.items ≡ map (linked_method l.selectors) ([] ++ built_in_sources_from 0 (take l.place l.built_in))

abbrev pub invariant-loop-place-2 : goal.invariant-loop-place-2
invariant-loop-place-2 l =
    l.methods.items
    ≡ map (linked_method l.selectors) (built_in_sources_from 0 l.built_in ++ file_sources_from (length l.built_in) (take l.place l.files))
