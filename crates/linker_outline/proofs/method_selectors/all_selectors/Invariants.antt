use Rattle.std.proofs.Common.{◌≡◌, [], ◌++◌, take}
use Rattle.std.specs.Prelude.{flat_map}
use Rattle.jx_base.specs.Basics.{all_added}
use Rattle.program_model.specs.Lookup.{same_selector}
use Rattle.linker_outline.proofs.SelectorLists.{class_selectors, file_selectors}
use Rattle.linker_outline.proofs.method_selectors.all_selectors.Given as goal

abbrev pub invariant-loop-class : goal.invariant-loop-class
invariant-loop-class l = l.selectors ≡ all_added same_selector [] (flat_map class_selectors (take l.class-index l.built_in))

abbrev pub invariant-loop-file : goal.invariant-loop-file
invariant-loop-file l = l.selectors ≡ all_added same_selector [] (flat_map class_selectors l.built_in ++ flat_map file_selectors (take l.file-index l.files))
