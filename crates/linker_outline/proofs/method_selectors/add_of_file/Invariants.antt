use Rattle.std.proofs.Common.{◌≡◌, map, take}
use Rattle.jx_base.specs.Basics.{all_added}
use Rattle.program_model.specs.Lookup.{same_selector}
use Rattle.link_model.specs.ClassFiles.{member_selector}
use Rattle.linker_outline.proofs.method_selectors.add_of_file.Given as goal

abbrev pub invariant-loop-member : goal.invariant-loop-member
invariant-loop-member l = l.selectors ≡ all_added same_selector l.initial.selectors (map member_selector (take l.member-index l.file.methods))
