use Rattle.std.proofs.Common.{◌≡◌}
use Rattle.std.specs.Prelude.{map}
use Rattle.std.specs.List.{range_with_len}
use Rattle.jx_base.specs.Basics.{contains_number}
use Rattle.linker_lists.proofs.template_classes.are_listed.Given as goal

abbrev pub invariant-loop-place : goal.invariant-loop-place
invariant-loop-place l = l.listed.items ≡ map (contains_number l.template.classes) (range_with_len 0 l.place)
