use Rattle.std.proofs.Common.{◌≡◌, ◌++◌, take}
use Rattle.std.specs.List.{filter_map}
use Rattle.link_model.specs.ClassFiles.{used_by}
use Rattle.linker_uses.proofs.file_uses.push_uses_of_body.Given as goal

abbrev pub invariant-loop-instr : goal.invariant-loop-instr
invariant-loop-instr l = l.uses.items ≡ l.initial.uses.items ++ filter_map used_by (take l.instr-index l.body)
