use Rattle.std.proofs.Common.{map, take}
use Rattle.link_model.specs.declared.uses.Used.{Used}
use Rattle.linker_uses.specs.Constants.{AreMarked}
use Rattle.linker_uses.proofs.constants.marks_of.Given as goal

abbrev pub invariant-loop-used : goal.invariant-loop-used
invariant-loop-used l = AreMarked (map (λ (u : Used). u.index) (take l.used-index l.uses)) l.count l.marks.items
