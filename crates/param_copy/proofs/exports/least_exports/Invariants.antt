use Rattle.std.proofs.Common.{take}
use Rattle.param_copy.specs.Exports.{LeadsToLeast}
use Rattle.param_copy.proofs.exports.least_exports.Given as goal

abbrev pub invariant-loop-export : goal.invariant-loop-export
invariant-loop-export l = LeadsToLeast l.by_object (take l.export-index l.exports)
