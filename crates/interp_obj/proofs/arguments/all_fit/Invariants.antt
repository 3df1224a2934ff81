use Rattle.std.proofs.Common.{◌≡◌, drop}
use Rattle.interp_core.specs.Cores.{store_of}
use Rattle.machine_model.specs.ObjectRows.{all_fit}
use Rattle.program_model.specs.Types.{parameter_types}
use Rattle.interp_obj.proofs.arguments.all_fit.Given as goal

abbrev pub invariant-loop-value : goal.invariant-loop-value
invariant-loop-value l =
    all_fit l.system l.loose (store_of l.core) l.values (parameter_types l.descriptor)
    ≡ all_fit l.system l.loose (store_of l.core) (drop l.value-index l.values) l.parameters.parameters
