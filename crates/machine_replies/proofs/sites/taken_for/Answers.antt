use Rattle.std.proofs.Common.{arith}
use Rattle.interp_obj.proofs.Fitting.{types_within}
use Rattle.machine_replies.proofs.sites.taken_for.Goals as goal

pub overflow_add-result : goal.overflow_add-result
overflow_add-result c = record { fits = omega (arith, c.parameter_count-count.ensures, types_within c.args.descriptor.now) }
