use Rattle.std.proofs.Common.{◌∙◌, sym, drop, length}
use Rattle.interp_core.specs.Cores.{core_state, running_stack, store_of}
use Rattle.machine_model.specs.BuiltInMethods.{built_in_outcome}
use Rattle.interp_obj.proofs.Entries.{interface_unfit, unfit_is_bad}
use Rattle.interp_obj.proofs.running.call_built_in.Goals as goal

pub returns-then-is_interface : goal.returns-then-is_interface
returns-then-is_interface c =
    let core = core_state c.args.core.now in
    unfit_is_bad c.args.system.now core (drop (length c.args.arguments.now) (running_stack core)) (built_in_outcome c.args.system.now (store_of c.args.core.now) c.args.method.now c.args.arguments.now)
    (interface_unfit c.args.system.now (store_of c.args.core.now) c.args.method.now c.args.arguments.now c.requires.system c.requires.built_in (sym c.is_interface.ensures ∙ c.if-is_interface.true))
