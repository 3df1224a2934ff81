use Rattle.std.proofs.Common.{◌∙◌, sym, subst}
use Rattle.interp_core.specs.Cores.{core_state}
use Rattle.interp_core.specs.Steps.{Gives}
use Rattle.interp_obj.proofs.Returned.{void_fit, void_unfit, void_untyped}
use Rattle.interp_obj.proofs.returns.return_void.Goals as goal

pub returns-in_default : goal.returns-in_default
returns-in_default c = void_untyped c.args.system.now (core_state c.args.core.now) (sym c.in_default.ensures)

pub returns-then-is_void : goal.returns-then-is_void
returns-then-is_void c =
    let core = core_state c.args.core.now in
    let row = void_fit c.args.system.now core c.in-Some.result.now (sym c.in-Some.ensures) (sym c.is_void.ensures ∙ c.if-is_void.true) in
    subst (Gives c.return_to_caller.result core (core_state c.return_to_caller.new.core)) (sym row) c.return_to_caller.ensures

pub returns-else-is_void : goal.returns-else-is_void
returns-else-is_void c =
    void_unfit c.args.system.now (core_state c.args.core.now) c.in-Some.result.now (sym c.in-Some.ensures) (sym c.is_void.ensures ∙ c.if-is_void.false)
