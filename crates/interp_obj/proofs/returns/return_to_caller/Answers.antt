use Rattle.std.proofs.Common.{subst, arith, reverse}
use Rattle.std.proofs.lemmas.Bool.Decides.{nat_tests}
use Rattle.std.proofs.lemmas.List.Elements.{All-rest}
use Rattle.machine_model.specs.Conditions.{IsFrameOf}
use Rattle.machine_model.specs.ObjectRows.{ObjectOutcome}
use Rattle.interp_core.specs.Cores.{core_state}
use Rattle.interp_core.specs.Steps.{Leaves}
use Rattle.interp_core.proofs.Leavings.{last_first}
use Rattle.interp_obj.proofs.Entries.{leaves_gives}
use Rattle.interp_obj.proofs.Returned.{goes_on_below, none_below}
use Rattle.machine_model.specs.ObjectRows as Spec
use Rattle.interp_obj.proofs.returns.return_to_caller.Goals as goal

pub leave-requires-clause-frames : goal.leave-requires-clause-frames
leave-requires-clause-frames c =
    let f = c.in-Some._returned in
    let front = c.pop.new.self.items in
    All-rest (IsFrameOf c.args.system.now) f (reverse front) (core_state c.args.core.now).frames (last_first c.args.core.now.frames.items front f c.in-Some.ensures.items)
    c.requires.core.frames

pub returns : goal.returns
returns c =
    let s = c.args.system.now in
    let core = core_state c.args.core.now in
    let f = c.in-Some._returned in
    let front = c.pop.new.self.items in
    let row = goes_on_below s core f (reverse front) c.args.value (last_first c.args.core.now.frames.items front f c.in-Some.ensures.items) (λ e. none_below front e (grind (arith, nat_tests, c.is_empty.ensures, c.if-is_empty.false))) in
    leaves_gives c.leave.result core (core_state c.leave.new.core) (Spec.return_row s core c.args.value)
    (subst (Leaves c.leave.result (core_state c.leave.new.core)) row c.leave.ensures.row)
