-- The frame is one of the system's method.
use Rattle.std.proofs.Common.{subst, length, Option}
use Rattle.std.specs.Prelude.{IfSome}
use Rattle.jx_base.specs.declared.frame.Frame.{Frame}
use Rattle.test_interp_num.specs.Small.{IsFrameWithin}
use Rattle.test_interp_num.proofs.running.run_once.Goals as goal
use Rattle.test_interp_num.proofs.Frames.{is_frame}

pub step_num-step-requires : goal.step_num-step-requires
step_num-step-requires c =
    let within = subst (λ (o : Option Frame). IfSome o (IsFrameWithin c.args.setting.most (length c.args.setting.locals.now))) c.in-Some.is c.in_ok-frame.ensures in
    is_frame c.in_ok-system.system c.in-Some.frame _ _ c.in_ok-system.ensures within
