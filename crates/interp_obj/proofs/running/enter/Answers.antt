use Rattle.std.proofs.Common.{◌∙◌, ap, sym, refl, drop, length, reverse, List}
use Rattle.interp_core.specs.Cores.{core_state, running_stack}
use Rattle.interp_obj.specs.Calls.{taken}
use Rattle.interp_obj.proofs.Entries.{above_caller, entered, no_frame, overflows}
use Rattle.jx_base.specs.declared.frame.Frame.{Frame}
use Rattle.machine_model.specs.ObjectRows.{Next}
use Rattle.machine_model.specs.State.{is_overflow}
use Rattle.interp_obj.proofs.running.enter.Goals as goal

pub returns-then-is_overflow : goal.returns-then-is_overflow
returns-then-is_overflow c =
    let core = core_state c.args.core.now in (
      overflows c.args.system.now core c.args.method (taken c.args.arguments.now (running_stack core))
          (ap (λ (fs : List Frame). is_overflow c.args.system.now c.args.method (reverse fs)) (sym c.as_slice.ensures.value) ∙ sym c.is_overflow.ensures ∙ c.if-is_overflow.true),
      refl,
    )

pub returns-in_default : goal.returns-in_default
returns-in_default c =
    let core = core_state c.args.core.now in
    no_frame c.args.system.now core c.args.method (taken c.args.arguments.now (running_stack core))
    (ap (λ (fs : List Frame). is_overflow c.args.system.now c.args.method (reverse fs)) (sym c.as_slice.ensures.value) ∙ sym c.is_overflow.ensures ∙ c.if-is_overflow.false) (sym c.in_ok-frame.ensures ∙ c.in_default.is)

pub returns : goal.returns
returns c =
    let core = core_state c.args.core.now in
    entered c.args.system.now core c.args.method (taken c.args.arguments.now (running_stack core)) c.in-Some.frame
    (ap (λ (fs : List Frame). is_overflow c.args.system.now c.args.method (reverse fs)) (sym c.as_slice.ensures.value) ∙ sym c.is_overflow.ensures ∙ c.if-is_overflow.false) (sym c.in_ok-frame.ensures ∙ c.in-Some.is)
    ∙ ap Next (above_caller core (core_state c.take_arguments.new.core) c.in-Some.frame c.take_arguments.new.core.frames.items c.push.new.self.items
    (drop (length c.args.arguments.now) (running_stack core)) c.take_arguments.ensures refl c.in_ok-push.ensures.items)
