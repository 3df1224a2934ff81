use Rattle.std.proofs.Common.{inl, inr, subst}
use Rattle.interp_core.specs.Cores.{core_state}
use Rattle.interp_obj.proofs.Stepping.{if_ok_more}
use Rattle.machine_steps.specs.Stepping.{ComesFrom, HasRun, SteppedAs}
use Rattle.machine_steps.proofs.Steppings.{bad_out, jump_out, next_instr_is, next_out, unread_out, object_out, raise_out, raised_frames}
use Rattle.machine_steps.proofs.stepping.step_frames.Goals as goal

pub returns-in_default : goal.returns-in_default
returns-in_default c = unread_out c.args.system.now (core_state c.args.core.now) (core_state c.args.core.now) c.in_default.ensures

pub raise-requires : goal.raise-requires
raise-requires c =
    let s = c.args.system.now in let i = c.in-Some.instr.now in let old = core_state c.args.core.now in let mid = core_state c.step_running.new.core in
    let run = subst (HasRun s i old mid) c.in-Raise.is c.step_running.ensures in
    record { frames = raised_frames s i old mid c.in-Some.ensures c.in-Raise.class run c.requires.core.core.frames }

pub step_objects-requires-clause-instr : goal.step_objects-requires-clause-instr
step_objects-requires-clause-instr c =
    let s = c.args.system.now in let i = c.in-Some.instr.now in let old = core_state c.args.core.now in let mid = core_state c.step_running.new.core in
    next_instr_is s i old mid c.in-Some.ensures c.requires.instructions (subst (HasRun s i old mid) c.in-NotMine.is c.step_running.ensures)

pub returns-in-Next : goal.returns-in-Next
returns-in-Next c =
    let s = c.args.system.now in let i = c.in-Some.instr.now in let old = core_state c.args.core.now in let mid = core_state c.step_running.new.core in
    elim c.in-Next.is [
      | inl e ↦ next_out s i old mid c.in-Some.ensures (subst (HasRun s i old mid) e c.step_running.ensures)
      | inr e ↦ jump_out s i old mid c.in-Some.ensures e.0 (subst (HasRun s i old mid) e.1 c.step_running.ensures)
    ]

pub returns-in-Raise : goal.returns-in-Raise
returns-in-Raise c =
    let s = c.args.system.now in let i = c.in-Some.instr.now in let old = core_state c.args.core.now in let mid = core_state c.step_running.new.core in
    raise_out s i old mid c.in-Some.ensures c.in-Raise.class (core_state c.raise.new.core) c.raise.result (subst (HasRun s i old mid) c.in-Raise.is c.step_running.ensures) c.raise.ensures

pub returns-in-BadCode : goal.returns-in-BadCode
returns-in-BadCode c =
    let s = c.args.system.now in let i = c.in-Some.instr.now in let old = core_state c.args.core.now in let mid = core_state c.step_running.new.core in
    bad_out s i old mid c.in-Some.ensures mid (subst (HasRun s i old mid) c.in-BadCode.is c.step_running.ensures)

pub returns-in-NotMine : goal.returns-in-NotMine
returns-in-NotMine c =
    let s = c.args.system.now in let i = c.in-Some.instr.now in let old = core_state c.args.core.now in let mid = core_state c.step_running.new.core in
    let new = core_state c.step_objects.new.core in
    let run = subst (HasRun s i old mid) c.in-NotMine.is c.step_running.ensures in
    if_ok_more c.step_objects.result (ComesFrom s i mid new) (SteppedAs s old new) (λ answer h. object_out s i old mid c.in-Some.ensures new answer run h) c.step_objects.ensures
