use Rattle.std.proofs.Common.{◌≡◌, inl, inr, sym, ap, subst}
use Rattle.std.specs.List.{All}
use Rattle.machine_model.specs.Conditions.{IsFrameOf}
use Rattle.machine_model.specs.ObjectRows.{object_row}
use Rattle.interp_core.specs.Cores.{core_state}
use Rattle.interp_core.specs.Steps.{Gives}
use Rattle.interp_core.specs.declared.step.ObjStep.{ObjStep}
use Rattle.interp_core.specs.declared.step.ObjStep.TheVariants as step
use Rattle.machine_steps.specs.declared.stepping.Stepped.TheVariants as stepped
use Rattle.machine_steps.proofs.Steppings.{ask_from, bad_from, finish_from, joined, kept_frames, next_from, other_from, raise_from, raised_from}
use Rattle.machine_steps.proofs.stepping.step_objects.Goals as goal
use Rattle.machine_steps.proofs.stepping.step_objects.Goals.{in-Next, in-Raise, in-Raised, in-Ask, in-Finish, in-BadCode}

pub throw_object-requires : goal.throw_object-requires
throw_object-requires c =
    let s = c.args.system.now in let i = c.args.instr.now in let old = core_state c.args.core.now in let mid = core_state c.step_obj.new.core in
    let row = subst (λ (a : ObjStep). Gives a old mid (object_row s old i)) c.in-Raised.is c.in_ok-step_obj.ensures.row in
    record { frames = subst (All (IsFrameOf s)) (sym (kept_frames s i old mid c.in-Raised.object mid row)) c.requires.core.core.frames }

pub returns : goal.returns
returns c =
    let s = c.args.system.now in let i = c.args.instr.now in let old = core_state c.args.core.now in let mid = core_state c.step_obj.new.core in
    let other = core_state c.match-branch-2.core in let said = c.match-branch-2.result in
    let row = c.in_ok-step_obj.ensures.row in
    let given = λ (a : ObjStep) (e : c.in_ok-step_obj.field-0 ≡ a). subst (λ (a : ObjStep). Gives a old mid (object_row s old i)) e row in
    elim c.match-branch-2.branch [
      | in-Next w ↦ joined s i old mid other stepped.Going said (ap core_state w.core-is) w.result-is (next_from s i old mid (given step.Next w.in-Next.is))
      | in-Raise w ↦
          let h = given (step.Raise w.in-Raise.class) w.in-Raise.is in
          joined s i old (core_state w.raise.new.core) other w.raise.result said (ap core_state w.core-is) w.result-is
          (raise_from s i old (core_state w.raise.new.core) w.in-Raise.class.0 mid w.raise.result h.0 h.1 w.raise.ensures)
      | in-Raised w ↦
          let h = given (step.Raised w.in-Raised.object) w.in-Raised.is in
          joined s i old (core_state w.throw_object.new.core) other w.throw_object.result said (ap core_state w.core-is) w.result-is
          (raised_from s i old (core_state w.throw_object.new.core) w.in-Raised.object mid w.throw_object.result h w.throw_object.ensures.store w.throw_object.ensures.thrown)
      | in-Ask w ↦
          let h = given (step.Ask w.in-Ask.act) w.in-Ask.is in
          joined s i old mid other (stepped.Asks w.in-Ask.act) said (ap core_state w.core-is) w.result-is (ask_from s i old mid w.in-Ask.act h.0 h.1)
      | in-Finish w ↦ joined s i old mid other (stepped.Returned w.in-Finish.value) said (ap core_state w.core-is) w.result-is (finish_from s i old mid w.in-Finish.value (given (step.Finish w.in-Finish.value) w.in-Finish.is))
      | in-BadCode w ↦ joined s i old mid other stepped.BadCode said (ap core_state w.core-is) w.result-is
          (elim w.in-BadCode.is [
            | inl e ↦ bad_from s i old mid (given step.BadCode e)
            | inr e ↦ other_from s i old mid (given step.NotMine e).0
          ])
    ]
