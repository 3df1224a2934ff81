use Rattle.std.proofs.Common.{◌≡◌, ◌∙◌, ap, sym, subst, false, ℕ}
use Rattle.jx_base.specs.declared.frame.Frame.{Frame}
use Rattle.jx_base.specs.declared.row.Row.{Row}
use Rattle.machine_model.specs.ObjectRows.{constant_used_row}
use Rattle.machine_model.specs.State.{class_of_frame}
use Rattle.program_model.specs.Instructions.{index_operand}
use Rattle.program_model.specs.Lookup.{constant_at}
use Rattle.interp_core.specs.declared.step.ObjStep.{ObjStep}
use Rattle.interp_core.specs.declared.step.ObjStep.TheVariants as step
use Rattle.interp_core.specs.Cores.{core_state, running_stack}
use Rattle.interp_core.specs.Steps.{Gives}
use Rattle.interp_obj.specs.ObjectSteps.{is_object_row}
use Rattle.interp_obj.proofs.Stepping.{bad_others, first_is, if_ok_more, no_constant, plain_is, plain_others, used_is, used_others}
use Rattle.interp_obj.proofs.step.step_obj.Goals as goal

pub returns-then-not-uses_constant-clause-row : goal.returns-then-not-uses_constant-clause-row
returns-then-not-uses_constant-clause-row c =
    let core = core_state c.args.core.now in
    let at = c.requires.instr in
    let row = plain_is c.args.system.now core c.args.instr.now c.row_of-row.result at.frame at.callers at.instruction.running c.row_of-row.ensures
    (sym c.uses_constant.ensures ∙ c.if-not-uses_constant.true) in
    subst (Gives c.run_plain.result core (core_state c.run_plain.new.core)) (sym row) c.run_plain.ensures

pub returns-then-not-uses_constant-clause-others : goal.returns-then-not-uses_constant-clause-others
returns-then-not-uses_constant-clause-others c =
    let core = core_state c.args.core.now in
    subst (λ (r : Row). (c.run_plain.result ≡ step.NotMine → is_object_row r ≡ false) × (is_object_row r ≡ false → c.run_plain.result ≡ step.NotMine)) c.row_of-row.ensures
    (plain_others c.args.system.now core c.args.instr.now c.row_of-row.result (running_stack core) c.run_plain.result core (core_state c.run_plain.new.core)
    (sym c.uses_constant.ensures ∙ c.if-not-uses_constant.true) c.run_plain.ensures)

pub returns-in_default-constant_at-clause-row : goal.returns-in_default-constant_at-clause-row
returns-in_default-constant_at-clause-row c =
    let s = c.args.system.now in
    let core = core_state c.args.core.now in
    let at = c.requires.instr in
    let first = first_is core.frames at.callers at.frame c.in-Some.frame.now c.in-Some.ensures at.instruction.running in
    let none = ap (λ (f : Frame). constant_at s (class_of_frame s f) (index_operand c.args.instr.now 0)) first
    ∙ ap (λ (k : ℕ). constant_at s k (index_operand c.args.instr.now 0)) (sym c.class_of_frame-class.ensures)
    ∙ ap (λ (k : ℕ). constant_at s c.class_of_frame-class.result k) (sym c.index_operand.ensures) ∙ sym c.in_default-constant_at.ensures in
    no_constant s core c.args.instr.now c.row_of-row.result at.frame at.callers at.instruction.running c.row_of-row.ensures
    (sym c.uses_constant.ensures ∙ c.if-not-uses_constant.false) none

pub returns-in_default-constant_at-clause-others : goal.returns-in_default-constant_at-clause-others
returns-in_default-constant_at-clause-others c =
    subst (λ (r : Row). (step.BadCode ≡ step.NotMine → is_object_row r ≡ false) × (is_object_row r ≡ false → step.BadCode ≡ step.NotMine)) c.row_of-row.ensures
    (bad_others c.row_of-row.result (sym c.uses_constant.ensures ∙ c.if-not-uses_constant.false))

pub returns : goal.returns
returns c =
    let s = c.args.system.now in
    let core = core_state c.args.core.now in
    let i = c.args.instr.now in
    let at = c.requires.instr in
    let r = c.row_of-row.result in
    let x = c.in-Some-constant_at.constant.now in
    let used = sym c.uses_constant.ensures ∙ c.if-not-uses_constant.false in
    let first = first_is core.frames at.callers at.frame c.in-Some.frame.now c.in-Some.ensures at.instruction.running in
    let some = ap (λ (f : Frame). constant_at s (class_of_frame s f) (index_operand i 0)) first
    ∙ ap (λ (k : ℕ). constant_at s k (index_operand i 0)) (sym c.class_of_frame-class.ensures)
    ∙ ap (λ (k : ℕ). constant_at s c.class_of_frame-class.result k) (sym c.index_operand.ensures) ∙ sym c.in-Some-constant_at.ensures in
    let row = used_is s core i r at.frame at.callers at.instruction.running c.row_of-row.ensures x used some in
    let Ran = λ (a : ObjStep). Gives a core (core_state c.run_with.new.core) (constant_used_row s core r i x (running_stack core)) in
    record {
      row = if_ok_more c.run_with.result Ran _ (λ a h. subst (Gives a core (core_state c.run_with.new.core)) (sym row) h) c.run_with.ensures;
      others =
          if_ok_more c.run_with.result Ran _
          (λ a h. subst (λ (r : Row). (a ≡ step.NotMine → is_object_row r ≡ false) × (is_object_row r ≡ false → a ≡ step.NotMine)) c.row_of-row.ensures
          (used_others s core i r (running_stack core) a core (core_state c.run_with.new.core) x used h))
          c.run_with.ensures;
    }
