use Rattle.std.proofs.Common.{◌≡◌, refl, sym, subst, drop, Option}
use Rattle.interp_core.specs.Cores.{core_state}
use Rattle.machine_model.specs.AfterEntry.{after_result}
use Rattle.machine_model.specs.ObjectRows.{leaves}
use Rattle.machine_replies.specs.Leaving.{GoesOn, Leaves}
use Rattle.machine_replies.specs.declared.stage.Stage.{Stage as OneStage}
use Rattle.machine_replies.proofs.ComingBack.{bad_left, idle_out, next_left, next_row, none_fits, other_row, stack_behind}
use Rattle.machine_replies.proofs.Takings.{first_frame, no_frame}
use Rattle.machine_replies.proofs.results.come_back.Goals as goal
use Rattle.machine_replies.proofs.results.come_back.Goals.{in-Next, in_default}

pub returns-in_err-running-clause-left : goal.returns-in_err-running-clause-left
returns-in_err-running-clause-left c =
    let s = c.args.system.now in let core = core_state c.args.core.now in let v = c.args.value in
    subst (λ (o : Option OneStage). Leaves core core o (λ st t x. after_result s st t x v)) (sym c.from_residual.ensures) (idle_out s core core v (no_frame core.frames c.in_err-running.ensures) refl)

pub returns-clause-left : goal.returns-clause-left
returns-clause-left c =
    let s = c.args.system.now in let core = core_state c.args.core.now in let new = core_state c.leave.new.core in let v = c.args.value in
    let f = c.in_ok-running.field-0.now in let callers = drop 1 core.frames in
    let first = first_frame core.frames f c.in_ok-running.ensures in
    let row = leaves s core core.store (stack_behind core c.args.taken v) in
    let joined = λ (o : Option OneStage) (e : c.match-leave.result ≡ o) (h : Leaves core new o (λ st t x. after_result s st t x v)).
    subst (λ (o : Option OneStage). Leaves core new o (λ st t x. after_result s st t x v)) (sym e) h in
    elim c.match-leave.branch [
      | in-Next w ↦ joined _ w.result-is (next_left s core new v c.args.taken c.requires.taken f callers first (next_row c.leave.result new row w.in-Next.is c.leave.ensures.row))
      | in_default w ↦ joined _ w.result-is (bad_left s core new v c.args.taken c.requires.taken f callers first (other_row c.leave.result new row w.in_default.not-Next c.leave.ensures.row))
    ]

pub returns-clause-going : goal.returns-clause-going
returns-clause-going c = λ none.
    let s = c.args.system.now in let core = core_state c.args.core.now in let new = core_state c.leave.new.core in let v = c.args.value in
    let f = c.in_ok-running.field-0.now in let callers = drop 1 core.frames in
    let first = first_frame core.frames f c.in_ok-running.ensures in
    let row = leaves s core core.store (stack_behind core c.args.taken v) in
    elim c.match-leave.branch [
      | in-Next w ↦ subst GoesOn (sym w.result-is) tt
      | in_default w ↦ absurd (none_fits s core new v c.args.taken f callers first c.requires.frames none (other_row c.leave.result new row w.in_default.not-Next c.leave.ensures.row))
    ]
