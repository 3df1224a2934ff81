use Rattle.std.proofs.Common.{◌∙◌, ℕ, drop, ap, sym}
use Rattle.interp_core.specs.Cores.{core_state}
use Rattle.machine_model.specs.AfterEntry.{site_in}
use Rattle.machine_replies.proofs.Takings.{first_frame}
use Rattle.machine_replies.proofs.Expecting.{result_at, result_read, result_unread}
use Rattle.machine_replies.proofs.sites.result_first.Goals as goal

pub returns-in_err-instr : goal.returns-in_err-instr
returns-in_err-instr c =
    let s = c.args.system.now in let core = core_state c.args.core.now in let f = c.in_ok-frame.frame.now in
    rw c.from_residual-in_err-instr.ensures (sym (result_unread s core f (drop 1 core.frames) (first_frame core.frames f c.in_ok-frame.ensures) c.in_err-instr.ensures))

pub returns : goal.returns
returns c =
    let s = c.args.system.now in let core = core_state c.args.core.now in let f = c.in_ok-frame.frame.now in let i = c.in_ok-instr.instr.now in
    c.result_by.ensures ∙ ap (λ (k : ℕ). result_at (site_in s k i)) c.class_of_frame.ensures
    ∙ sym (result_read s core f (drop 1 core.frames) (first_frame core.frames f c.in_ok-frame.ensures) i c.in_ok-instr.ensures)
