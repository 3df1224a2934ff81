use Rattle.std.proofs.Common.{◌∙◌, Option, ℕ, drop, ap, sym}
use Rattle.std.specs.Option.{unwrap_or}
use Rattle.interp_core.specs.Cores.{core_state}
use Rattle.machine_model.specs.AfterEntry.{site_in}
use Rattle.machine_replies.proofs.Takings.{first_frame, taken_read, taken_unread, takes}
use Rattle.machine_replies.proofs.sites.taken_first.Goals as goal

pub returns-in_default-next_instr : goal.returns-in_default-next_instr
returns-in_default-next_instr c =
    let s = c.args.system.now in let core = core_state c.args.core.now in let f = c.in-Some.frame.now in
    sym (taken_unread s core f (drop 1 core.frames) (first_frame core.frames f c.in-Some.ensures) c.in_default-next_instr.ensures)

pub returns : goal.returns
returns c =
    let s = c.args.system.now in let core = core_state c.args.core.now in let f = c.in-Some.frame.now in let i = c.in-Some-next_instr.instr.now in
    c.unwrap_or.ensures ∙ ap (λ (o : Option ℕ). unwrap_or o 0) c.taken_by.ensures
    ∙ ap (λ (k : ℕ). unwrap_or (takes (site_in s k i)) 0) c.class_of_frame.ensures
    ∙ sym (taken_read s core f (drop 1 core.frames) (first_frame core.frames f c.in-Some.ensures) i c.in-Some-next_instr.ensures)
