use Rattle.std.proofs.Common.{◌==◌, ◌∙◌, List, drop, find, subst, sym, ap}
use Rattle.std.specs.Option.{option_map}
use Rattle.jx_base.specs.declared.class_file.Instr.{Instr}
use Rattle.interp_core.specs.Cores.{core_state}
use Rattle.machine_steps.proofs.Finding.{finds_is, first_frame, no_method, of_pc}
use Rattle.machine_steps.specs.Stepping.{IsOfPc}
use Rattle.machine_steps.proofs.instructions.next_instr.Goals as goal

pub returns-in_err-method : goal.returns-in_err-method
returns-in_err-method c =
    let s = c.args.system.now in let core = core_state c.args.core.now in let f = c.in_ok-frame.frame.now in
    absurd (no_method s core c.requires.frames f (drop 1 core.frames) (first_frame core.frames f c.in_ok-frame.ensures) (sym c.in_err-method.ensures))

pub returns-in-Some : goal.returns-in-Some
returns-in-Some c =
    let s = c.args.system.now in let core = core_state c.args.core.now in let f = c.in_ok-frame.frame.now in
    of_pc s core c.requires.frames f (drop 1 core.frames) c.in_ok-method.method.now c.in-Some.found.now (first_frame core.frames f c.in_ok-frame.ensures)
    c.requires.listed (sym c.in_ok-method.ensures) (subst (λ (is : List Instr). IsOfPc is f.pc c.in-Some.found.now) c.as_slice-instrs.ensures c.in-Some.ensures)

pub returns-in-None : goal.returns-in-None
returns-in-None c =
    let s = c.args.system.now in let core = core_state c.args.core.now in let f = c.in_ok-frame.frame.now in
    finds_is s core c.requires.frames f (drop 1 core.frames) c.in_ok-method.method.now (option_map (λ i. i.now) c.instr_at.result) (first_frame core.frames f c.in_ok-frame.ensures)
    c.requires.listed c.requires.instructions (sym c.in_ok-method.ensures) (c.instr_at.ensures ∙ ap (λ (is : List Instr). find (λ i. i.pc == f.pc) is) c.as_slice-instrs.ensures)
