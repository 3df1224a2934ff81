use Rattle.std.proofs.Common.{◌∙◌, ◌-◌, List, ℕ, length, option_map, sym, ap}
use Rattle.interp_core.specs.Behind.{behind_instruction}
use Rattle.interp_core.proofs.BehindParts.{place_is, none_past, within, past, bytes_are}
use Rattle.interp_core.proofs.behind.place_behind.Goals as goal

pub returns-in_err-bytes : goal.returns-in_err-bytes
returns-in_err-bytes c = c.from_residual.ensures ∙ sym (none_past c.args.code.now c.args.pc (past c.args.pc c.args.code.now (sym c.in_err-bytes.ensures)))

pub returns-in_err-rest : goal.returns-in_err-rest
returns-in_err-rest c =
    let code = c.args.code.now in
    let bytes = bytes_are c.args.pc code c.in_ok-bytes.bytes.now (sym c.in_ok-bytes.ensures) in
    let none = c.in_err-rest.ensures ∙ ap (behind_instruction c.args.pc) bytes in
    c.from_residual-in_err-rest.ensures ∙ sym (place_is code c.args.pc ∙ ap (option_map (λ (r : List ℕ). length code - length r)) (sym none))

pub overflow_sub-result : goal.overflow_sub-result
overflow_sub-result c =
    let code = c.args.code.now in
    let bytes = bytes_are c.args.pc code c.in_ok-bytes.bytes.now (sym c.in_ok-bytes.ensures) in
    within code c.args.pc c.in_ok-rest.rest.now (sym (c.in_ok-rest.ensures ∙ ap (behind_instruction c.args.pc) bytes))

pub returns : goal.returns
returns c =
    let code = c.args.code.now in
    let bytes = bytes_are c.args.pc code c.in_ok-bytes.bytes.now (sym c.in_ok-bytes.ensures) in
    let some = c.in_ok-rest.ensures ∙ ap (behind_instruction c.args.pc) bytes in
    sym (place_is code c.args.pc ∙ ap (option_map (λ (r : List ℕ). length code - length r)) (sym some))
