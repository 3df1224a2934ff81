use Rattle.std.proofs.Common.{◌≡◌, ◌∙◌, ℕ, List, Some, None, sym, ap}
use Rattle.jx_base.specs.declared.program.Resolved.{Resolved}
use Rattle.program_model.specs.Instructions.{index_operand}
use Rattle.program_model.specs.Lookup.{constant_at}
use Rattle.program_model.specs.Types.{result_type}
use Rattle.machine_replies.proofs.Expecting.{call_result, no_call_result, no_method_result}
use Rattle.machine_replies.proofs.sites.result_by.Goals as goal

pub returns-in_default : goal.returns-in_default
returns-in_default c = sym (no_call_result c.args.system.now c.args.class c.args.instr.now (λ kind e. c.in_default.not-Invoke kind (c.row_of.ensures ∙ e)))

pub returns-in_err-place : goal.returns-in_err-place
returns-in_err-place c =
    let s = c.args.system.now in let k = c.args.class in let i = c.args.instr.now in
    let none : constant_at s k (index_operand i 0) ≡ None = ap (λ (n : ℕ). constant_at s k n) (sym c.index_operand.ensures) ∙ sym c.in_err-place.ensures in
    rw c.from_residual.ensures (sym (no_method_result s k i (λ m e. cc (none, e))))

pub returns-in_default-2 : goal.returns-in_default-2
returns-in_default-2 c =
    let s = c.args.system.now in let k = c.args.class in let i = c.args.instr.now in
    let some : constant_at s k (index_operand i 0) ≡ Some c.in_ok-place.field-0.now = ap (λ (n : ℕ). constant_at s k n) (sym c.index_operand.ensures) ∙ sym c.in_ok-place.ensures in
    sym (no_method_result s k i (λ m e. c.in_default-2.not-Method m (cc (some, e))))

pub returns-in_err-selector : goal.returns-in_err-selector
returns-in_err-selector c =
    let s = c.args.system.now in let k = c.args.class in let i = c.args.instr.now in
    let some = ap (λ (n : ℕ). constant_at s k n) (sym c.index_operand.ensures) ∙ sym c.in_ok-place.ensures ∙ ap (λ (x : Resolved). Some x) c.in-Method.is in
    rw c.from_residual-in_err-selector.ensures
    (sym (call_result s k i c.in-Invoke.field-0 c.in-Method.place None (sym c.in-Invoke.ensures) some (sym c.in_err-selector.ensures)))

pub returns : goal.returns
returns c =
    let s = c.args.system.now in let k = c.args.class in let i = c.args.instr.now in
    let some = ap (λ (n : ℕ). constant_at s k n) (sym c.index_operand.ensures) ∙ sym c.in_ok-place.ensures ∙ ap (λ (x : Resolved). Some x) c.in-Method.is in
    ap (λ (t : List ℕ). Some t) c.result_type.ensures ∙ ap (λ (d : List ℕ). Some (result_type d)) c.as_slice.ensures
    ∙ sym (call_result s k i c.in-Invoke.field-0 c.in-Method.place (Some c.in_ok-selector.selector.now) (sym c.in-Invoke.ensures) some (sym c.in_ok-selector.ensures))
