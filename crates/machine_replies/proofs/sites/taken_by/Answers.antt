use Rattle.std.proofs.Common.{◌≡◌, ◌∙◌, ℕ, List, Some, None, sym, ap}
use Rattle.jx_base.specs.declared.program.Resolved.{Resolved}
use Rattle.machine_model.specs.AfterEntry.{site_for}
use Rattle.program_model.specs.Instructions.{index_operand}
use Rattle.program_model.specs.Lookup.{constant_at}
use Rattle.program_model.specs.Types.{signature_of}
use Rattle.machine_replies.proofs.Takings.{call_at, no_call, no_method}
use Rattle.machine_replies.proofs.sites.taken_by.Goals as goal

pub returns-in_default : goal.returns-in_default
returns-in_default c = sym (no_call c.args.system.now c.args.class c.args.instr.now (λ kind e. c.in_default.not-Invoke kind (c.row_of.ensures ∙ e)))

pub returns-in_err-place : goal.returns-in_err-place
returns-in_err-place c =
    let s = c.args.system.now in let k = c.args.class in let i = c.args.instr.now in
    let none : constant_at s k (index_operand i 0) ≡ None = ap (λ (n : ℕ). constant_at s k n) (sym c.index_operand.ensures) ∙ sym c.in_err-place.ensures in
    c.from_residual.ensures ∙ sym (no_method s k i (λ m e. cc (none, e)))

pub returns-in_default-2 : goal.returns-in_default-2
returns-in_default-2 c =
    let s = c.args.system.now in let k = c.args.class in let i = c.args.instr.now in
    let some : constant_at s k (index_operand i 0) ≡ Some c.in_ok-place.field-0.now = ap (λ (n : ℕ). constant_at s k n) (sym c.index_operand.ensures) ∙ sym c.in_ok-place.ensures in
    sym (no_method s k i (λ m e. c.in_default-2.not-Method m (cc (some, e))))

pub returns-in_err-selector : goal.returns-in_err-selector
returns-in_err-selector c =
    let s = c.args.system.now in let k = c.args.class in let i = c.args.instr.now in
    let some = ap (λ (n : ℕ). constant_at s k n) (sym c.index_operand.ensures) ∙ sym c.in_ok-place.ensures ∙ ap (λ (x : Resolved). Some x) c.in-Method.is in
    c.from_residual-in_err-selector.ensures
    ∙ sym (call_at s k i c.in-Invoke.kind c.in-Method.place None (sym c.in-Invoke.ensures) some (sym c.in_err-selector.ensures))

pub returns : goal.returns
returns c =
    let s = c.args.system.now in let k = c.args.class in let i = c.args.instr.now in
    let some = ap (λ (n : ℕ). constant_at s k n) (sym c.index_operand.ensures) ∙ sym c.in_ok-place.ensures ∙ ap (λ (x : Resolved). Some x) c.in-Method.is in
    ap (λ (n : ℕ). Some n) c.taken_for.ensures ∙ ap (λ (d : List ℕ). Some (site_for c.in-Invoke.kind (signature_of d)).takes) c.as_slice.ensures
    ∙ sym (call_at s k i c.in-Invoke.kind c.in-Method.place (Some c.in_ok-selector.selector.now) (sym c.in-Invoke.ensures) some (sym c.in_ok-selector.ensures))
