-- The rows that no helper runs.
use Rattle.std.proofs.Common.{◌≡◌, refl, sym, ◌∙◌}
use Rattle.jx_base.specs.declared.row.Row.TheVariants as row
use Rattle.class_grammar.specs.Opcodes.{row_at}
use Rattle.machine_model.specs.NumericRows.{numeric_row, moving_row, arithmetic_row, branching_row, outcome_or}
use Rattle.interp_num.proofs.step.run.Goals as goal
use Rattle.interp_num.proofs.Rows.{not_mine}

pub returns-in-Nop-clause-row : goal.returns-in-Nop-clause-row
unfolding numeric_row moving_row outcome_or
returns-in-Nop-clause-row c =
    let row : row_at c.args.instr.now.opcode ≡ row.Nop = sym c.row_of.ensures ∙ c.in-Nop.is in
    rw row refl

pub returns-in-Goto-clause-row : goal.returns-in-Goto-clause-row
unfolding numeric_row moving_row arithmetic_row branching_row outcome_or
returns-in-Goto-clause-row c =
    let row : row_at c.args.instr.now.opcode ≡ row.Goto = sym c.row_of.ensures ∙ c.in-Goto.is in
    rw (row, c.index_operand-in-Goto.ensures) refl

pub returns-in-PushConstant-clause-row : goal.returns-in-PushConstant-clause-row
unfolding numeric_row
returns-in-PushConstant-clause-row c =
    (rw (← c.row_of.ensures) (not_mine c.args.system.now _ _ c.row_of.result c.args.instr.now _ _ c.in-PushConstant.is), refl)
