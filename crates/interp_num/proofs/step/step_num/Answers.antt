-- The frame's stack is within what its method says.
use Rattle.std.proofs.Common.{arith, sym, ◌∙◌}
use Rattle.interp_num.proofs.step.step_num.Goals as goal
use Rattle.interp_num.proofs.Depths.{length_within}
use Rattle.interp_num.proofs.Numeric.{left, other}
use Rattle.interp_num.proofs.Rows.{answers_not_mine, gives}

pub run-requires-clause-within : goal.run-requires-clause-within
run-requires-clause-within c =
    let depth = c.requires.depth in
    let room = c.requires.room in
    let most = c.limits_of.ensures.stack in
    (length_within c.args.frame.now.stack.values, (omega arith, omega arith))

pub returns-clause-others : goal.returns-clause-others
returns-clause-others c =
    let s = c.args.system.now in
    let f = c.args.frame.now in
    let i = c.args.instr.now in
    let class = c.limits_of.result.class in
    let most = c.limits_of.result.stack in
    let both = answers_not_mine _ f c.run.new.frame _ (gives c.run.result f c.run.new.frame _ c.run.ensures.row) in (
      λ e. left s class most i f.locals f.stack.values (both.0 (sym c.unwrap_or.ensures ∙ e)),
      λ e. c.unwrap_or.ensures ∙ both.1 (other s class most i f.locals f.stack.values e),
    )
