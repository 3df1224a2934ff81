use Rattle.std.proofs.Common.{◌≡◌, ◌∙◌, sym, ap, drop, ◌+◌, ◌∷◌, List, arith}
use Rattle.std.specs.Prelude.{flat_map}
use Rattle.std.proofs.lemmas.List.{drop_more, at_drop_all}
use Rattle.asm_constants.specs.declared.content.Content.{Content}
use Rattle.asm_lines.specs.declared.line.Operand.{Operand}
use Rattle.asm_bodies.specs.Needs.{operand_contents, with_all_needed}
use Rattle.asm_checks.proofs.Lists.{needed_by_both}
use Rattle.asm_checks.proofs.needs.add_operands.Goals as goal

pub loop-operand-preserved : goal.loop-operand-preserved
loop-operand-preserved c =
    let pool = c.loop-operand.pool in
    let i = c.loop-operand.operand-index in
    let operand = c.operand-item.result in
    let rest = drop (i + 1) c.args.operands.now in
    let front : drop i c.args.operands.now ≡ operand ∷ rest =
    drop_more c.args.operands.now i operand (omega arith) ∙ ap (λ o. o ∷ rest) (sym c.operand-item.is) in
    ap (λ (p : List Content). with_all_needed p (flat_map operand_contents rest)) c.in_ok-add_operand.ensures
    ∙ (sym (needed_by_both pool (operand_contents operand) (flat_map operand_contents rest))
    ∙ (sym (ap (λ (os : List Operand). with_all_needed pool (flat_map operand_contents os)) front)
    ∙ c.loop-operand.invariant))

pub returns : goal.returns
unfolding with_all_needed
returns c =
    sym (at_drop_all (λ os. with_all_needed c.loop-operand.pool (flat_map operand_contents os)) c.args.operands.now c.loop-operand.operand-index (omega arith))
    ∙ c.loop-operand.invariant
