use Rattle.std.proofs.Common.{◌∙◌, ◌%◌, ap, ◌++◌, List, ℕ, arith}
use Rattle.std.proofs.lemmas.Result.{on_ok_weaker}
use Rattle.class_grammar.specs.CodeGrammar.{padding_length}
use Rattle.asm_bytes.proofs.Appended.{appended, zeros}
use Rattle.asm_bytes.proofs.code.push_padding.Goals as goal

pub returns : goal.returns
unfolding padding_length
returns c =
    on_ok_weaker c.extend_from_slice.result (λ pushed. pushed ∙ ap (λ (more : List ℕ). c.args.bytes.now.items ++ more) (zeros (c.args.pc % 4) (omega arith)))
    (appended c.extend_from_slice.result _ _ _ c.extend_from_slice.ensures.items)
