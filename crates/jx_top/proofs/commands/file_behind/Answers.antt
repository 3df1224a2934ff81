use Rattle.std.proofs.Common.{◌∙◌, ap, sym, subst, drop, List, ℕ, ◌-◌, length, arith}
use Rattle.std.specs.Prelude.{string_bytes}
use Rattle.jx_top.specs.Commands.{AreVerbAndFile, place_word, texts}
use Rattle.jx_top.proofs.CommandWords.{alike, is_filled, rest_texts, split_texts, verb_and_file}
use Rattle.jx_top.proofs.commands.file_behind.Goals as goal

pub returns : goal.returns
returns c =
    subst (λ (words : List (List ℕ)). AreVerbAndFile c.args.verb.now words c.in_ok-file.file.now) (sym (split_texts c.args.words.now c.first-item.result c.in-len1-up.len_at_least c.first-item.is))
    (verb_and_file c.args.verb.now (string_bytes c.first-item.result) (texts (drop 1 c.args.words.now)) c.in_ok-file.file.now
    (sym c.as_str.ensures.value ∙ alike c.as_str.result.now c.args.verb.now c.if-ne.ensures)
    (ap place_word (sym (rest_texts c.args.words.now (length c.args.words.now - 1) (omega arith))) ∙ c.in_ok-file.ensures)
    (is_filled (length c.in_ok-file.file.now) c.if-is_empty.ensures)
    c.if-file-gt255.false)
