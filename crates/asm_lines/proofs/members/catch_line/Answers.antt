use Rattle.asm_lines.proofs.Parts.{is_catch}
use Rattle.asm_lines.proofs.members.catch_line.Goals as goal

pub returns-in_ok-catch_class-in-len4 : goal.returns-in_ok-catch_class-in-len4
returns-in_ok-catch_class-in-len4 c =
    is_catch c.args.words.now _ _ _ _ _ c.in-len4.len_at_least c.in-len4.len_below c.in_ok-name-in-len4.ensures c.in_ok-name-in-len4-2.ensures c.in_ok-name-in-len4-3.ensures c.in_ok-catch_class-in-len4.ensures
