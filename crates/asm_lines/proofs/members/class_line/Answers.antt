use Rattle.asm_lines.proofs.Parts.{is_class}
use Rattle.asm_lines.proofs.members.class_line.Goals as goal

pub returns-in_ok-flags_of-in-len3 : goal.returns-in_ok-flags_of-in-len3
returns-in_ok-flags_of-in-len3 c =
    is_class c.args.words.now _ _ _ _ c.in-len3.len_at_least c.in-len3.len_below c.in_ok-flags_of-in-len3.ensures c.in_ok-class-in-len3.ensures c.in_ok-super_class-in-len3.ensures
