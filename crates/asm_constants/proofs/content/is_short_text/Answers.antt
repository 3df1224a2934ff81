use Rattle.std.proofs.Common.{◌≡◌, ◌∙◌, sym, length, nat_le, false, arith}
use Rattle.std.proofs.lemmas.Bool.{lt-leb}
use Rattle.class_grammar.specs.ModifiedUtf8.{modified_utf8}
use Rattle.asm_constants.proofs.Texts.{text_length}
use Rattle.asm_constants.proofs.content.is_short_text.Goals as goal

pub utf8_length-requires : goal.utf8_length-requires
utf8_length-requires c = let long = text_length c.args.units.now in omega (arith, long)

pub returns-else-units-le-MAX_LENGTH : goal.returns-else-units-le-MAX_LENGTH
returns-else-units-le-MAX_LENGTH c =
    let long = text_length c.args.units.now in
    let units : nat_le (length c.args.units.now) 65535 ≡ false = lt-leb _ _ (omega arith) in
    units ∙ sym (lt-leb (length (modified_utf8 c.args.units.now)) 65535 (omega (arith, long)))
