use Rattle.std.proofs.lemmas.Result.{IfOk-weaker}
use Rattle.class_texts.proofs.TextLaws.{is_text}
use Rattle.class_texts.proofs.utf8.utf8_read.Goals as goal

pub returns-clause-spells : goal.returns-clause-spells
returns-clause-spells c = IfOk-weaker c.text_in.result _ _ (λ text h. is_text c.args.bytes.now text h) c.text_in.ensures
