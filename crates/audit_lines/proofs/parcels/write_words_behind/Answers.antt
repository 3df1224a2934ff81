use Rattle.std.proofs.Common.{arith}
use Rattle.std.proofs.lemmas.Result.{err_from_is_err_and}
use Rattle.audit_lines.specs.LineParts.{spaced_word}
use Rattle.page_text.proofs.Writing.{copy_goes_on, copy_stops, items_end}
use Rattle.audit_lines.proofs.parcels.write_words_behind.Goals as goal

pub returns-in_err-write_spaced_word : goal.returns-in_err-write_spaced_word
returns-in_err-write_spaced_word g c =
    let p = err_from_is_err_and c.from_residual.result c.from_residual.ensures.1 in
    rw p.1 (copy_stops spaced_word c.args.words.now c.loop-word.word-index _ (omega arith) c.loop-word.invariant c.in_err-write_spaced_word.ensures)

pub loop-word-preserved : goal.loop-word-preserved
loop-word-preserved g c = copy_goes_on spaced_word c.args.words.now c.loop-word.word-index _ (omega arith) c.loop-word.invariant c.in_ok-write_spaced_word.ensures

pub returns : goal.returns
returns g c = items_end spaced_word c.args.words.now c.loop-word.word-index (omega arith) c.loop-word.invariant
