use Rattle.std.proofs.Common.{reverse, arith}
use Rattle.std.proofs.lemmas.List.{drop_all}
use Rattle.jx_model.specs.Journal.{entry_words}
use Rattle.audit_text.proofs.Sums.{entry_sum-more, entry_sum-end, entry_sum-reverse}
use Rattle.audit_text.proofs.JournalWords.{words-sum}
use Rattle.audit_text.proofs.totals.words_of.Goals as goal

pub entry_words-requires : goal.entry_words-requires
entry_words-requires c =
    let more = entry_sum-more entry_words c.loop-entry.entry-index c.args.entries.now c.entry-item.result c.entry-item.is (omega arith) in
    let all = words-sum (reverse c.args.entries.now) in
    let turned = entry_sum-reverse entry_words c.args.entries.now in
    omega arith

pub returns : goal.returns
returns c =
    let rest = entry_sum-end entry_words c.loop-entry.entry-index c.args.entries.now (drop_all c.loop-entry.entry-index c.args.entries.now (omega arith)) in
    let all = words-sum (reverse c.args.entries.now) in
    let turned = entry_sum-reverse entry_words c.args.entries.now in
    omega arith

pub overflow_add-words : goal.overflow_add-words
overflow_add-words c =
    let more = entry_sum-more entry_words c.loop-entry.entry-index c.args.entries.now c.entry-item.result c.entry-item.is (omega arith) in
    let all = words-sum (reverse c.args.entries.now) in
    let turned = entry_sum-reverse entry_words c.args.entries.now in
    omega arith

pub loop-entry-preserved : goal.loop-entry-preserved
loop-entry-preserved c =
    let more = entry_sum-more entry_words c.loop-entry.entry-index c.args.entries.now c.entry-item.result c.entry-item.is (omega arith) in
    omega arith
