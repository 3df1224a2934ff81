use Rattle.std.proofs.Common.{reverse, refl, arith}
use Rattle.std.proofs.lemmas.Result.{err_from_is_err_and}
use Rattle.audit_model.specs.AuditText.{before_last, end_word}
use Rattle.jx_model.specs.Journal.{words_of}
use Rattle.program_model.specs.Limits.{journal_limit}
use Rattle.page_text.specs.Pieces.{piece_text}
use Rattle.page_text.proofs.Writing.{writes_then, writes_stop}
use Rattle.audit_text.proofs.JournalWords.{words_small}
use Rattle.audit_text.proofs.AuditParts.{total_lines-parts}
use Rattle.audit_text.proofs.totals.write_totals.Goals as goal

pub words_before_last-words-requires : goal.words_before_last-words-requires
unfolding journal_limit
words_before_last-words-requires g c =
    let few = words_small c.args.system.now (reverse c.args.entries.now) c.requires.admitted in
    omega arith

pub returns-in_err-write_total : goal.returns-in_err-write_total
returns-in_err-write_total g c =
    let p = err_from_is_err_and c.from_residual.result c.from_residual.ensures.1 in
    let past = reverse c.args.entries.now in
    rw (p.1, total_lines-parts c.args.system.now past c.used_granules-used.result c.wide-granules.result (words_of (before_last past)) c.args.system.now.plan.journal (end_word past) c.used_granules-used.ensures c.wide-granules.ensures.same refl refl refl)
    (writes_stop _ _ c.in_err-write_total.ensures)

pub returns-in_err-write_total-2 : goal.returns-in_err-write_total-2
returns-in_err-write_total-2 g c =
    let p = err_from_is_err_and c.from_residual-in_err-write_total-2.result c.from_residual-in_err-write_total-2.ensures.1 in
    let past = reverse c.args.entries.now in
    rw (p.1, total_lines-parts c.args.system.now past c.used_granules-used.result c.wide-granules.result c.words_before_last-words.result c.wide-journal.result (end_word past) c.used_granules-used.ensures c.wide-granules.ensures.same c.words_before_last-words.ensures c.wide-journal.ensures.same refl)
    (writes_then c.in_ok-write_total.ensures (writes_stop _ _ c.in_err-write_total-2.ensures))

pub returns : goal.returns
unfolding piece_text
returns g c =
    let past = reverse c.args.entries.now in
    rw (total_lines-parts c.args.system.now past c.used_granules-used.result c.wide-granules.result c.words_before_last-words.result c.wide-journal.result c.end_word.result.now c.used_granules-used.ensures c.wide-granules.ensures.same c.words_before_last-words.ensures c.wide-journal.ensures.same c.end_word.ensures)
    (writes_then c.in_ok-write_total.ensures (writes_then c.in_ok-write_total-2.ensures c.write_line.ensures))
