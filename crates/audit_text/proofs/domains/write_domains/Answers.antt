use Rattle.std.proofs.Common.{◌≡◌, ◌+◌, sym, ◌∙◌, arith, reverse, Some, None}
use Rattle.std.proofs.lemmas.List.{drop_all}
use Rattle.std.proofs.lemmas.Result.{err_from_is_err_and}
use Rattle.page_text.proofs.Writing.{writes_as, completes_more, completes_same, completes_stop, completes_end}
use Rattle.audit_text.proofs.BirthLines.{birth_made, born-more, born-same, born-end, line_after, line_after-is, made, made-is, domain_lines-born}
use Rattle.audit_text.proofs.BirthCounts.{births_few, birth_count, birth_count-Some, birth_count-None}
use Rattle.audit_text.proofs.ReasonTable.{found_reason}
use Rattle.audit_text.proofs.Sums.{entry_sum-more}
use Rattle.audit_text.proofs.domains.write_domains.Goals as goal
use Rattle.audit_text.proofs.domains.write_domains.Goals.{in-Some+in_ok-write_domain, in_default}

pub loop-entry-init : goal.loop-entry-init
loop-entry-init g c = record {
  few = omega arith;
  below = omega (arith, births_few c.args.system.now c.args.entries.now c.requires.admitted);
  lines = λ o r whole. whole;
}

pub reason-why-requires : goal.reason-why-requires
reason-why-requires g c =
    let s = c.args.system.now in
    let x = c.entry-item.result in
    let more = entry_sum-more birth_count c.loop-entry.entry-index c.args.entries.now x c.entry-item.is (omega arith) in
    let is : made s x ≡ Some c.in-Some.template = made-is s x ∙ sym c.made_template.ensures ∙ c.in-Some.is in
    let one = birth_count-Some x (made s x) c.in-Some.template (birth_made s x) is in
    omega arith

pub returns-in_err-write_domain : goal.returns-in_err-write_domain
returns-in_err-write_domain g c =
    let s = c.args.system.now in
    let x = c.entry-item.result in
    let more = entry_sum-more birth_count c.loop-entry.entry-index c.args.entries.now x c.entry-item.is (omega arith) in
    let is : made s x ≡ Some c.in-Some.template = made-is s x ∙ sym c.made_template.ensures ∙ c.in-Some.is in
    let one = birth_count-Some x (made s x) c.in-Some.template (birth_made s x) is in
    let p = err_from_is_err_and c.from_residual.result c.from_residual.ensures.1 in
    let past = reverse c.args.entries.now in
    let after = line_after s past in
    let line = line_after-is s past (c.loop-entry.domains + 1) c.in-Some.template x.domain.0 c.reason-why.result (found_reason c.args.reasons.now.by_number past (c.loop-entry.domains + 1) c.reason-why.result c.requires.reasons (omega arith) c.reason-why.ensures) in
    rw (p.1, ← domain_lines-born s c.args.entries.now)
    (completes_stop _ _ _ _
    (born-more (made s) after c.loop-entry.domains c.loop-entry.entry-index c.in-Some.template c.args.entries.now x c.entry-item.is (omega arith) is)
    c.loop-entry.invariant.lines
    (writes_as line c.in_err-write_domain.ensures))

pub loop-entry-preserved : goal.loop-entry-preserved
loop-entry-preserved g c =
    let s = c.args.system.now in
    let x = c.entry-item.result in
    let more = entry_sum-more birth_count c.loop-entry.entry-index c.args.entries.now x c.entry-item.is (omega arith) in
    let past = reverse c.args.entries.now in
    let after = line_after s past in
    elim c.match-made_template.branch [
      | in-Some+in_ok-write_domain w ↦
          let is : made s x ≡ Some w.in-Some.template = made-is s x ∙ sym c.made_template.ensures ∙ w.in-Some.is in
          let one = birth_count-Some x (made s x) w.in-Some.template (birth_made s x) is in
          let line = line_after-is s past (c.loop-entry.domains + 1) w.in-Some.template x.domain.0 w.reason-why.result (found_reason c.args.reasons.now.by_number past (c.loop-entry.domains + 1) w.reason-why.result c.requires.reasons (omega arith) w.reason-why.ensures) in
          record {
            few = omega arith;
            below = rw w.domains-is (omega arith);
            lines = rw (w.domains-is, w.sink-is, w.page-is)
                (completes_more _ _ _ _
                (born-more (made s) after c.loop-entry.domains c.loop-entry.entry-index w.in-Some.template c.args.entries.now x c.entry-item.is (omega arith) is)
                c.loop-entry.invariant.lines
                (writes_as line w.in_ok-write_domain.ensures));
          }
      | in_default w ↦
          let is : made s x ≡ None = made-is s x ∙ sym c.made_template.ensures ∙ w.in_default.is in
          let none = birth_count-None x (made s x) (birth_made s x) is in
          record {
            few = omega arith;
            below = rw w.domains-is (omega arith);
            lines = rw (w.domains-is, w.sink-is, w.page-is)
                (completes_same _ _ _
                (born-same (made s) after c.loop-entry.domains c.loop-entry.entry-index c.args.entries.now x c.entry-item.is (omega arith) is)
                c.loop-entry.invariant.lines);
          }
    ]

pub returns : goal.returns
returns g c =
    let s = c.args.system.now in
    rw (← domain_lines-born s c.args.entries.now)
    (completes_end _ _ (born-end (made s) (line_after s (reverse c.args.entries.now)) c.loop-entry.domains c.loop-entry.entry-index c.args.entries.now (drop_all c.loop-entry.entry-index c.args.entries.now (omega arith))) c.loop-entry.invariant.lines)
