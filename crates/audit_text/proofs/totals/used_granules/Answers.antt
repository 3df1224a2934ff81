use Rattle.std.proofs.Common.{◌≡◌, ◌+◌, drop, sym, ◌∙◌, ap, reverse, arith, Some, None, is_some}
use Rattle.std.proofs.lemmas.List.{drop_all}
use Rattle.jx_model.specs.Domains.{is_birth}
use Rattle.audit_text.specs.Rendering.{total}
use Rattle.audit_text.proofs.Sums.{entry_sum-more}
use Rattle.audit_text.proofs.BirthCounts.{births_few, birth_count, birth_count-Some, birth_count-None}
use Rattle.audit_text.proofs.BirthLines.{born-more, born-same, born-end, born}
use Rattle.audit_text.proofs.ReasonTable.{found_reason}
use Rattle.audit_text.proofs.SupportedActs.{birth_created, created, created-is, entry_supported}
use Rattle.audit_text.proofs.UsedGranules.{granules_after, granules_after-is, total-append, total-none, used-born}
use Rattle.audit_text.proofs.totals.used_granules.Goals as goal
use Rattle.audit_text.proofs.totals.used_granules.Goals.{in-Some, in_default}

pub loop-entry-init : goal.loop-entry-init
loop-entry-init c = record {
  few = omega arith;
  made = omega (arith, births_few c.args.system.now c.args.entries.now c.requires.admitted);
  sum = omega arith;
  small = omega (arith, births_few c.args.system.now c.args.entries.now c.requires.admitted);
}

pub reason-requires : goal.reason-requires
reason-requires c =
    let x = c.entry-item.result in
    let more = entry_sum-more birth_count c.loop-entry.entry-index c.args.entries.now x c.entry-item.is (omega arith) in
    let has : is_birth x ≡ is_some (created x) = birth_created x (entry_supported c.args.entries.now c.loop-entry.entry-index x c.requires.supported c.entry-item.is (omega arith)) in
    let one = birth_count-Some x (created x) c.in-Some.template has (created-is x ∙ sym c.created_template.ensures ∙ c.in-Some.is) in
    omega arith

pub overflow_add-used : goal.overflow_add-used
overflow_add-used c =
    let x = c.entry-item.result in
    let more = entry_sum-more birth_count c.loop-entry.entry-index c.args.entries.now x c.entry-item.is (omega arith) in
    let has : is_birth x ≡ is_some (created x) = birth_created x (entry_supported c.args.entries.now c.loop-entry.entry-index x c.requires.supported c.entry-item.is (omega arith)) in
    let one = birth_count-Some x (created x) c.in-Some.template has (created-is x ∙ sym c.created_template.ensures ∙ c.in-Some.is) in
    omega arith

pub loop-entry-preserved : goal.loop-entry-preserved
loop-entry-preserved c =
    let past = reverse c.args.entries.now in
    let x = c.entry-item.result in
    let after = granules_after c.args.system.now past in
    let n = c.loop-entry.domains in
    let counts = entry_sum-more birth_count c.loop-entry.entry-index c.args.entries.now x c.entry-item.is (omega arith) in
    let has : is_birth x ≡ is_some (created x) = birth_created x (entry_supported c.args.entries.now c.loop-entry.entry-index x c.requires.supported c.entry-item.is (omega arith)) in
    elim c.match-created_template.branch [
      | in-Some w ↦
          let is : created x ≡ Some w.in-Some.template = created-is x ∙ sym c.created_template.ensures ∙ w.in-Some.is in
          let one = birth_count-Some x (created x) w.in-Some.template has is in
          let split = ap total (born-more created after n c.loop-entry.entry-index w.in-Some.template c.args.entries.now x c.entry-item.is (omega arith) is) in
          let sum = total-append (after (n + 1) w.in-Some.template x.domain.0) (born created after (n + 1) (drop (c.loop-entry.entry-index + 1) c.args.entries.now)) in
          let here = granules_after-is c.args.system.now past (n + 1) w.in-Some.template x.domain.0 w.reason.result (found_reason c.args.reasons.now.by_number past (n + 1) w.reason.result c.requires.reasons (omega arith) w.reason.ensures) in
          record { few = omega arith; made = rw w.domains-is (omega arith); sum = rw w.domains-is (omega arith); small = omega arith }
      | in_default w ↦
          let is : created x ≡ None = created-is x ∙ sym c.created_template.ensures ∙ w.in_default.is in
          let none = birth_count-None x (created x) has is in
          let same = ap total (born-same created after n c.loop-entry.entry-index c.args.entries.now x c.entry-item.is (omega arith) is) in
          record { few = omega arith; made = rw w.domains-is (omega arith); sum = rw w.domains-is (omega arith); small = omega arith }
    ]

pub returns : goal.returns
returns c =
    let after = granules_after c.args.system.now (reverse c.args.entries.now) in
    let none = born-end created after c.loop-entry.domains c.loop-entry.entry-index c.args.entries.now (drop_all c.loop-entry.entry-index c.args.entries.now (omega arith)) in
    let rest = ap total none ∙ total-none in
    let used = used-born c.args.system.now c.args.entries.now c.requires.supported in
    omega arith
