use Rattle.std.proofs.lemmas.Result.{err_from_is_err_and}
use Rattle.jx_base.specs.Histories.{past_of}
use Rattle.page_text.specs.Pieces.{piece_text}
use Rattle.page_text.proofs.Writing.{writes_then, writes_stop}
use Rattle.audit_text.proofs.AuditParts.{audit_text-parts}
use Rattle.audit_text.proofs.audit.write_audit.Goals as goal

pub write_after-requires-clause-admitted : goal.write_after-requires-clause-admitted
unfolding past_of
write_after-requires-clause-admitted g c = rw c.as_slice-entries.ensures c.requires.admitted

pub write_after-requires-clause-supported : goal.write_after-requires-clause-supported
write_after-requires-clause-supported g c = rw c.as_slice-entries.ensures c.requires.supported

pub returns-in_err-write_line : goal.returns-in_err-write_line
unfolding piece_text
returns-in_err-write_line g c =
    let p = err_from_is_err_and c.from_residual.result c.from_residual.ensures.1 in
    rw (p.1, audit_text-parts c.args.system.now c.args.history.now c.as_slice-entries.result.now c.as_slice-entries.ensures) (writes_stop _ _ c.in_err-write_line.ensures)

pub returns-in_err-write_entries : goal.returns-in_err-write_entries
unfolding piece_text
returns-in_err-write_entries g c =
    let p = err_from_is_err_and c.from_residual-in_err-write_entries.result c.from_residual-in_err-write_entries.ensures.1 in
    rw (p.1, audit_text-parts c.args.system.now c.args.history.now c.as_slice-entries.result.now c.as_slice-entries.ensures)
    (writes_then c.in_ok-write_line.ensures (writes_stop _ _ c.in_err-write_entries.ensures))

pub returns : goal.returns
unfolding piece_text
returns g c =
    rw (audit_text-parts c.args.system.now c.args.history.now c.as_slice-entries.result.now c.as_slice-entries.ensures)
    (writes_then c.in_ok-write_line.ensures (writes_then c.in_ok-write_entries.ensures c.write_after.ensures))
