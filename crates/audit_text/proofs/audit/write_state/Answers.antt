use Rattle.std.proofs.Common.{reverse}
use Rattle.std.proofs.lemmas.Result.{err_from_is_err_and}
use Rattle.page_text.specs.Pieces.{piece_text}
use Rattle.page_text.proofs.Writing.{writes_then, writes_stop}
use Rattle.audit_text.proofs.AuditParts.{state_lines-parts}
use Rattle.audit_text.proofs.audit.write_state.Goals as goal

pub returns-in_err-write_line : goal.returns-in_err-write_line
unfolding piece_text
returns-in_err-write_line g c =
    let p = err_from_is_err_and c.from_residual.result c.from_residual.ensures.1 in
    rw (p.1, state_lines-parts c.args.system.now (reverse c.args.entries.now)) (writes_stop _ _ c.in_err-write_line.ensures)

pub returns-in_err-write_domains : goal.returns-in_err-write_domains
unfolding piece_text
returns-in_err-write_domains g c =
    let p = err_from_is_err_and c.from_residual-in_err-write_domains.result c.from_residual-in_err-write_domains.ensures.1 in
    rw (p.1, state_lines-parts c.args.system.now (reverse c.args.entries.now))
    (writes_then c.in_ok-write_line.ensures (writes_stop _ _ c.in_err-write_domains.ensures))

pub returns-in_err-write_line-2 : goal.returns-in_err-write_line-2
unfolding piece_text
returns-in_err-write_line-2 g c =
    let p = err_from_is_err_and c.from_residual-in_err-write_line-2.result c.from_residual-in_err-write_line-2.ensures.1 in
    rw (p.1, state_lines-parts c.args.system.now (reverse c.args.entries.now))
    (writes_then c.in_ok-write_line.ensures (writes_then c.in_ok-write_domains.ensures (writes_stop _ _ c.in_err-write_line-2.ensures)))

pub returns : goal.returns
unfolding piece_text
returns g c =
    rw (state_lines-parts c.args.system.now (reverse c.args.entries.now))
    (writes_then c.in_ok-write_line.ensures (writes_then c.in_ok-write_domains.ensures (writes_then c.in_ok-write_line-2.ensures c.write_calls.ensures)))
