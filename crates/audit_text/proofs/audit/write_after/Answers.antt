use Rattle.std.proofs.lemmas.Result.{err_from_is_err_and}
use Rattle.page_text.specs.Pieces.{piece_text}
use Rattle.page_text.proofs.Writing.{writes_then, writes_stop}
use Rattle.audit_text.proofs.AuditParts.{lines_after-parts}
use Rattle.audit_text.proofs.audit.write_after.Goals as goal

pub returns-in_err-write_line : goal.returns-in_err-write_line
unfolding piece_text
returns-in_err-write_line g c =
    let p = err_from_is_err_and c.from_residual.result c.from_residual.ensures.1 in
    rw (p.1, lines_after-parts) (writes_stop _ _ c.in_err-write_line.ensures)

pub returns-in_err-write_console : goal.returns-in_err-write_console
unfolding piece_text
returns-in_err-write_console g c =
    let p = err_from_is_err_and c.from_residual-in_err-write_console.result c.from_residual-in_err-write_console.ensures.1 in
    rw (p.1, lines_after-parts) (writes_then c.in_ok-write_line.ensures (writes_stop _ _ c.in_err-write_console.ensures))

pub returns-in_err-write_state : goal.returns-in_err-write_state
unfolding piece_text
returns-in_err-write_state g c =
    let p = err_from_is_err_and c.from_residual-in_err-write_state.result c.from_residual-in_err-write_state.ensures.1 in
    rw (p.1, lines_after-parts) (writes_then c.in_ok-write_line.ensures (writes_then c.in_ok-write_console.ensures (writes_stop _ _ c.in_err-write_state.ensures)))

pub returns : goal.returns
unfolding piece_text
returns g c =
    rw lines_after-parts (writes_then c.in_ok-write_line.ensures (writes_then c.in_ok-write_console.ensures (writes_then c.in_ok-write_state.ensures c.write_totals.ensures)))
