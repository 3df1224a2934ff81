use Rattle.std.proofs.lemmas.Result.{err_from_is_err_and}
use Rattle.page_text.proofs.Writing.{writes_then, writes_stop}
use Rattle.audit_lines.proofs.EntryLines.{entry_line-parts}
use Rattle.audit_lines.proofs.entries.write_entry.Goals as goal

pub returns-in_err-write_actor : goal.returns-in_err-write_actor
returns-in_err-write_actor g c =
    let p = err_from_is_err_and c.from_residual.result c.from_residual.ensures.1 in
    rw (p.1, entry_line-parts) (writes_stop _ _ c.in_err-write_actor.ensures)

pub returns-in_err-write_act : goal.returns-in_err-write_act
returns-in_err-write_act g c =
    let p = err_from_is_err_and c.from_residual-in_err-write_act.result c.from_residual-in_err-write_act.ensures.1 in
    rw (p.1, entry_line-parts) (writes_then c.in_ok-write_actor.ensures (writes_stop _ _ c.in_err-write_act.ensures))

pub returns-in_err-write : goal.returns-in_err-write
returns-in_err-write g c =
    let p = err_from_is_err_and c.from_residual-in_err-write.result c.from_residual-in_err-write.ensures.1 in
    rw (p.1, entry_line-parts) (writes_then c.in_ok-write_actor.ensures (writes_then c.in_ok-write_act.ensures (writes_stop _ _ c.in_err-write.ensures)))

pub returns-in_err-write_reply : goal.returns-in_err-write_reply
returns-in_err-write_reply g c =
    let p = err_from_is_err_and c.from_residual-in_err-write_reply.result c.from_residual-in_err-write_reply.ensures.1 in
    rw (p.1, entry_line-parts)
    (writes_then c.in_ok-write_actor.ensures (writes_then c.in_ok-write_act.ensures (writes_then c.in_ok-write.ensures (writes_stop _ _ c.in_err-write_reply.ensures))))

pub returns : goal.returns
returns g c =
    rw entry_line-parts
    (writes_then c.in_ok-write_actor.ensures (writes_then c.in_ok-write_act.ensures (writes_then c.in_ok-write.ensures (writes_then c.in_ok-write_reply.ensures c.write_byte.ensures))))
