use Rattle.std.proofs.Common.{arith}
use Rattle.std.proofs.lemmas.List.{drop_all}
use Rattle.std.proofs.lemmas.Result.{err_from_is_err_and}
use Rattle.page_text.proofs.Writing.{byte_first, completes_more, completes_stop, completes_end}
use Rattle.page_text.proofs.page.Page.write.Goals as goal

pub returns-in_err-write_byte : goal.returns-in_err-write_byte
returns-in_err-write_byte g c =
    let p = err_from_is_err_and c.from_residual.result c.from_residual.ensures.1 in
    rw p.1 (completes_stop _ _ _ _ (byte_first c.args.bytes.now c.loop-byte.byte-index (omega arith)) c.loop-byte.invariant c.in_err-write_byte.ensures)

pub loop-byte-preserved : goal.loop-byte-preserved
loop-byte-preserved g c =
    completes_more _ _ _ _ (byte_first c.args.bytes.now c.loop-byte.byte-index (omega arith)) c.loop-byte.invariant c.in_ok-write_byte.ensures

pub returns : goal.returns
returns g c = completes_end _ _ (drop_all c.loop-byte.byte-index c.args.bytes.now (omega arith)) c.loop-byte.invariant
