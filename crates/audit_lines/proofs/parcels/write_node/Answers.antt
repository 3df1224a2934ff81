use Rattle.std.proofs.lemmas.Result.{err_from_is_err_and}
use Rattle.page_text.proofs.Writing.{writes_as, writes_then, writes_stop}
use Rattle.std.proofs.Common.{refl}
use Rattle.audit_lines.proofs.SpacedTexts.{node_text-parts}
use Rattle.audit_lines.proofs.parcels.write_node.Goals as goal

pub returns-in_err-write_class : goal.returns-in_err-write_class
returns-in_err-write_class g c =
    let p = err_from_is_err_and c.from_residual.result c.from_residual.ensures.1 in
    rw p.1 (writes_as (node_text-parts c.args.system.now c.args.node.now c.args.node.now.cells refl) (writes_stop _ _ c.in_err-write_class.ensures))

pub returns-in_err-write_byte : goal.returns-in_err-write_byte
returns-in_err-write_byte g c =
    let p = err_from_is_err_and c.from_residual-in_err-write_byte.result c.from_residual-in_err-write_byte.ensures.1 in
    rw p.1 (writes_as (node_text-parts c.args.system.now c.args.node.now c.args.node.now.cells refl) (writes_then c.in_ok-write_class.ensures (writes_stop _ _ c.in_err-write_byte.ensures)))

pub returns-in_err-write_cells : goal.returns-in_err-write_cells
returns-in_err-write_cells g c =
    let p = err_from_is_err_and c.from_residual-in_err-write_cells.result c.from_residual-in_err-write_cells.ensures.1 in
    rw p.1 (writes_as (node_text-parts c.args.system.now c.args.node.now c.as_slice.result.now c.as_slice.ensures) (writes_then c.in_ok-write_class.ensures (writes_then c.in_ok-write_byte.ensures (writes_stop _ _ c.in_err-write_cells.ensures))))

pub returns : goal.returns
returns g c = writes_as (node_text-parts c.args.system.now c.args.node.now c.as_slice.result.now c.as_slice.ensures) (writes_then c.in_ok-write_class.ensures (writes_then c.in_ok-write_byte.ensures (writes_then c.in_ok-write_cells.ensures (c.write_byte-2.ensures))))
