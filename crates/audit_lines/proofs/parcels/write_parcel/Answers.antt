use Rattle.std.proofs.lemmas.Result.{err_from_is_err_and}
use Rattle.page_text.proofs.Writing.{writes_as, writes_then, writes_stop}
use Rattle.std.proofs.Common.{refl}
use Rattle.audit_lines.proofs.SpacedTexts.{parcel_text-parts}
use Rattle.audit_lines.proofs.parcels.write_parcel.Goals as goal

pub returns-in_err-write_byte : goal.returns-in_err-write_byte
returns-in_err-write_byte g c =
    let p = err_from_is_err_and c.from_residual.result c.from_residual.ensures.1 in
    rw p.1 (writes_as (parcel_text-parts c.args.system.now c.args.parcel.now c.args.parcel.now.roots c.args.parcel.now.nodes refl refl) (writes_stop _ _ c.in_err-write_byte.ensures))

pub returns-in_err-write_cells : goal.returns-in_err-write_cells
returns-in_err-write_cells g c =
    let p = err_from_is_err_and c.from_residual-in_err-write_cells.result c.from_residual-in_err-write_cells.ensures.1 in
    rw p.1 (writes_as (parcel_text-parts c.args.system.now c.args.parcel.now c.as_slice.result.now c.args.parcel.now.nodes c.as_slice.ensures refl) (writes_then c.in_ok-write_byte.ensures (writes_stop _ _ c.in_err-write_cells.ensures)))

pub returns-in_err-write_byte-2 : goal.returns-in_err-write_byte-2
returns-in_err-write_byte-2 g c =
    let p = err_from_is_err_and c.from_residual-in_err-write_byte-2.result c.from_residual-in_err-write_byte-2.ensures.1 in
    rw p.1 (writes_as (parcel_text-parts c.args.system.now c.args.parcel.now c.as_slice.result.now c.args.parcel.now.nodes c.as_slice.ensures refl) (writes_then c.in_ok-write_byte.ensures (writes_then c.in_ok-write_cells.ensures (writes_stop _ _ c.in_err-write_byte-2.ensures))))

pub returns-in_err-write_nodes : goal.returns-in_err-write_nodes
returns-in_err-write_nodes g c =
    let p = err_from_is_err_and c.from_residual-in_err-write_nodes.result c.from_residual-in_err-write_nodes.ensures.1 in
    rw p.1 (writes_as (parcel_text-parts c.args.system.now c.args.parcel.now c.as_slice.result.now c.as_slice-2.result.now c.as_slice.ensures c.as_slice-2.ensures) (writes_then c.in_ok-write_byte.ensures (writes_then c.in_ok-write_cells.ensures (writes_then c.in_ok-write_byte-2.ensures (writes_stop _ _ c.in_err-write_nodes.ensures)))))

pub returns : goal.returns
returns g c = writes_as (parcel_text-parts c.args.system.now c.args.parcel.now c.as_slice.result.now c.as_slice-2.result.now c.as_slice.ensures c.as_slice-2.ensures) (writes_then c.in_ok-write_byte.ensures (writes_then c.in_ok-write_cells.ensures (writes_then c.in_ok-write_byte-2.ensures (writes_then c.in_ok-write_nodes.ensures (c.write_byte-3.ensures)))))
