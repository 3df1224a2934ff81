use Rattle.page_text.specs.Pieces.{piece_text}
use Rattle.audit_lines.proofs.SpacedTexts.{asked_text-found, asked_text-none, selector_found, selector_none}
use Rattle.audit_lines.proofs.words.write_asked.Goals as goal

pub returns-in-Some : goal.returns-in-Some
unfolding piece_text
returns-in-Some g c =
    let h = c.in-Some.ensures.lookup in
    let e = c.as_slice.ensures in
    let found = selector_found c.args.system.now c.args.method.0 c.in-Some.found.now (rw e at h.3.0) (rw e at h.1) in
    rw (asked_text-found c.args.system.now c.args.word.now c.args.service.0 c.args.method.0 c.args.parcel.now c.in-Some.found.now found, ← c.from.ensures, ← c.as_slice-in-Some.ensures, ← c.as_slice-in-Some-2.ensures)
    c.write_with_parcel.ensures

pub returns-in-None : goal.returns-in-None
unfolding piece_text
returns-in-None g c =
    let h = c.in-None.ensures.lookup in
    let e = c.as_slice.ensures in
    let none = selector_none c.args.system.now c.args.method.0 (rw e at h.3) in
    rw (asked_text-none c.args.system.now c.args.word.now c.args.service.0 c.args.method.0 c.args.parcel.now none, ← c.from.ensures)
    c.write_with_parcel-in-None.ensures
