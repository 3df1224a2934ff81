use Rattle.std.proofs.Common.{◌∙◌, sym, ap, List, Some, ℕ}
use Rattle.region_bytes.proofs.OneExtent.{bytes_there, found, read_there}
use Rattle.region_bytes.proofs.extents.bytes_at.Goals as goal

pub overflow_sub-x : goal.overflow_sub-x
overflow_sub-x c = (found c.args.extents.now c.args.x c.requires).first

pub bounds-extents-x : goal.bounds-extents-x
bounds-extents-x c = (found c.args.extents.now c.args.x c.requires).below

pub unreachable-requires : goal.unreachable-requires
unreachable-requires c =
    let there = read_there c.args.extents.now c.args.x c.requires c.index-extents-x.result c.index-extents-x.is in
    let none = c.in-None.is in
    cc

pub returns : goal.returns
returns c =
    bytes_there c.args.extents.now c.args.x c.in-Some.bytes c.requires c.index-extents-x.result c.index-extents-x.is c.in-Some.is
    ∙ ap (λ (bs : List ℕ). Some bs) (sym c.as_slice.ensures.value)
