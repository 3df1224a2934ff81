use Rattle.std.proofs.Common.{◌∙◌, ◌-◌, sym, ap, arith, set, Option, None, Vec, Global, ℕ}
use Rattle.std.specs.Option.{option_map}
use Rattle.std.proofs.lemmas.List.{map-set}
use Rattle.region_bytes.specs.Extents.{extents_of}
use Rattle.region_bytes.proofs.OneExtent.{bytes_there, found, read_there}
use Rattle.region_bytes.proofs.extents.take_bytes.Goals as goal

pub overflow_sub-x : goal.overflow_sub-x
overflow_sub-x c = (found c.args.extents.now.items c.args.x c.requires).first

pub index_mut-requires : goal.index_mut-requires
index_mut-requires c = let below = (found c.args.extents.now.items c.args.x c.requires).below in omega (arith, below, c.args.extents.now.ok.0)

pub unreachable-requires : goal.unreachable-requires
unreachable-requires c =
    let there = read_there c.args.extents.now.items c.args.x c.requires c.index_mut.result.now c.index_mut.ensures.value in
    let taken = c.take.ensures.value in
    let none = c.in-None.is in
    cc

pub returns-clause-bytes : goal.returns-clause-bytes
returns-clause-bytes c =
    bytes_there c.args.extents.now.items c.args.x c.in-Some.bytes c.requires c.index_mut.result.now c.index_mut.ensures.value (sym c.take.ensures.value ∙ c.in-Some.is)

pub returns-clause-rest : goal.returns-clause-rest
returns-clause-rest c =
    let items = c.args.extents.now.items in let i = c.args.x - 1 in
    ap (λ (o : Option (Vec ℕ Global)). extents_of (set items i o)) c.take.ensures.after ∙ map-set (option_map (λ bytes. bytes.items)) items i None
