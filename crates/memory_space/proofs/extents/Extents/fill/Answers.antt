use Rattle.memory_space.proofs.Placed.{first_cell, last_cell, room_there, written_seen}
use Rattle.memory_space.proofs.extents.Extents.fill.Goals as goal

pub cell_of-from-requires-clause-first : goal.cell_of-from-requires-clause-first
cell_of-from-requires-clause-first c = first_cell c.self.inside c.args.self.now c.args.extent c.args.at c.args.count c.self.view_is c.self.invariant c.requires

pub cell_of-from-requires-clause-last : goal.cell_of-from-requires-clause-last
cell_of-from-requires-clause-last c =
    last_cell c.self.inside c.args.self.now c.args.extent c.args.at c.args.count c.as_slice.result.now c.self.view_is c.self.invariant c.requires c.as_slice.ensures.value

pub put_same-requires : goal.put_same-requires
put_same-requires c =
    room_there c.self.inside c.args.self.now c.args.extent c.args.at c.args.count c.cell_of-from.result c.as_slice.result.now c.as_mut_slice.result.now c.self.view_is c.self.invariant c.requires c.as_slice.ensures.value c.cell_of-from.ensures c.as_mut_slice.ensures.value

pub returns : goal.returns
returns c =
    written_seen c.self.inside c.args.self.now c.args.extent c.args.at c.args.count c.cell_of-from.result (λ _. c.args.byte) c.as_slice.result.now c.as_mut_slice.result.now c.put_same.new.bytes
    c.self.view_is c.self.invariant c.requires c.as_slice.ensures.value c.cell_of-from.ensures c.as_mut_slice.ensures.value c.put_same.ensures
