use Rattle.std.proofs.Common.{◌∙◌, ◌+◌, ℕ, get_or}
use Rattle.memory_space.specs.ExtentLists.{byte_in}
use Rattle.memory_space.proofs.Placed.{copied_seen, first_cell, last_cell, room_there, written_seen}
use Rattle.memory_space.proofs.Windows.{written_same}
use Rattle.memory_space.proofs.extents.Extents.copy.Goals as goal

pub cell_of-from-requires-clause-first : goal.cell_of-from-requires-clause-first
cell_of-from-requires-clause-first c = first_cell c.self.inside c.args.self.now c.args.extent c.args.at c.args.count c.self.view_is c.self.invariant c.requires.from

pub cell_of-from-requires-clause-last : goal.cell_of-from-requires-clause-last
cell_of-from-requires-clause-last c =
    last_cell c.self.inside c.args.self.now c.args.extent c.args.at c.args.count c.as_slice.result.now c.self.view_is c.self.invariant c.requires.from c.as_slice.ensures.value

pub cell_of-to-requires-clause-first : goal.cell_of-to-requires-clause-first
cell_of-to-requires-clause-first c = first_cell c.self.inside c.args.self.now c.args.target c.args.target_at c.args.count c.self.view_is c.self.invariant c.requires.to

pub cell_of-to-requires-clause-last : goal.cell_of-to-requires-clause-last
cell_of-to-requires-clause-last c =
    last_cell c.self.inside c.args.self.now c.args.target c.args.target_at c.args.count c.as_slice-2.result.now c.self.view_is c.self.invariant c.requires.to c.as_slice-2.ensures.value

pub move_within-requires-clause-from : goal.move_within-requires-clause-from
move_within-requires-clause-from c =
    room_there c.self.inside c.args.self.now c.args.extent c.args.at c.args.count c.cell_of-from.result c.as_slice.result.now c.as_mut_slice.result.now c.self.view_is c.self.invariant c.requires.from c.as_slice.ensures.value c.cell_of-from.ensures c.as_mut_slice.ensures.value

pub move_within-requires-clause-to : goal.move_within-requires-clause-to
move_within-requires-clause-to c =
    room_there c.self.inside c.args.self.now c.args.target c.args.target_at c.args.count c.cell_of-to.result c.as_slice-2.result.now c.as_mut_slice.result.now c.self.view_is c.self.invariant c.requires.to c.as_slice-2.ensures.value c.cell_of-to.ensures c.as_mut_slice.ensures.value

pub returns : goal.returns
returns c =
    let y = c.args.self.now in
    let now = c.as_mut_slice.result.now in
    let from = c.cell_of-from.result in
    let f : ℕ → ℕ = byte_in y.items c.args.extent c.args.at in
    written_seen c.self.inside y c.args.target c.args.target_at c.args.count c.cell_of-to.result f c.as_slice-2.result.now now c.move_within.new.bytes
    c.self.view_is c.self.invariant c.requires.to c.as_slice-2.ensures.value c.cell_of-to.ensures c.as_mut_slice.ensures.value
    (c.move_within.ensures
    ∙ written_same c.cell_of-to.result c.args.count (λ k. get_or now (from + k) 0) f 0 now
    (copied_seen c.self.inside y c.args.extent c.args.at c.args.count from c.as_slice.result.now now c.self.view_is c.self.invariant c.requires.from c.as_slice.ensures.value c.cell_of-from.ensures c.as_mut_slice.ensures.value))
