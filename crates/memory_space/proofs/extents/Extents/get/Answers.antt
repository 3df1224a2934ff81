use Rattle.std.proofs.Common.{◌≡◌, ◌∙◌, ◌+◌, ◌-◌, ap, arith, ℕ, take, drop}
use Rattle.std.specs.Int.{w32}
use Rattle.std.proofs.lemmas.Int.{to_z-of_z}
use Rattle.region_bytes.specs.Extents.{number_read}
use Rattle.memory_space.proofs.Placed.{first_cell, last_cell, number_seen, room_there}
use Rattle.memory_space.proofs.extents.Extents.get.Goals as goal

pub cell_of-from-requires-clause-first : goal.cell_of-from-requires-clause-first
cell_of-from-requires-clause-first c = first_cell c.self.inside c.args.self.now c.args.extent c.args.at c.args.width c.self.view_is c.self.invariant c.requires.within

pub cell_of-from-requires-clause-last : goal.cell_of-from-requires-clause-last
cell_of-from-requires-clause-last c =
    last_cell c.self.inside c.args.self.now c.args.extent c.args.at c.args.width c.as_slice.result.now c.self.view_is c.self.invariant c.requires.within c.as_slice.ensures.value

pub overflow_add-from : goal.overflow_add-from
overflow_add-from c =
    omega (
      arith,
      room_there c.self.inside c.args.self.now c.args.extent c.args.at c.args.width c.cell_of-from.result c.as_slice.result.now c.as_slice-cells.result.now c.self.view_is c.self.invariant c.requires.within c.as_slice.ensures.value c.cell_of-from.ensures c.as_slice-cells.ensures.value,
      c.as_slice-cells.type_inv.0,
    )

pub slice_bounds-read-end : goal.slice_bounds-read-end
slice_bounds-read-end c =
    room_there c.self.inside c.args.self.now c.args.extent c.args.at c.args.width c.cell_of-from.result c.as_slice.result.now c.as_slice-cells.result.now c.self.view_is c.self.invariant c.requires.within c.as_slice.ensures.value c.cell_of-from.ensures c.as_slice-cells.ensures.value

pub returns : goal.returns
returns c =
    let now = c.as_slice-cells.result.now in
    let from = c.cell_of-from.result in
    let width : from + c.args.width - from ≡ c.args.width = omega arith in
    to_z-of_z w32 c.read.result (record { sfits = c.read.type_inv })
    ∙ c.read.ensures
    ∙ ap (λ (k : ℕ). number_read (take k (drop from now))) width
    ∙ number_seen c.self.inside c.args.self.now c.args.extent c.args.at c.args.width from c.as_slice.result.now now c.self.view_is c.self.invariant c.requires.within c.as_slice.ensures.value c.cell_of-from.ensures c.as_slice-cells.ensures.value
