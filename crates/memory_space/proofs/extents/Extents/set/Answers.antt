use Rattle.std.proofs.Common.{◌∙◌, ap}
use Rattle.std.specs.Int.{w32}
use Rattle.std.specs.Prelude.{ℤ}
use Rattle.std.proofs.lemmas.Int.{to_z-of_z}
use Rattle.jx_base.specs.Basics.{low_byte}
use Rattle.table_extents.specs.ExtentChanges.{written}
use Rattle.memory_space.proofs.Placed.{first_cell, last_cell, room_there, written_seen}
use Rattle.memory_space.proofs.extents.Extents.set.Goals as goal

pub cell_of-from-requires-clause-first : goal.cell_of-from-requires-clause-first
cell_of-from-requires-clause-first c = first_cell c.self.inside c.args.self.now c.args.extent c.args.at c.args.width c.self.view_is c.self.invariant c.requires.within

pub cell_of-from-requires-clause-last : goal.cell_of-from-requires-clause-last
cell_of-from-requires-clause-last c =
    last_cell c.self.inside c.args.self.now c.args.extent c.args.at c.args.width c.as_slice.result.now c.self.view_is c.self.invariant c.requires.within c.as_slice.ensures.value

pub put_number-requires-clause-within : goal.put_number-requires-clause-within
put_number-requires-clause-within c =
    room_there c.self.inside c.args.self.now c.args.extent c.args.at c.args.width c.cell_of-from.result c.as_slice.result.now c.as_mut_slice.result.now c.self.view_is c.self.invariant c.requires.within c.as_slice.ensures.value c.cell_of-from.ensures c.as_mut_slice.ensures.value

pub returns : goal.returns
returns c =
    written_seen c.self.inside c.args.self.now c.args.extent c.args.at c.args.width c.cell_of-from.result (low_byte c.args.value) c.as_slice.result.now c.as_mut_slice.result.now c.put_number.new.bytes
    c.self.view_is c.self.invariant c.requires.within c.as_slice.ensures.value c.cell_of-from.ensures c.as_mut_slice.ensures.value
    (c.put_number.ensures ∙ ap (λ (v : ℤ). written 0 c.cell_of-from.result c.args.width (low_byte v) c.as_mut_slice.result.now) (to_z-of_z w32 c.args.value c.ranges.value))
