use Rattle.std.proofs.Common.{◌≡◌, ◌+◌, ◌*◌, ◌≤◌, ap, length, ℕ, List, arith}
use Rattle.std.specs.Vec.{with_items}
use Rattle.memory_space.specs.ExtentLists.{ExtentsState}
use Rattle.memory_space.proofs.Placed.{IsAdded, added, granules_hold}
use Rattle.memory_space.proofs.extents.Extents.add.Goals as goal

pub put_same-requires : goal.put_same-requires
put_same-requires c =
    let x = c.self.inside in
    let granules : x.granules ≡ c.args.self.now.granules = ap (λ (z : ExtentsState). z.granules) c.self.view_is in
    let within : 64 * c.args.at + c.args.size ≤ length x.cells.items = granules_hold c.args.at c.args.size x.granules (length x.cells.items) (omega (arith, c.requires.within, granules)) c.self.invariant.cells in
    let same : length c.as_mut_slice.result.now ≡ length x.cells.items = ap (λ (cells : List ℕ). length cells) c.as_mut_slice.ensures.value in
    omega (arith, within, same, c.start.ensures.cell)

all : (c : goal.After-len) → IsAdded c.self.inside c.args.self.now (with_items c.self.inside.cells c.put_same.new.bytes) c.push_reserved.new.self c.args.at c.args.size
all c =
    added c.self.inside c.args.self.now c.args.at c.args.size c.start.result c.as_mut_slice.result.now c.put_same.new.bytes c.push_reserved.new.self c.self.view_is c.self.invariant
    c.requires.room c.requires.some c.requires.within c.requires.clear c.start.ensures.cell c.as_mut_slice.ensures.value c.put_same.ensures c.push_reserved.ensures.items c.push_reserved.ensures.capacity

pub invariant_of-self : goal.invariant_of-self
invariant_of-self c = (all c).extents

pub returns-clause-after : goal.returns-clause-after
returns-clause-after c = (all c).seen
