use Rattle.std.proofs.Common.{◌≡◌, ◌∙◌, ◌-◌, ap, sym, subst, ℕ, List, arith}
use Rattle.std.specs.Prelude.{IfSome}
use Rattle.std.proofs.lemmas.List.{length-set}
use Rattle.jx_base.specs.Basics.{numbered}
use Rattle.jx_model.specs.Tables.{ExtentRecord}
use Rattle.memory_space.specs.Cells.{records_of}
use Rattle.memory_space.specs.ExtentLists.{ExtentsState, IsClear, without_bytes}
use Rattle.table_threads.specs.Changes.{changed_at}
use Rattle.memory_space.proofs.Forgotten.{IsForgotten, forgotten, idle, place_last, some_first}
use Rattle.std.proofs.Math.ListN.{set}
use Rattle.memory_space.proofs.extents.Extents.forget.Goals as goal

pub overflow_sub-place : goal.overflow_sub-place
overflow_sub-place c = some_first c.args.self.now.items c.args.extent c.requires

pub index-row-requires : goal.index-row-requires
index-row-requires c = omega (arith, place_last c.self.inside c.args.self.now c.args.extent c.self.view_is c.requires, c.self.inside.rows.ok.0)

pub index_mut-requires : goal.index_mut-requires
index_mut-requires c = omega (arith, place_last c.self.inside c.args.self.now c.args.extent c.self.view_is c.requires, c.self.inside.rows.ok.0)

all : (c : goal.After-extent_granules) → IsForgotten c.self.inside c.args.self.now c.args.extent c.index-row.result.now
all c = forgotten c.self.inside c.args.self.now c.args.extent c.index-row.result.now c.self.view_is c.self.invariant c.requires c.index-row.ensures

pub invariant_of-self : goal.invariant_of-self
invariant_of-self c =
    let f = all c in
    let inv = c.self.invariant in
    let size = length-set c.self.inside.rows.items (c.args.extent - 1) (idle c.index-row.result.now) in
    record {
      cells = inv.cells;
      few = omega (arith, size, inv.few);
      room = inv.room;
      rows = f.rows;
      apart = f.apart;
    }

pub returns-clause-run : goal.returns-clause-run
returns-clause-run c =
    subst (λ (n : ℕ). IfSome (numbered c.args.self.now.items c.args.extent) (λ item. item.run ≡ (c.index-row.result.now.at, n))) (sym c.extent_granules.ensures) (all c).run

pub returns-clause-clear : goal.returns-clause-clear
returns-clause-clear c =
    subst (λ (n : ℕ). IsClear (records_of c.self.inside.cells.items (set c.self.inside.rows.items (c.args.extent - 1) (idle c.index-row.result.now))) (c.index-row.result.now.at, n)) (sym c.extent_granules.ensures) (all c).clear

pub returns-clause-after : goal.returns-clause-after
returns-clause-after c =
    ap (λ (es : List ExtentRecord). let z : ExtentsState = record { granules = c.self.inside.granules; items = es } in z) (all c).seen
    ∙ ap (λ (z : ExtentsState). let w : ExtentsState = record { granules = z.granules; items = changed_at (c.args.extent - 1) without_bytes c.args.self.now.items } in w) c.self.view_is
