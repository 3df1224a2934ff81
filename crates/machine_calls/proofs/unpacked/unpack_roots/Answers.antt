use Rattle.std.proofs.Common.{◌≡◌, ◌∙◌, ◌<◌, ap, sym, arith, Some, Ok, Err}
use Rattle.interp_core.specs.Cores.{store_of}
use Rattle.domain_heap.specs.Heaps.{HeapState}
use Rattle.machine_model.specs.AfterEntry.{root_values}
use Rattle.machine_model.specs.State.{Store}
use Rattle.param_copy.specs.declared.fault.UnpackFault.TheVariants as fault
use Rattle.program_model.specs.ParcelParts.{node_cells}
use Rattle.machine_calls.proofs.Unpacking.{nodes_fit, nodes_unfit}
use Rattle.machine_calls.proofs.unpacked.unpack_roots.Goals as goal

pub returns-in-Ok-clause-roots : goal.returns-in-Ok-clause-roots
unfolding node_cells root_values
returns-in-Ok-clause-roots c =
    let store = store_of c.args.core.now in
    let some : store.left < node_cells c.args.parcel.now → ⊥ = λ h. let q : Ok c.in-Ok.roots ≡ Err fault.NoRoom = c.in-Ok.ensures.room.1 h in cc in
    let with_heap = λ (h : HeapState). let k : Store = record { objects = h.objects; left = h.left; statics = store.statics; literals = store.literals; exports = store.exports } in k in
    (nodes_fit store c.args.parcel.now (omega (arith, some)) ∙ ap (λ (h : HeapState). Some (with_heap h)) (sym c.in-Ok.ensures.objects), c.in-Ok.ensures.roots)

pub returns-in-Err-NoRoom-clause-roots : goal.returns-in-Err-NoRoom-clause-roots
returns-in-Err-NoRoom-clause-roots c =
    let store = store_of c.args.core.now in
    let with_heap = λ (h : HeapState). let k : Store = record { objects = h.objects; left = h.left; statics = store.statics; literals = store.literals; exports = store.exports } in k in
    (nodes_unfit store c.args.parcel.now (c.in-Err-NoRoom.ensures.room.0 (ap Err c.in-Err-NoRoom.field-0-is)), ap with_heap c.in-Err-NoRoom.ensures.unchanged)
