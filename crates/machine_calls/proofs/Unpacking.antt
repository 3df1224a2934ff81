-- The store with the nodes of a parcel.
use Rattle.std.proofs.Common.{◌≡◌, refl, ◌-◌, ◌<◌, ◌≤◌, ◌++◌, Bool, true, false, length, map, Some, None, arith}
use Rattle.std.specs.Prelude.{nat_le, if◌then◌else◌}
use Rattle.std.proofs.lemmas.Bool.Decides.{nat_tests}
use Rattle.jx_base.specs.declared.value.Parcel.{Parcel}
use Rattle.machine_model.specs.AfterEntry.{with_nodes}
use Rattle.machine_model.specs.State.{Store}
use Rattle.program_model.specs.ParcelParts.{node_cells}
use Rattle.program_model.specs.Parcels.{unpacked_object, unpacked_objects}

-- the store with the objects that the nodes are
abbrev pub with_objects : Store → Parcel → Store
with_objects store p = record store { objects = store.objects ++ map (unpacked_object (length store.objects)) p.nodes; left = store.left - node_cells p }

module _ (store : Store) (p : Parcel) where
  -- they have room
  pub nodes_fit : node_cells p ≤ store.left → with_nodes store p ≡ Some (with_objects store p)
  unfolding with_nodes unpacked_objects
  nodes_fit h = by (nat_le (node_cells p) store.left) refl
    where
      by : (b : Bool) → nat_le (node_cells p) store.left ≡ b → (if b then Some (with_objects store p) else None) ≡ Some (with_objects store p)
      by true e = refl
      by false e = absurd (grind (arith, nat_tests, e))

  -- they have none
  pub nodes_unfit : store.left < node_cells p → with_nodes store p ≡ None
  unfolding with_nodes unpacked_objects
  nodes_unfit h = by (nat_le (node_cells p) store.left) refl
    where
      by : (b : Bool) → nat_le (node_cells p) store.left ≡ b → (if b then Some (with_objects store p) else None) ≡ None
      by false e = refl
      by true e = absurd (grind (arith, nat_tests, e))
