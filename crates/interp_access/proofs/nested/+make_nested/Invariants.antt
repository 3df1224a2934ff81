use Rattle.std.proofs.Common.{◌≡◌, ◌-◌}
use Rattle.machine_model.specs.ObjectRows.{with_elements}
use Rattle.interp_core.specs.Cores.{core_state, running_stack, store_of}
use Rattle.interp_access.proofs.NestedLaws.{inner}
use Rattle.interp_access.proofs.nested.+make_nested.Given as goal

abbrev pub decreases-make_nested : goal.decreases-make_nested
decreases-make_nested l = l.dimensions

abbrev pub invariant-loop-place : goal.invariant-loop-place
invariant-loop-place l = record {
  elements : with_elements (inner l.system (running_stack (core_state l.fn.core)) l.inner l.name) l.array l.place (l.count - l.place) (store_of l.core)
      ≡ with_elements (inner l.system (running_stack (core_state l.fn.core)) l.inner l.name) l.array 0 l.count (store_of l.initial.core);
  frames : l.core.frames ≡ l.fn.core.frames;
}
