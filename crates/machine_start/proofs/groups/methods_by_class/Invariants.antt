use Rattle.std.proofs.Common.{◌≡◌, ◌<◌, ℕ, take, map, slice_get, Some}
use Rattle.std.specs.Prelude.{filter}
use Rattle.machine_start.specs.Found.{is_declared_at}
use Rattle.program_model.specs.Lookup.{class_count}
use Rattle.machine_start.proofs.groups.methods_by_class.Given as goal

abbrev pub invariant-loop-method : goal.invariant-loop-method
invariant-loop-method l =
    (c : ℕ) → c < class_count l.system
    → slice_get (map (λ g. g.items) l.groups.items) c ≡ Some (filter (is_declared_at l.system c) (take l.method-index l.methods))
