use Rattle.std.proofs.Common.{◌≡◌, ◌++◌, map, take}
use Rattle.machine_model.specs.State.{default_of}
use Rattle.machine_start.proofs.cores.add_defaults.Given as goal

abbrev pub invariant-loop-field : goal.invariant-loop-field
invariant-loop-field l =
    l.values.items ≡ l.initial.values.items ++ map (λ f. default_of f.descriptor) (take l.field-index l.fields)
