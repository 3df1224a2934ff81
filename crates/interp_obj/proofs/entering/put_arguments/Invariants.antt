use Rattle.std.proofs.Common.{◌≡◌, ◌≤◌, drop, length}
use Rattle.machine_model.specs.State.{locals_with}
use Rattle.interp_obj.proofs.entering.put_arguments.Given as goal

abbrev pub invariant-loop-argument : goal.invariant-loop-argument
invariant-loop-argument l =
    (locals_with l.initial.locals 0 l.arguments ≡ locals_with l.locals l.place (drop l.argument-index l.arguments))
    × ((length l.locals ≡ length l.initial.locals) × (l.place ≤ length l.locals))
