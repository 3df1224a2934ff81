-- What a domain that starts needs.
use Rattle.std.proofs.Common.{◌≡◌, ◌==◌, ◌<◌, List, [], ◌∷◌, length, slice_get, false, refl, arith}
use Rattle.std.specs.Prelude.{◌^◌, IsSome}
use Rattle.jx_base.specs.declared.program.System.{System}
use Rattle.jx_base.specs.Histories.{own_entries}
use Rattle.program_model.specs.Lookup.{class_count, template_at}
use Rattle.machine_replies.specs.Leaving.{CanRun}
use Rattle.domain_machine.specs.Machines.{IsMachineOf, MachineState, StandsFor}

-- a list that isn't empty has a first item
first_is_there : {A : Type 0} (xs : List A) → (length xs == 0) ≡ false → IsSome (slice_get xs 0)
first_is_there [] h = absurd cc
first_is_there (x ∷ xs) h = refl

-- what is promised for few classes, where the list is that short
pub with_few_classes : (s : System) → (class_count s < 2 ^ 32 → CanRun s) → length s.program.classes < 2 ^ 32 → CanRun s
unfolding class_count
with_few_classes s promised few = promised few

-- a system with templates has a first one
pub first_template : (s : System) → (length s.plan.templates == 0) ≡ false → IsSome (template_at s 0)
unfolding template_at
first_template s some = first_is_there s.plan.templates some

-- a domain without entries is domain 1 of the empty history
pub is_machine : (s : System) (m : MachineState) → StandsFor s 0 [] m → IsMachineOf s m
unfolding own_entries
is_machine s m h = (0, ([], [], (1, (h, record { admitted = tt; made = omega arith; own_are = refl }))))
