use Rattle.std.proofs.Common.{◌≡◌, ℕ, List, refl, arith, subst, sym}
use Rattle.std.specs.Prelude.{codes}
use Rattle.jx_base.specs.ClassNames.{is_name_byte, has_filled_parts, is_reserved, is_class_name}
use Rattle.jx_top.specs.Commands.{IsFileOf, IsSystemName}
use Rattle.test_jx_top.proofs.first_run.serial_call_runs_the_class.Goals as goal

is_file_of : IsFileOf (codes "Hello.class") (codes "Hello")
unfolding is_name_byte has_filled_parts is_reserved is_class_name
is_file_of = record { joined = refl; class_name = refl; short = omega arith }

is_system : (file : List ℕ) → file ≡ codes "Hello.class" → IsSystemName file
is_system file e = subst (λ (x : List ℕ). IsSystemName x) (sym e) (λ _. (codes "Hello", is_file_of))

pub jx_serial-status-requires : goal.jx_serial-status-requires
jx_serial-status-requires g c = record { system = is_system _ c.in_ok-from_str.ensures.ok; one_worker = refl }
